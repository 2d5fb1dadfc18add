use Rattle.std.proofs.Common.{rules}
use Rattle.rv_code.proofs.Fits.{back, none}
use Rattle.rv_code.proofs.decoding.decode.Goals as goal

pub returns-clause-back : goal.returns-clause-back
returns-clause-back c = back c.args.word c.by_opcode.result (search rules) c.by_opcode.ensures

pub returns-clause-none : goal.returns-clause-none
returns-clause-none c = none c.args.word c.by_opcode.result c.by_opcode.ensures
