use Rattle.std.proofs.Common.{ap, ◌∙◌}
use Rattle.rv_code.specs.Decoding.{decoding}
use Rattle.rv_code.proofs.Inverse.{decoding-encoding}
use Rattle.rv_code.proofs.encoding.encode.Goals as goal

pub returns-clause-back : goal.returns-clause-back
returns-clause-back c = ap decoding c.word_of.ensures.word ∙ decoding-encoding c.args.instr c.word_of.ensures.ranges
