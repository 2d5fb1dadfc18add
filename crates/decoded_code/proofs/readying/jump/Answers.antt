use Rattle.std.proofs.Common.{sym, ◌∙◌}
use Rattle.decoded_code.proofs.readying.jump.Goals as goal

pub returns-then-number-eq0 : goal.returns-then-number-eq0
returns-then-number-eq0 c = λ place instr jumps calls. c.reading.ensures place instr (jumps (sym c.number.ensures.value ∙ c.if-number-eq0.true))
