use Rattle.event_trace.proofs.LineTexts.{arrive_without_value}
use Rattle.event_trace.proofs.parsing.parse_arrive.Goals as goal

pub returns-in_err-value-clause-none : goal.returns-in_err-value-clause-none
returns-in_err-value-clause-none c = rw c.from_residual-in_err-value.ensures (arrive_without_value _ _ _ c.in_ok-time.ensures.found.0 c.in_err-value.ensures.none)
