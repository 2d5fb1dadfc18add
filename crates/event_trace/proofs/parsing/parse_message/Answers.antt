use Rattle.event_trace.proofs.LineTexts.{message_without_value}
use Rattle.event_trace.proofs.parsing.parse_message.Goals as goal

pub returns-in_err-value-clause-none : goal.returns-in_err-value-clause-none
returns-in_err-value-clause-none c =
    rw c.from_residual-in_err-value.ensures (message_without_value _ _ _ _ _ c.in_ok-time.ensures.found.0 c.in_ok-channel.ensures.found.0 c.in_err-value.ensures.none)
