use Rattle.thread_waits.proofs.Common.{◌≡◌, Bool, None, cond, false, sym, ◌∙◌, ap, later_wake, number_or, wake_of, is_at_message}
use Rattle.thread_waits.proofs.kinds.sleep_number.Goals as goal

pub returns-else-is_at_message : goal.returns-else-is_at_message
returns-else-is_at_message c =
    let none : is_at_message c.args.exchange.now.exchange c.args.wait ≡ false = sym c.is_at_message.ensures ∙ c.if-is_at_message.false in
    c.later.ensures (wake_of c.args.wait) c.wake_number.ensures ∙ sym (ap (λ (b : Bool). number_or (cond b None (later_wake c.args.clock c.args.wait))) none)
