use Rattle.thread_waits.proofs.Common.{sym, ◌∙◌, arith, bit_at-zero}
use Rattle.thread_waits.proofs.NeedBounds.{held_more, held_no_more, shared_one}
use Rattle.thread_waits.proofs.needs.held_channels.Goals as goal
use Rattle.thread_waits.proofs.needs.held_channels.Goals.{then-holds_message, else-holds_message}

pub loop-channel-init : goal.loop-channel-init
loop-channel-init c = record { done = λ k h. absurd (omega arith); left = λ k h. bit_at-zero k }

pub loop-channel-preserved : goal.loop-channel-preserved
loop-channel-preserved c =
    elim c.if-holds_message.branch [
      | then-holds_message w ↦ held_more _ _ _ _ c.loop-channel.invariant c.loop-channel-test.true (sym c.holds_message.ensures ∙ w.if-holds_message.true) w.held-is
      | else-holds_message w ↦ held_no_more _ _ _ _ c.loop-channel.invariant (sym c.holds_message.ensures ∙ w.if-holds_message.false) w.held-is
    ]

pub returns : goal.returns
returns c = λ channel below. shared_one _ channel _ (c.loop-channel.invariant.done channel (omega arith))
