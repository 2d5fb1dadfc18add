use Rattle.thread_waits.proofs.Common.{sym, ◌∙◌, inl, inr, arith, below_more}
use Rattle.thread_waits.proofs.ReadyLaws.{IsIdle, some_at_message, none_at_message}
use Rattle.thread_waits.proofs.waits.Waits.any_at_channel.Goals as goal
use Rattle.thread_waits.proofs.waits.Waits.any_at_channel.Goals.{else-self-channel-gt0-via-then-self-channel-gt0+else-holds_message, else-self-channel-gt0-via-else-self-channel-gt0}

pub returns-then-holds_message : goal.returns-then-holds_message
returns-then-holds_message c =
    rw (← c.self.view_is) (sym (some_at_message c.args.exchange.now.exchange c.self.inside.places.items c.loop-channel.channel (sym c.holds_message.ensures ∙ c.if-holds_message.true)
    (rw (← c.self.invariant.at_channels c.loop-channel.channel c.loop-channel-test.true) c.if-self-channel-gt0.true)))

pub loop-channel-preserved : goal.loop-channel-preserved
loop-channel-preserved c =
    below_more (IsIdle c.args.exchange.now.exchange c.self.inside.places.items) c.loop-channel.channel c.loop-channel.invariant
    (elim c.else-self-channel-gt0.branch [
      | else-self-channel-gt0-via-then-self-channel-gt0+else-holds_message w ↦ inr (sym w.holds_message.ensures ∙ w.if-holds_message.false)
      | else-self-channel-gt0-via-else-self-channel-gt0 w ↦ inl (let e = c.self.invariant.at_channels c.loop-channel.channel c.loop-channel-test.true in rw (← e) (omega arith))
    ])

pub returns : goal.returns
returns c =
    rw (← c.self.view_is) (sym (none_at_message c.args.exchange.now.exchange c.self.inside.places.items c.self.invariant.in_range (λ channel h. c.loop-channel.invariant channel (omega arith))))
