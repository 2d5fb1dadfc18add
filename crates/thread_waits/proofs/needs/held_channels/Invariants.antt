use Rattle.thread_waits.proofs.Common.{channel_of, holds_some}
use Rattle.thread_waits.proofs.NeedBounds.{AreHeld}
use Rattle.thread_waits.proofs.needs.held_channels.Given as goal

abbrev pub invariant-loop-channel : goal.invariant-loop-channel
invariant-loop-channel l = AreHeld (λ k. holds_some (channel_of l.exchange.exchange k)) l.channel l.held
