use Rattle.std.proofs.Common.{ℕ, ◌<◌}
use Rattle.thread_waits.proofs.ReadyLaws.{IsIdle}
use Rattle.thread_waits.proofs.waits.Waits.any_at_channel.Given as goal

abbrev pub invariant-loop-channel : goal.invariant-loop-channel
invariant-loop-channel l = (k : ℕ) → k < l.channel → IsIdle l.exchange.exchange l.self-inside.places.items k
