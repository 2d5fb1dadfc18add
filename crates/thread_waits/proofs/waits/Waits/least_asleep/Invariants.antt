use Rattle.thread_waits.proofs.Common.{silent_wake, IsLeastOfFirst}
use Rattle.thread_waits.proofs.waits.Waits.least_asleep.Given as goal

abbrev pub invariant-loop-place : goal.invariant-loop-place
invariant-loop-place l = IsLeastOfFirst (silent_wake l.exchange.exchange l.self-inside.clock) l.self-inside.places.items l.place l.least
