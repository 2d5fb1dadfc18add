use Rattle.thread_waits.proofs.NeedBounds.{AreUnused}
use Rattle.thread_waits.proofs.needs.unused_of.Given as goal

abbrev pub invariant-loop-resource : goal.invariant-loop-resource
invariant-loop-resource l = AreUnused l.exchange.caps l.exchange.exchange l.resource l.unused
