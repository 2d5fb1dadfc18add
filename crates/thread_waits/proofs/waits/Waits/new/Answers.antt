use Rattle.std.proofs.Common.{refl}
use Rattle.thread_waits.proofs.StartLaws.{start_counted}
use Rattle.thread_waits.proofs.waits.Waits.new.Goals as goal

pub invariant_of-result : goal.invariant_of-result
invariant_of-result c = start_counted _ c.in_ok-places.ensures refl refl refl refl c.in_ok-sleepers.ensures c.in_ok-takers.ensures
