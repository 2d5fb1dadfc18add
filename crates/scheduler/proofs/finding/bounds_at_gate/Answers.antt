use Rattle.scheduler.proofs.FindLemmas.{met_at_gate}
use Rattle.scheduler.proofs.finding.bounds_at_gate.Goals as goal

pub returns : goal.returns
returns g c = λ thread need known.
    rw c.arrival_at_gate-arrival.ensures
    (met_at_gate c.bounds-bounds.result need _ _ _ _ (c.bounds-bounds.ensures.ready thread need known) (c.bounds-bounds.ensures.at_accept thread need known))
