use Rattle.scheduler.proofs.Common.{slice_index, is_eligible, score, IsBestOf, IsPassed}
use Rattle.scheduler.proofs.choosing.best_of.Given as goal

abbrev pub invariant-loop-node : goal.invariant-loop-node
invariant-loop-node g l =
    IsBestOf (is_eligible (g.R.Ready.is_ready l.ready) (g.R.Ready.at_accept l.ready) (g.R.Ready.any_elsewhere l.ready) l.monitor.is_open)
    (score l.monitor l.graph.edges) (slice_index l.lasts) l.queues (IsPassed l.node-iterator) l.best
