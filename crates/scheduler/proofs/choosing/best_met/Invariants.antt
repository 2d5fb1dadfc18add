use Rattle.scheduler.proofs.Common.{ℕ, ◌<◌, ◌-◌, ◌^◌, Bool, slice_index, ThreadId, AreExact, entries_in, score, IsBestOf}
use Rattle.scheduler.proofs.choosing.best_met.Given as goal

abbrev pub invariant-loop-node : goal.invariant-loop-node
invariant-loop-node g l = (test : ThreadId → Bool) → ((node : ℕ) → AreExact l.bounds test (entries_in l.queues.queues node)) →
    IsBestOf test (score l.monitor l.graph.edges) (slice_index l.lasts) l.queues.queues (λ node. node < l.from) l.best

abbrev pub decreases-loop-node : goal.decreases-loop-node
decreases-loop-node g l = 2 ^ 32 - l.from
