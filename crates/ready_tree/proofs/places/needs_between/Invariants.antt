use Rattle.ready_tree.proofs.Common.{ℕ, ◌<◌, ◌≤◌, place_at, Covers}
use Rattle.ready_tree.proofs.places.needs_between.Given as goal

abbrev pub invariant-loop-other : goal.invariant-loop-other
invariant-loop-other l = (k : ℕ) → l.start ≤ k → k < l.other → Covers l.needs (place_at l.places k)
