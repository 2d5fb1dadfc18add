use Rattle.stride_rule.proofs.Common.{ℕ, ◌<◌, ◌≤◌, row_at, Covers}
use Rattle.stride_rule.proofs.levels.summary_of_places.Given as goal

abbrev pub invariant-loop-place : goal.invariant-loop-place
invariant-loop-place l = (k : ℕ) → l.start ≤ k → k < l.place → Covers l.summary (row_at l.places k)
