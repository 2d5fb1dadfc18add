use Rattle.ready_tree.proofs.Common.{◌≡◌, ℕ, ◌<◌, false, length, place_at, may_go}
use Rattle.ready_tree.proofs.places.first_met.Given as goal

abbrev pub invariant-loop-place : goal.invariant-loop-place
invariant-loop-place l = (k : ℕ) → k < l.place → k < length l.places → may_go l.bounds (place_at l.places k) ≡ false
