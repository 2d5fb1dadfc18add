use Rattle.stride_rule.proofs.Common.{◌≡◌, ℕ, ◌<◌, false, length, is_of, row_at}
use Rattle.stride_rule.proofs.places.search_place.Given as goal

abbrev pub invariant-loop-place : goal.invariant-loop-place
invariant-loop-place l = (k : ℕ) → k < l.place → k < length l.places → is_of l.number (row_at l.places k) ≡ false
