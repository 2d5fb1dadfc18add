-- Numbers at ranks: the place of a number among others in increasing order.
use Rattle.std.specs.Prelude.{◌≡◌, ℕ, ◌+◌, ◌-◌, ◌*◌, ◌/◌, List, length, Some, slice_get, IsPermutation, IsSorted}
use Rattle.std.specs.Ordering.{nat_cmp}
use Rattle.report_figures.specs.declared.spread.Spread.{Spread}

-- the place, from 0, of the nearest rank for p hundredths among n numbers: the rank, from 1, is the least with at least
-- p percent of the numbers at or before it
abbrev pub place_at : ℕ → ℕ → ℕ
place_at hundredths count = (hundredths * count + 99) / 100 - 1

-- the spread of numbers in increasing order
pub record IsReadOff (in_order : List ℕ) (s : Spread) : Type 0 where
  pub count : s.count ≡ length in_order
  pub least : slice_get in_order 0 ≡ Some s.least
  pub median : slice_get in_order (place_at 50 (length in_order)) ≡ Some s.median
  pub ninetieth : slice_get in_order (place_at 90 (length in_order)) ≡ Some s.ninetieth
  pub ninety_ninth : slice_get in_order (place_at 99 (length in_order)) ≡ Some s.ninety_ninth
  pub greatest : slice_get in_order (length in_order - 1) ≡ Some s.greatest

-- the spread of these numbers, in any order
pub record IsSpread (numbers : List ℕ) (s : Spread) : Type 0 where
  pub in_order : List ℕ
  pub same : IsPermutation numbers in_order
  pub sorted : IsSorted nat_cmp in_order
  pub read : IsReadOff in_order s
