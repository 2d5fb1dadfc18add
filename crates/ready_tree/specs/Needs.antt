-- The needs of threads, and when a need is met.
use Rattle.std.specs.Prelude.{ℕ, zero, suc, ◌≡◌, ◌==◌, ◌&&◌, ◌||◌, not, Bool, true, false, nat_le, nat_lt, bit_and, List, slice_index}
use Rattle.ready_tree.specs.declared.needs.Need.{Need}
use Rattle.ready_tree.specs.declared.needs.Needs.{Needs}
use Rattle.ready_tree.specs.declared.bounds.Bounds.{Bounds}

-- whether two sets of channels, by bits, have a channel in common
abbrev pub is_shared : ℕ → ℕ → Bool
is_shared channels others = not (bit_and channels others == 0)

-- whether a need is met
abbrev pub is_met : Bounds → Need → Bool
is_met bounds Need.Nothing = true
is_met bounds Need.Arrival = bounds.arrival
is_met bounds (Need.Event channels from) = is_shared bounds.channels channels || nat_le from bounds.clock
is_met bounds (Need.Amount resource amount) = nat_lt resource 8 && nat_le amount (slice_index bounds.unused resource)

-- whether a need is an arrival
abbrev pub is_arrival : Need → Bool
is_arrival Need.Nothing = false
is_arrival Need.Arrival = true
is_arrival (Need.Event channels from) = false
is_arrival (Need.Amount resource amount) = false

-- whether two needs are the same
abbrev pub is_same_need : Need → Need → Bool
is_same_need Need.Nothing Need.Nothing = true
is_same_need Need.Arrival Need.Arrival = true
is_same_need (Need.Event channels from) (Need.Event other_channels other_from) = channels == other_channels && from == other_from
is_same_need (Need.Amount resource amount) (Need.Amount other_resource other_amount) = resource == other_resource && amount == other_amount
is_same_need _ _ = false

-- whether the amount of one of the first resources is unused
unfoldable pub fits_first : List ℕ → List ℕ → ℕ → Bool
fits_first amounts unused zero = false
fits_first amounts unused (suc r) = fits_first amounts unused r || nat_le (slice_index amounts r) (slice_index unused r)

-- whether the need of some thread may be met
unfoldable pub is_some_met : Bounds → Needs → Bool
is_some_met bounds needs =
    needs.nothing
    || ((bounds.arrival && needs.arrival)
    || (is_shared bounds.channels needs.channels
    || (nat_le needs.from bounds.clock || fits_first needs.amounts bounds.unused 8)))

-- the needs of both groups of threads together
pub record IsJoin (needs left right : Needs) : Type 0 where
  pub met : (bounds : Bounds) → is_some_met bounds needs ≡ (is_some_met bounds left || is_some_met bounds right)
