-- Averages are the list of their values; the code keeps them in the first of eight places, and 0 in the
-- rest.
use Rattle.std.specs.Prelude.{◌≡◌, ℕ, ℤ, pos, ◌-◌, ◌≤◌, List, ◌++◌, length, take, drop, replicate}
use Rattle.std.proofs.lemmas.List.{length-take-le, take-append-drop}
use Rattle.std.proofs.Common.{arith}

-- the eight places of a list of values: the values, and then 0
abbrev pub places_of : List ℤ → List ℤ
places_of values = values ++ replicate (8 - length values) (pos 0)

-- the first `used` places, with 0 in the rest, are those of the values in them
pub length-take-used : (used : ℕ) (places : List ℤ) → used ≤ 8 → length places ≡ 8 → length (take used places) ≡ used
length-take-used used places most eight = length-take-le used places (omega arith)

pub places_of-take : (used : ℕ) (places : List ℤ) → used ≤ 8 → length places ≡ 8 →
    drop used places ≡ replicate (8 - used) (pos 0) → places_of (take used places) ≡ places
places_of-take used places most eight rest =
    rw (length-take-used used places most eight, ← rest) (take-append-drop used places)
