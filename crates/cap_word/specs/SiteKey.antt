-- A key is the list of its sites; the code keeps them in the first of eight places, and 0 in the
-- rest.
use Rattle.std.specs.Prelude.{◌≡◌, ℕ, ◌-◌, ◌≤◌, List, ◌++◌, length, take, drop, replicate}
use Rattle.std.proofs.lemmas.List.{length-take-le, take-append-drop}
use Rattle.std.proofs.Common.{arith}

-- the eight places of a list of sites: the sites, and then 0
abbrev pub places_of : List ℕ → List ℕ
places_of sites = sites ++ replicate (8 - length sites) 0

-- the first `used` places, with 0 in the rest, are those of the sites in them
pub length-take-used : (used : ℕ) (places : List ℕ) → used ≤ 8 → length places ≡ 8 → length (take used places) ≡ used
length-take-used used places most eight = length-take-le used places (omega arith)

pub places_of-take : (used : ℕ) (places : List ℕ) → used ≤ 8 → length places ≡ 8 →
    drop used places ≡ replicate (8 - used) 0 → places_of (take used places) ≡ places
places_of-take used places most eight rest =
    rw (length-take-used used places most eight, ← rest) (take-append-drop used places)
