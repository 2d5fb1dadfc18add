-- What the code of the walk stores about the functions that have been left.
use Rattle.std.specs.Prelude.{ℕ, ◌≡◌, ◌<◌, ◌+◌, ◌==◌, nat_le, Bool, true, false, if◌then◌else◌, List, [], ◌∷◌, length}
use Rattle.std.specs.List.{AllByRecursion, slice_index_or}
use Rattle.call_graph.specs.Callees.{greatest}
use Rattle.call_graph.specs.Lists.{has}
use Rattle.cycle_break.specs.Walk.{Walked}

-- a walk that has left these functions, with any back edges
abbrev pub come : List ℕ → Walked
come left = record { left = left; back = [] }

-- whether a function is marked
abbrev pub is_marked : List Bool → ℕ → Bool
is_marked visited function = slice_index_or visited function false

-- the number of functions that aren't marked
abbrev pub unmarked : List Bool → ℕ
unmarked [] = 0
unmarked (b ∷ bs) = (if b then 0 else 1) + unmarked bs

-- if no function is on the path, the marked functions are those that have been left
pub record IsMarked (functions : ℕ) (visited : List Bool) (left : List ℕ) : Type 0 where
  pub each : length visited ≡ functions
  pub marks : (function : ℕ) → function < functions → is_marked visited function ≡ has function left
  pub below : AllByRecursion (λ function. function < functions) left

-- of some functions, those before an index are marked
abbrev pub AreMarkedBelow : List Bool → List ℕ → ℕ → Type 0
AreMarkedBelow visited functions end =
    (place : ℕ) → place < end → place < length functions → is_marked visited (slice_index_or functions place 0) ≡ true

-- of each table, the members before an index are marked
pub record IsSeen (tables : List (List ℕ)) (visited : List Bool) (seen : List ℕ) : Type 0 where
  pub each : length seen ≡ length tables
  pub marks : (table : ℕ) → AreMarkedBelow visited (slice_index_or tables table []) (slice_index_or seen table 0)

-- the position, counted from 1, of a number in a list, or 0 if it isn't in it; counting continues
-- from a position
abbrev pub place_from : ℕ → ℕ → List ℕ → ℕ
place_from place n [] = 0
place_from place n (x ∷ xs) = if x == n then place + 1 else place_from (place + 1) n xs

-- the position, counted from 1, at which a function was left, if the functions were left in this
-- order
abbrev pub rank : List ℕ → ℕ → ℕ
rank order function = place_from 0 function order

-- whether one of these functions was left no earlier than a function
abbrev pub is_later : List ℕ → ℕ → List ℕ → Bool
is_later order function callees = nat_le (rank order function) (greatest (rank order) callees)
