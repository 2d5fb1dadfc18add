-- The tree above the blocks of places.
use Rattle.std.specs.Prelude.{ℕ, ◌≡◌, ◌≢◌, ◌+◌, ◌*◌, ◌/◌, ◌<◌, ◌≤◌, true, Option, Some, List, length}
use Rattle.std.specs.List.{AllByRecursion}
use Rattle.ready_tree.specs.declared.bounds.Bounds.{Bounds}
use Rattle.ready_tree.specs.declared.entries.Entry.{Entry}
use Rattle.ready_tree.specs.declared.needs.Needs.{Needs}
use Rattle.ready_tree.specs.Needs.{is_some_met}
use Rattle.ready_tree.specs.Nodes.{AreJoined, node_at, IsBlank}
use Rattle.ready_tree.specs.Entries.{entries_of, place_at, may_go}

-- if the need of the thread at the place is met, the joined needs may be met
pub record Covers (needs : Needs) (place : Option Entry) : Type 0 where
  pub met : (bounds : Bounds) → may_go bounds place ≡ true → is_some_met bounds needs ≡ true

-- the same for each thread
abbrev pub CoversAll : Needs → List Entry → Type 0
CoversAll needs entries = AllByRecursion (λ entry. Covers needs (Some entry)) entries

-- the tree is that above the blocks of these places
pub record IsAbove (nodes : List Needs) (places : List (Option Entry)) : Type 0 where
  pub joined : AreJoined nodes
  pub fits : length places ≤ 16 * (length nodes / 2)
  pub covers : (place : ℕ) → place < length places → Covers (node_at nodes (length nodes / 2 + place / 16)) (place_at places place)

-- the same except for the leaf of one block
pub record IsAboveBut (nodes : List Needs) (places : List (Option Entry)) (block : ℕ) : Type 0 where
  pub joined : AreJoined nodes
  pub fits : length places ≤ 16 * (length nodes / 2)
  pub covers : (place : ℕ) → place < length places → place / 16 ≢ block → Covers (node_at nodes (length nodes / 2 + place / 16)) (place_at places place)

-- the same if there is a tree
abbrev pub IsAboveIf : List Needs → List (Option Entry) → Type 0
IsAboveIf nodes places = 1 ≤ length nodes → IsAbove nodes places

abbrev pub IsAboveButIf : List Needs → List (Option Entry) → ℕ → Type 0
IsAboveButIf nodes places block = 1 ≤ length nodes → IsAboveBut nodes places block

abbrev pub IsBlankIf : List Needs → ℕ → Type 0
IsBlankIf nodes places = 1 ≤ length nodes → IsBlank nodes places

-- more than this number of places have a block below the tree
abbrev pub HasPlaces : List Needs → ℕ → Type 0
HasPlaces nodes count = 1 ≤ length nodes → count < 16 * (length nodes / 2)

-- there is room for one more place
abbrev pub HasRoom : List Needs → List (Option Entry) → Type 0
HasRoom nodes places = HasPlaces nodes (length places)

-- the same threads, with a tree above them and room for one more
pub record IsGathered (old places : List (Option Entry)) (nodes : List Needs) : Type 0 where
  pub same : entries_of places ≡ entries_of old
  pub above : IsAboveIf nodes places
  pub room : HasRoom nodes places
