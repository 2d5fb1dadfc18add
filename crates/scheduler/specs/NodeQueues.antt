-- The tree above the queues of the nodes.
use Rattle.std.specs.Prelude.{ℕ, ◌≡◌, ◌<◌, ◌≤◌, ◌^◌, false, IsSome, Option, Some, None, List}
use Rattle.std.specs.List.{AllByRecursion}
use Rattle.std.specs.BTreeMap.{BTreeMap, get}
use Rattle.std.specs.Ordering.{nat_cmp}
use Rattle.ready_tree.specs.declared.bounds.Bounds.{Bounds}
use Rattle.ready_tree.specs.declared.entries.Entry.{Entry}
use Rattle.ready_tree.specs.declared.needs.Needs.{Needs}
use Rattle.ready_tree.specs.Needs.{is_met}
use Rattle.ready_tree.specs.NeedTrees.{needs_of, queues_of}
use Rattle.ready_tree.specs.Trees.{CoversAll}
use Rattle.scheduler.specs.Queues.{entries_in}

-- the tree has a place for each queue, with needs that cover each thread of it
pub record AreCovered (queues : BTreeMap ℕ (List (Option Entry))) (above : List Needs) : Type 0 where
  pub placed : (node : ℕ) → IsSome (get nat_cmp queues node) → node < queues_of above
  pub numbered : (node : ℕ) → IsSome (get nat_cmp queues node) → node < 2 ^ 32
  pub covered : (node : ℕ) → CoversAll (needs_of above node) (entries_in queues node)

-- no thread's need is met
abbrev pub AreUnmet : Bounds → List Entry → Type 0
AreUnmet bounds entries = AllByRecursion (λ entry. is_met bounds entry.need ≡ false) entries

-- a node from this number on, such that at no node between the two a need is met
pub record IsFirstNode (bounds : Bounds) (queues : BTreeMap ℕ (List (Option Entry))) (from node : ℕ) : Type 0 where
  pub behind : from ≤ node
  pub before : (other : ℕ) → from ≤ other → other < node → AreUnmet bounds (entries_in queues other)

-- the next node, and none if from there on no need is met
abbrev pub IsNextNode : Bounds → BTreeMap ℕ (List (Option Entry)) → ℕ → Option ℕ → Type 0
IsNextNode bounds queues from None = (other : ℕ) → from ≤ other → AreUnmet bounds (entries_in queues other)
IsNextNode bounds queues from (Some node) = IsFirstNode bounds queues from node
