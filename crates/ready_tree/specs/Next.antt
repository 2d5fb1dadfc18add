-- The next leaf at which a need may be met.
use Rattle.std.specs.Prelude.{ℕ, ◌≡◌, ◌*◌, ◌/◌, ◌<◌, ◌≤◌, false, Option, Some, None, List, length}
use Rattle.ready_tree.specs.declared.bounds.Bounds.{Bounds}
use Rattle.ready_tree.specs.declared.needs.Needs.{Needs}
use Rattle.ready_tree.specs.declared.subtrees.Subtree.{Subtree}
use Rattle.ready_tree.specs.Needs.{is_some_met}
use Rattle.ready_tree.specs.Nodes.{doubled, IsLevel, node_at}

-- from one leaf on and before another no need is met
pub record NoneBetween (bounds : Bounds) (nodes : List Needs) (from to : ℕ) : Type 0 where
  pub none : (leaf : ℕ) → from ≤ leaf → leaf < to → is_some_met bounds (node_at nodes leaf) ≡ false

-- a subtree at this number of levels above the leaves, such that no need is met from the leaf at
-- which the search starts up to the subtree
pub record IsReached (bounds : Bounds) (nodes : List Needs) (subtree : Subtree) : Type 0 where
  pub above : ℕ
  pub leaves : length nodes / 2 ≡ doubled above subtree.level
  pub power : IsLevel subtree.level 1
  pub some : 1 ≤ subtree.level
  pub from : subtree.level ≤ subtree.node
  pub to : subtree.node < 2 * subtree.level
  pub at : subtree.first ≤ doubled above subtree.node
  pub before : NoneBetween bounds nodes subtree.first (doubled above subtree.node)

-- the next subtree from this leaf on, and none if from there on no need is met
abbrev pub IsNextSubtree : Bounds → List Needs → ℕ → Option Subtree → Type 0
IsNextSubtree bounds nodes first None = NoneBetween bounds nodes first (length nodes)
IsNextSubtree bounds nodes first (Some subtree) = (subtree.first ≡ first) × IsReached bounds nodes subtree

-- the next leaf from this one on, and none if from there on no need is met
pub record IsNextLeaf (bounds : Bounds) (nodes : List Needs) (first leaf : ℕ) : Type 0 where
  pub behind : first ≤ leaf
  pub there : leaf < length nodes
  pub before : NoneBetween bounds nodes first leaf
