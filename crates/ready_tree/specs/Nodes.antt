-- The layout of the tree in a list: node i has the children 2 * i and 2 * i + 1, from node 1 on, and the leaves, a
-- power of 2 of them, are the second half.
use Rattle.std.specs.Prelude.{ℕ, zero, suc, ◌≡◌, ◌≢◌, ◌+◌, ◌-◌, ◌*◌, ◌/◌, ◌^◌, ◌<◌, ◌≤◌, false, List, length, replicate, slice_index_or}
use Rattle.ready_tree.specs.declared.needs.Needs.{Needs}
use Rattle.ready_tree.specs.Needs.{IsJoin}

-- the needs of no threads
abbrev pub no_needs : Needs
no_needs = record { nothing = false; arrival = false; channels = 0; from = 2 ^ 64 - 1; amounts = replicate 8 (2 ^ 32 - 1) }

abbrev pub node_at : List Needs → ℕ → Needs
node_at nodes i = slice_index_or nodes i no_needs

-- a number doubled this number of times
unfoldable pub doubled : ℕ → ℕ → ℕ
doubled zero n = n
doubled (suc times) n = doubled times (2 * n)

-- a level that begins with this node is this number of levels above the leaves
pub record IsLevel (leaves first : ℕ) : Type 0 where
  pub above : ℕ
  pub same : leaves ≡ doubled above first

-- as many inner nodes as leaves, including node 0, which isn't used
pub record IsWhole (nodes : List Needs) : Type 0 where
  pub some : 1 ≤ length nodes / 2
  pub even : length nodes ≡ 2 * (length nodes / 2)
  pub level : IsLevel (length nodes / 2) 1

-- node i is the join of its children
abbrev pub IsNode : List Needs → ℕ → Type 0
IsNode nodes i = IsJoin (node_at nodes i) (node_at nodes (2 * i)) (node_at nodes (2 * i + 1))

pub record AreJoined (nodes : List Needs) : Type 0 where
  pub whole : IsWhole nodes
  pub node : (i : ℕ) → 1 ≤ i → i < length nodes / 2 → IsNode nodes i

-- all nodes but one are the join of their children
pub record AreJoinedBut (nodes : List Needs) (but : ℕ) : Type 0 where
  pub whole : IsWhole nodes
  pub node : (i : ℕ) → 1 ≤ i → i < length nodes / 2 → i ≢ but → IsNode nodes i

-- a tree over the blocks of at least this number of places, without waiting threads
pub record IsBlank (nodes : List Needs) (places : ℕ) : Type 0 where
  pub joined : AreJoined nodes
  pub enough : places < 16 * (length nodes / 2)
