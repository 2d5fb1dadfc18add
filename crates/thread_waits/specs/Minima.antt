-- The layout of a tree of minima in a list: node i is above its children 2 * i and 2 * i + 1, from node 1 on, and the
-- leaves are the second half.
use Rattle.std.specs.Prelude.{◌≡◌, ◌≢◌, ℕ, ◌+◌, ◌*◌, ◌/◌, ◌<◌, ◌≤◌, List, length, drop, min, slice_index}

-- node i is the minimum of its children
abbrev pub IsNode : List ℕ → ℕ → Type 0
IsNode nodes i = slice_index nodes i ≡ min (slice_index nodes (2 * i)) (slice_index nodes (2 * i + 1))

-- there are as many nodes as leaves, including node 0, which isn't used
pub record IsDouble (nodes : List ℕ) : Type 0 where
  pub some : 1 ≤ length nodes / 2
  pub even : length nodes ≡ 2 * (length nodes / 2)

pub record AreMinima (nodes : List ℕ) : Type 0 where
  pub double : IsDouble nodes
  pub node : (i : ℕ) → 1 ≤ i → i < length nodes / 2 → IsNode nodes i

-- all nodes except one are the minima of their children
pub record AreMinimaBut (nodes : List ℕ) (but : ℕ) : Type 0 where
  pub double : IsDouble nodes
  pub node : (i : ℕ) → 1 ≤ i → i < length nodes / 2 → i ≢ but → IsNode nodes i

abbrev pub leaves_in : List ℕ → List ℕ
leaves_in nodes = drop (length nodes / 2) nodes
