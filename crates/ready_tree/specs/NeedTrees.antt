-- The queues for which a tree of needs stands, by their numbers.
use Rattle.std.specs.Prelude.{ℕ, ◌≡◌, ◌+◌, ◌/◌, ◌<◌, ◌≤◌, false, Option, Some, None, List, length}
use Rattle.ready_tree.specs.declared.bounds.Bounds.{Bounds}
use Rattle.ready_tree.specs.declared.needs.Needs.{Needs}
use Rattle.ready_tree.specs.Needs.{is_some_met}
use Rattle.ready_tree.specs.Nodes.{AreJoined, node_at}

-- the number of queues that have a place
abbrev pub queues_of : List Needs → ℕ
queues_of nodes = length nodes / 2

-- the needs of the threads of a queue
abbrev pub needs_of : List Needs → ℕ → Needs
needs_of nodes queue = node_at nodes (length nodes / 2 + queue)

-- a tree, or no nodes
abbrev pub AreJoinedIf : List Needs → Type 0
AreJoinedIf nodes = 1 ≤ length nodes → AreJoined nodes

-- none of the queues from one on and before another has a need that is met
pub record NoneMet (bounds : Bounds) (nodes : List Needs) (from to : ℕ) : Type 0 where
  pub none : (queue : ℕ) → from ≤ queue → queue < to → is_some_met bounds (needs_of nodes queue) ≡ false

-- a queue from this one on, such that none between the two has a need that is met
pub record IsFirstFrom (bounds : Bounds) (nodes : List Needs) (from queue : ℕ) : Type 0 where
  pub behind : from ≤ queue
  pub there : queue < queues_of nodes
  pub before : NoneMet bounds nodes from queue

-- the next queue from this one on, and none if no further one has a need that is met
abbrev pub IsNextQueue : Bounds → List Needs → ℕ → Option ℕ → Type 0
IsNextQueue bounds nodes from None = NoneMet bounds nodes from (queues_of nodes)
IsNextQueue bounds nodes from (Some queue) = IsFirstFrom bounds nodes from queue
