-- The policy of a run: its limits, and the rule by which a thread is chosen.
use Rattle.std.specs.Prelude.{ℕ, ◌+◌, List, ◌∷◌, drop}
use Rattle.resource_monitor.specs.declared.curves.Curve.{Curve}

-- the rule by which one of the eligible threads is chosen
pub data Rule : Type 0 where
  -- by the blocking graph and the pressure on the resources
  by_graph : Rule
  -- by strides, by the tickets of threads with these numbers; every other thread has one
  by_stride : (tickets : List (ℕ × ℕ)) → Rule

pub record Policy : Type 0 where
  -- the number of chunks of the certificate's size, the number of added chunks and their size in bytes, the maximum
  -- number of instructions, and the maximum number of items in a queue
  pub chunks : ℕ
  pub extra : ℕ
  pub extra_bytes : ℕ
  pub fuel : ℕ
  pub backlog : ℕ
  -- the caps of the resources by their numbers; number 0 isn't read, and a cap of 0 means that the resource doesn't
  -- exist
  pub caps : List ℕ
  -- the curve of each resource's pressure, the least pressure at which the gate closes, and the greatest at which
  -- it opens
  pub curves : List Curve
  pub high : ℕ
  pub low : ℕ
  -- the rule of choice
  pub rule : Rule

-- the caps of all eight resources: that of resource 0 is the number of all chunks
abbrev pub all_caps : Policy → List ℕ
all_caps policy = (policy.chunks + policy.extra) ∷ drop 1 policy.caps
