-- The ranges of a world's setup, and a world that is made of it.
use Rattle.std.specs.Prelude.{ℕ, ◌*◌, ◌≤◌, List, [], ◌∷◌}
use Rattle.thread_core.specs.Making.{IsPolicy, IsStart}
use Rattle.thread_core.specs.Worlds.{Held}
use Rattle.thread_core.specs.declared.policy.WorldPolicy.{WorldPolicy}

-- one resource has a cap
abbrev pub caps_of : ℕ → List ℕ
caps_of units = 0 ∷ units ∷ 0 ∷ 0 ∷ 0 ∷ 0 ∷ 0 ∷ 0 ∷ []

abbrev pub policy_of : ℕ → ℕ → ℕ → WorldPolicy
policy_of chunks backlog units = record { chunks = chunks; extra = 0; extra_bytes = 64; backlog = backlog; caps = caps_of units }

-- possible values of the chunk size, the number of chunks, the fuel, the length of a queue and the units of the one
-- resource
pub record IsGiven (chunk chunks fuel backlog units : ℕ) : Type 0 where
  pub some_chunks : 1 ≤ chunks
  pub chunks_most : chunks ≤ 65536
  pub some_backlog : 1 ≤ backlog
  pub backlog_most : backlog ≤ 4096
  pub units_most : units ≤ 1000000
  pub fuel_most : fuel ≤ 1000000000
  pub pool : chunks * chunk ≤ 67108864

-- a world in which a run starts, with this number of chunks, this fuel, queues of this length and these units
pub record IsMade (chunks fuel backlog units : ℕ) (held : Held) : Type 0 where
  pub ranges : IsPolicy held.accepted (policy_of chunks backlog units) fuel
  pub made : IsStart held.accepted (policy_of chunks backlog units) fuel held
