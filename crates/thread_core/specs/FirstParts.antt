-- The parts of a world before its first thread.
use Rattle.std.specs.Prelude.{◌≡◌, ◌≤◌, [], ◌∷◌, None}
use Rattle.c_mean.specs.World.{empty_exchange}
use Rattle.accepted_pairs.specs.Acceptance.{Acceptance}
use Rattle.machine_world.specs.WellFormed.{AreWellFormed}
use Rattle.segment_run.specs.Contexts.{checked_of}
use Rattle.thread_core.specs.declared.making.Parts.{Parts}
use Rattle.thread_core.specs.declared.policy.WorldPolicy.{WorldPolicy}
use Rattle.thread_core.specs.Making.{start_areas}

-- every chunk is free, globals and tables are the image's, the queues are empty, no resource is in use, and there is
-- room for a record
pub record AreParts (accepted : Acceptance) (policy : WorldPolicy) (parts : Parts) : Type 0 where
  pub areas : parts.areas ≡ start_areas accepted policy
  pub formed : AreWellFormed (checked_of accepted) parts.areas
  pub exchange : parts.exchange ≡ record { caps = policy.caps; backlog = policy.backlog; exchange = empty_exchange }
  pub waits : parts.waits ≡ record { places = None ∷ []; clock = 0 }
  pub records : parts.records.slots ≡ []
  pub first_key : parts.records.vacant_key ≡ 0
  pub room : 1 ≤ parts.records.capacity
