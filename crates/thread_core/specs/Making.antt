-- The world in which a run starts, and the deliveries and advances of a world.
use Rattle.std.specs.Prelude.{◌≡◌, ℕ, ◌+◌, ◌*◌, ◌%◌, ◌<◌, ◌≤◌, Some, None, if◌then◌else◌, slice_index}
use Rattle.c_mean.specs.ModelledCalls.{is_dropped}
use Rattle.c_mean.specs.World as source
use Rattle.choice_rules.specs.Deliveries.{delivery_of}
use Rattle.accepted_pairs.specs.Accepting.{accepted_tree}
use Rattle.accepted_pairs.specs.Acceptance.{Acceptance}
use Rattle.event_trace.specs.declared.events.EventKind.{EventKind}
use Rattle.event_trace.specs.declared.events.EventKind.TheVariants.{Arrive, Message as Sent}
use Rattle.machine_world.specs.Areas.{Areas, new_areas}
use Rattle.machine_world.specs.Runs.{start_world, delivered, advanced}
use Rattle.machine_world.specs.StandsForWorld.{StandsForWorld}
use Rattle.machine_world.specs.WellFormed.{IsWellFormed}
use Rattle.segment_run.specs.Contexts.{checked_of, code_of}
use Rattle.stack_certificate.specs.Certificates.{fact_at}
use Rattle.thread_core.specs.Worlds.{Held, IsThread}
use Rattle.thread_core.specs.declared.policy.WorldPolicy.{WorldPolicy}
use Rattle.thread_core.specs.declared.outside.Delivered.{Delivered}
use Rattle.thread_core.specs.declared.turns.WorldError.{WorldError}
use Rattle.thread_core.specs.declared.turns.WorldError.TheVariants.{Memory}

-- the policy is in its ranges, and the pool within its limit
pub record IsPolicy (accepted : Acceptance) (policy : WorldPolicy) (fuel : ℕ) : Type 0 where
  pub some_chunks : 1 ≤ policy.chunks
  pub chunks : policy.chunks ≤ 65536
  pub extra : policy.extra ≤ 65536
  pub extra_least : 32 ≤ policy.extra_bytes
  pub extra_most : policy.extra_bytes ≤ 65536
  pub extra_whole : policy.extra_bytes % 16 ≡ 0
  pub some_backlog : 1 ≤ policy.backlog
  pub backlog : policy.backlog ≤ 4096
  pub caps : (r : ℕ) → 0 < r → r < 8 → slice_index policy.caps r ≤ 1000000
  pub most : fuel ≤ 1000000000
  pub pool : policy.chunks * accepted.certificate.chunk + policy.extra * policy.extra_bytes ≤ 67108864

-- the areas in which a run of an accepted program under a policy starts: a new pool, and the globals and tables of the
-- image
abbrev pub start_areas : Acceptance → WorldPolicy → Areas
start_areas accepted policy =
    new_areas policy.chunks accepted.certificate.chunk policy.extra policy.extra_bytes accepted.image.globals accepted.image.tables

-- the start of a run of an accepted program under a policy: the machine's and the source's
pub record IsStart (accepted : Acceptance) (policy : WorldPolicy) (fuel : ℕ) (held : Held) : Type 0 where
  pub accepted_is : held.accepted ≡ accepted
  pub setting : held.setting ≡ record { code = code_of accepted; fuel = fuel; backlog = policy.backlog; caps = policy.caps }
  pub machine :
      start_world (start_areas accepted policy) (fact_at accepted.certificate (accepted_tree accepted).main).entry (fact_at accepted.certificate (accepted_tree accepted).main).bound ≡ Some held.machine
  pub formed : IsWellFormed (checked_of accepted) held.setting held.machine
  pub stands : StandsForWorld (checked_of accepted) (accepted_tree accepted) held.machine (source.start_world (accepted_tree accepted))
  pub main : IsThread held (record { slot = 0; number = 0 })
  pub begun : held.begun ≡ 0
  pub stopped : held.stopped ≡ None

-- ---- deliveries and the clock

abbrev pub IsEventInRange : EventKind → Type 0
IsEventInRange (Arrive value) = Unit {0}
IsEventInRange (Sent channel value) = channel < 64

abbrev pub after_event : Held → EventKind → Held
after_event held kind = record held { machine = delivered held.setting held.machine (delivery_of kind) }

abbrev pub delivery_answer : Held → EventKind → Delivered
delivery_answer held kind = if is_dropped held.setting.backlog held.machine.exchange (delivery_of kind) then Delivered.Dropped else Delivered.Queued

abbrev pub after_wait : Held → ℕ → Held
after_wait held to = record held { machine = advanced held.machine to }

-- the error has the program that was passed
abbrev pub HandsBack : Acceptance → WorldError → Type 0
HandsBack accepted (Memory back) = back ≡ accepted
