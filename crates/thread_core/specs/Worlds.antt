-- What a world holds: the machine world, which its calls change, what a run doesn't change, the places of the threads'
-- records, and how the run has stopped.
use Rattle.std.specs.Prelude.{◌≡◌, ℕ, ◌-◌, List, Option, Some, None, IsSome, if◌then◌else◌, nat_eq, slice_index_or}
use Rattle.c_mean.specs.ModelledCalls.{cap_of, use_of}
use Rattle.accepted_pairs.specs.Acceptance.{Acceptance}
use Rattle.cap_word.specs.declared.threads.ThreadId.{ThreadId}
use Rattle.machine_world.specs.Threads.{World, Setting, thread_of}
use Rattle.thread_core.specs.declared.turns.Turn.{Turn}
use Rattle.chunk_pool.specs.Pool.{free_count}

pub record Held : Type 0 where
  pub accepted : Acceptance
  pub setting : Setting
  pub machine : World
  -- the number of the thread whose record is at each place
  pub places : List (Option ℕ)
  -- the number of instructions that had retired when the segment in progress, or the last one, began
  pub begun : ℕ
  -- how the run has stopped: by a cut or out of memory
  pub stopped : Option Turn

-- the record of the thread is at its place
abbrev pub IsThread : Held → ThreadId → Type 0
IsThread held thread = slice_index_or held.places thread.slot None ≡ Some thread.number

-- a thread that lives before and after has its record at the same place
abbrev pub KeepsPlaces : Held → Held → Type 0
KeepsPlaces old new = (thread : ThreadId) → IsThread old thread → IsSome (thread_of new.machine thread.number) → IsThread new thread

-- the cost of the segment in progress, or of the last one
abbrev pub segment_cost : Held → ℕ
segment_cost held = held.machine.cost - held.begun

-- ---- resources

-- the use of a resource; that of resource 0 is the number of held chunks
abbrev pub used_in : World → ℕ → ℕ
used_in w r = if nat_eq r 0 then w.areas.pool.count - free_count w.areas.pool else use_of w.exchange r

-- the cap of a resource; that of resource 0 is the number of chunks
abbrev pub cap_in : Held → ℕ → ℕ
cap_in held r = if nat_eq r 0 then held.machine.areas.pool.count else cap_of held.setting.caps r
