-- The pc and registers of a world's threads.
use Rattle.std.specs.Prelude.{ℕ, List, Option, Some, None, if◌then◌else◌, nat_eq, option_map, slice_index_or}
use Rattle.slab.specs.Slab.{get}
use Rattle.cap_word.specs.declared.threads.ThreadId.{ThreadId}
use Rattle.machine_world.specs.Threads.{Thread, thread_of}
use Rattle.rv_machine.specs.Registers.{read}
use Rattle.stack_certificate.specs.Registers.{sp, t0, t1}
use Rattle.thread_core.specs.Ready.{is_same_number}
use Rattle.thread_core.specs.Worlds.{Held}
use Rattle.thread_core.specs.declared.records.Record.{Record}
use Rattle.thread_core.specs.declared.standing.Standing.{Standing}
use Rattle.thread_core.specs.declared.state.State.{State}

-- what is shown of a pc and registers
abbrev pub standing_at : ℕ → List ℕ → Standing
standing_at pc x = record { pc = pc; sp = read x sp; t0 = read x t0; t1 = read x t1 }

abbrev pub standing_of : Thread → Standing
standing_of thread = standing_at thread.core.pc thread.core.x

-- the thread at a place with a number; None if it isn't live
abbrev pub standing_in : Held → ThreadId → Option Standing
standing_in held thread =
    if is_same_number (slice_index_or held.places thread.slot None) thread.number
    then option_map standing_of (thread_of held.machine thread.number)
    else None

-- ---- by its record

abbrev pub standing_by : ThreadId → Option Record → Option Standing
standing_by thread None = None
standing_by thread (Some r) = if nat_eq r.number thread.number then Some (standing_at r.context.pc r.context.x) else None

abbrev pub standing_for : State → ThreadId → Option Standing
standing_for st thread = standing_by thread (get st.records thread.slot)
