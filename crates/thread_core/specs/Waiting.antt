-- What a live thread waits for.
use Rattle.std.specs.Prelude.{Option, Some, None, if◌then◌else◌, nat_eq}
use Rattle.slab.specs.Slab.{get}
use Rattle.cap_word.specs.declared.threads.ThreadId.{ThreadId}
use Rattle.thread_waits.specs.Waiting.{wait_at}
use Rattle.thread_waits.specs.declared.waits.Wait.{Wait}
use Rattle.thread_core.specs.declared.records.Record.{Record}
use Rattle.thread_core.specs.declared.state.State.{State}

abbrev pub wait_of : State → ThreadId → Option Record → Option Wait
wait_of st thread None = None
wait_of st thread (Some r) = if nat_eq r.number thread.number then wait_at st.waits thread.slot else None

-- what a thread waits for at a place, if its record is there
abbrev pub waits_for_in : State → ThreadId → Option Wait
waits_for_in st thread = wait_of st thread (get st.records thread.slot)
