-- The state of a world as the machine world: the live threads are found by their numbers.
use Rattle.std.specs.Prelude.{ℕ, ◌-◌, List, map, Option, Some, None, option_map}
use Rattle.cap_word.specs.declared.threads.ThreadId.{ThreadId}
use Rattle.accepted_pairs.specs.Acceptance.{Acceptance}
use Rattle.chunk_pool.specs.Pool.{Pool}
use Rattle.machine_world.specs.Threads.{Blocked, Thread, World, Setting}
use Rattle.segment_run.specs.Contexts.{core_of}
use Rattle.segment_laws.specs.Found.{threads_in}
use Rattle.thread_waits.specs.Waiting.{Waiting, wait_at}
use Rattle.thread_waits.specs.declared.waits.Wait.{Wait}
use Rattle.thread_core.specs.declared.records.Record.{Record}
use Rattle.thread_core.specs.declared.state.State.{State}

-- ---- the thread of a record

abbrev pub blocked_of : Option Wait → Option Blocked
blocked_of None = None
blocked_of (Some Wait.Fresh) = None
blocked_of (Some (Wait.At block since)) = Some (record { block = block; since = since })

abbrev pub thread_of_record : Pool → Waiting → ℕ → Record → Thread
thread_of_record pool waits place r = record { number = r.number; core = core_of pool r.context; blocked = blocked_of (wait_at waits place) }

abbrev pub number_of : Record → ℕ
number_of r = r.number

abbrev pub threads_of : State → List Thread
threads_of st = threads_in number_of (thread_of_record st.areas.pool st.waits) st.records.slots st.next

-- ---- the whole

abbrev pub setting_of : Acceptance → ℕ → State → Setting
setting_of accepted most st = record { code = accepted.image.code; fuel = most; backlog = st.exchange.backlog; caps = st.exchange.caps }

abbrev pub number_in : Option ThreadId → Option ℕ
number_in running = option_map (λ thread. thread.number) running

abbrev pub machine_of : ℕ → State → World
machine_of most st = record {
  threads = threads_of st;
  areas = st.areas;
  exchange = st.exchange.exchange;
  clock = st.waits.clock;
  cost = most - st.fuel.left;
  next = st.next;
  running = number_in st.running;
}

-- the number of the thread whose record is at each place
abbrev pub numbers_of : State → List (Option ℕ)
numbers_of st = map (option_map number_of) st.records.slots
