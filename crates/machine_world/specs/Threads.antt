-- All threads over one pool: the world of live threads, and what one step of the running thread leads to. The idea of
-- cooperative threads on linked chunks is Capriccio's (SOSP 2003).
use Rattle.std.specs.Prelude.{ℕ, ◌+◌, List, [], ◌∷◌, ◌++◌, length, map, filter, replicate, not, Option, Some, None, if◌then◌else◌, nat_eq, nat_le}
use Rattle.cap_word.specs.Calls.{Call, Blocking, Immediate, most_threads}
use Rattle.cap_word.specs.Runs as runs
use Rattle.cap_word.specs.declared.calls.Ask.{Ask}
use Rattle.cap_word.specs.declared.calls.Block.{Block}
use Rattle.cap_word.specs.declared.stops.Stop.{Stop}
use Rattle.cap_word.specs.declared.traps.TrapKind.{TrapKind}
use Rattle.c_mean.specs.ModelledCalls.{Exchange, blocking_row, ImmediateRow, immediate_row}
use Rattle.chunk_pool.specs.Pool.{Taken, taken_for, end_of, payload_place_of}
use Rattle.stack_image.specs.Addresses.{code_start}
use Rattle.machine_world.specs.Areas.{Areas}
use Rattle.machine_world.specs.Local as local
use Rattle.machine_world.specs.Local.{Core, Local, LocalMove, local_step, passed, with_header}

-- the call at which a thread is blocked, and the clock at which it blocked
pub record Blocked : Type 0 where
  pub block : Block
  pub since : ℕ

-- a live thread: its number, its pc, registers and chain, and the call at which it is blocked. A thread that hasn't run
-- yet and the running one are blocked at none.
pub record Thread : Type 0 where
  pub number : ℕ
  pub core : Core
  pub blocked : Option Blocked

-- the live threads in the order of their numbers, the areas, the queues and uses of resources, the clock, the total of
-- retired instructions, the number of the next thread, and the thread whose segment is in progress
pub record World : Type 0 where
  pub threads : List Thread
  pub areas : Areas
  pub exchange : Exchange
  pub clock : ℕ
  pub cost : ℕ
  pub next : ℕ
  pub running : Option ℕ

-- what stays the same during a run: the code, the maximum number of instructions, the maximum length of a queue, and
-- the caps of the resources by number
pub record Setting : Type 0 where
  pub code : List ℕ
  pub fuel : ℕ
  pub backlog : ℕ
  pub caps : List ℕ

-- ---- threads by number

-- the first thread of that number, and the live thread of that number of a world
abbrev pub first_with : ℕ → List Thread → Option Thread
first_with number [] = None
first_with number (thread ∷ threads) = if nat_eq thread.number number then Some thread else first_with number threads

abbrev pub thread_of : World → ℕ → Option Thread
thread_of w number = first_with number w.threads

-- the threads with that thread in place of the one with its number, and without the one of a number
abbrev pub replaced : Thread → List Thread → List Thread
replaced new threads = map (λ thread. if nat_eq thread.number new.number then new else thread) threads

abbrev pub without : ℕ → List Thread → List Thread
without number threads = filter (λ thread. not (nat_eq thread.number number)) threads

-- ---- the start of a thread

-- the registers of a new thread: ra at the end stub, sp at its chunk's end, tp at its payload, a0 its argument
abbrev pub start_registers : ℕ → ℕ → ℕ → List ℕ
start_registers sp_now tp_now argument =
    0 ∷ code_start ∷ sp_now ∷ 0 ∷ tp_now ∷ 0 ∷ 0 ∷ 0 ∷ 0 ∷ 0 ∷ argument ∷ replicate 21 0

-- a new thread at an entry, on the chunk that was taken; its header has no saved tp and sp
abbrev pub start_core : Taken → ℕ → ℕ → Core
start_core taken entry argument = record {
  pc = entry;
  x = start_registers (end_of taken.pool taken.chunk) (payload_place_of taken.pool taken.chunk) argument;
  chain = taken.chunk ∷ [];
}

-- the world with one more thread
abbrev pub with_thread : World → Taken → ℕ → ℕ → World
with_thread w taken entry argument = record w {
  threads = w.threads ++ record { number = w.next; core = start_core taken entry argument; blocked = None } ∷ [];
  areas = record w.areas { pool = with_header taken.pool taken.chunk 0 0 };
  next = w.next + 1;
}

-- ---- a step of the running thread

-- what a step of the world leads to
pub data Move : Type 0 where
  -- the segment continues
  Goes : (after : World) → Move
  -- the segment continues, and a value was put
  Puts : (value : ℕ) (after : World) → Move
  -- the segment continues, and a thread of that number has started
  Spawns : (number : ℕ) (after : World) → Move
  -- the segment has ended: its thread is blocked, or has ended
  Blocks : (after : World) → Move
  Ends : (after : World) → Move
  -- the run stops; nothing has changed
  Stops : (stop : Stop) → Move
  -- a wrong step: no checked image makes one
  Wrong : Move

-- the world after an instruction of a thread has retired
abbrev pub retired : World → Thread → Areas → World
retired w thread areas = record w {
  threads = replaced thread w.threads;
  areas = areas;
  clock = w.clock + 1;
  cost = w.cost + 1;
}

-- the thread after its ECALL, with the call's result
abbrev pub resumed : Thread → Option ℕ → Thread
resumed thread result = record thread { core = passed thread.core result; blocked = None }

-- a trap, if there is one, stops the run
abbrev pub unless_trap : Option TrapKind → Move → Move
unless_trap (Some kind) move = Stops (Stop.Trap kind)
unless_trap None move = move

-- the result of a call, if it gives one
abbrev pub result_of : Ask → ℕ → Option ℕ
result_of (Ask.Put value) result = None
result_of (Ask.Spawn function argument) result = Some result
result_of (Ask.Give resource amount) result = None
result_of Ask.SelfNumber result = Some result

abbrev pub result_on : Block → ℕ → Option ℕ
result_on Block.Accept result = Some result
result_on (Block.Wait channel) result = Some result
result_on (Block.Sleep ticks) result = None
result_on Block.Yield result = None
result_on (Block.Take resource amount) result = None
result_on (Block.WaitFor channel ticks) result = Some result

-- a move that puts a value, if there is one
abbrev pub printed : Option ℕ → World → Move
printed None after = Goes after
printed (Some value) after = Puts value after

-- a call that is answered at once, by its row in the table of the modelled calls
abbrev pub answered : World → Thread → Ask → ImmediateRow → Move
answered w thread ask row =
    unless_trap row.trap (printed row.prints (record (retired w (resumed thread (result_of ask row.result)) w.areas) { exchange = row.after }))

-- a call that blocks: its ECALL retires, and the thread is just after it
abbrev pub blocks : World → Thread → Block → Option TrapKind → Move
blocks w thread block trap =
    unless_trap trap (Blocks (record (retired w (record thread {
      core = passed thread.core None;
      blocked = Some (record { block = block; since = w.clock + 1 });
    }) w.areas) { running = None }))

-- the row of a call in the table of the modelled calls determines the move
abbrev pub package_call : Setting → World → Thread → Call → Move
package_call s w thread (Blocking block) = blocks w thread block (blocking_row s.caps w.exchange block).trap
package_call s w thread (Immediate ask) = answered w thread ask (immediate_row s.caps w.exchange thread.number w.next ask)

-- SPAWN: the number of live threads is tested before the free chunks
abbrev pub spawned : World → Thread → ℕ → ℕ → Option Taken → Move
spawned w thread entry argument None = Stops Stop.NoChunk
spawned w thread entry argument (Some taken) =
    Spawns w.next (with_thread (retired w (resumed thread (Some w.next)) w.areas) taken entry argument)

abbrev pub starts : World → Thread → ℕ → ℕ → ℕ → Move
starts w thread entry argument need =
    if nat_le most_threads (length w.threads) then Stops Stop.Threads else spawned w thread entry argument (taken_for w.areas.pool need)

-- what a question of the thread leads to
abbrev pub asked : Setting → World → Thread → local.Question → Move
asked s w thread (local.Calls call) = package_call s w thread call
asked s w thread (local.Starts entry argument need) = starts w thread entry argument need

-- what an end of the thread leads to: the world without it, or a stop
abbrev pub stopped : World → Thread → local.End → Move
stopped w thread (local.Ended areas) =
    Ends (record w {
      threads = without thread.number w.threads;
      areas = areas;
      clock = w.clock + 1;
      cost = w.cost + 1;
      running = None;
    })
stopped w thread (local.Trapped kind) = Stops (Stop.Trap kind)
stopped w thread local.NoRoom = Stops Stop.NoChunk
stopped w thread local.Wrong = Wrong

-- what a step of the thread leads to in the world
abbrev pub moved : Setting → World → Thread → LocalMove → Move
moved s w thread (runs.Goes after) = Goes (retired w (record thread { core = after.core }) after.areas)
moved s w thread (runs.Asks question waiting) = asked s w thread question
moved s w thread (runs.Stops end) = stopped w thread end

-- the thread over the areas of its world
abbrev pub local_in : World → Thread → Local
local_in w thread = record { areas = w.areas; core = thread.core }

-- a step of the running thread; the fuel is tested first
abbrev pub step_of : Setting → World → Option Thread → Move
step_of s w None = Wrong
step_of s w (Some thread) =
    if nat_eq w.cost s.fuel then Stops Stop.Fuel else
    moved s w thread (local_step s.code (local_in w thread))

abbrev pub step_on : Setting → World → Option ℕ → Move
step_on s w None = Wrong
step_on s w (Some number) = step_of s w (thread_of w number)

-- one instruction of the running thread
unfoldable pub step : Setting → World → Move
step s w = step_on s w w.running
