-- Runs of the machine world: deliveries, advances of the clock, picks of a thread, and steps, one action after another.
use Rattle.std.specs.Prelude.{ℕ, zero, suc, Bool, true, false, ◌&&◌, List, [], ◌∷◌, Option, Some, None, is_none, if◌then◌else◌, nat_le}
use Rattle.cap_word.specs.Calls.{is_accept}
use Rattle.cap_word.specs.declared.calls.Block.{Block}
use Rattle.c_mean.specs.ModelledCalls.{BlockingRow, blocking_row, is_ready, sleeps_until, Delivery, is_dropped, with_delivery}
use Rattle.c_mean.specs.World.{empty_exchange}
use Rattle.chunk_pool.specs.Pool.{Taken, taken_for}
use Rattle.machine_world.specs.Areas.{Areas}
use Rattle.machine_world.specs.Local.{with_result}
use Rattle.machine_world.specs.Threads.{Blocked, Thread, World, Setting, thread_of, replaced, with_thread, result_on, Move, Goes, Puts, Spawns, Blocks, Ends, Stops, Wrong, step}

-- ---- the start

-- a world without threads
abbrev pub empty_world : Areas → World
empty_world areas = record { threads = []; areas = areas; exchange = empty_exchange; clock = 0; cost = 0; next = 0; running = None }

abbrev pub started_on : World → ℕ → Option Taken → Option World
started_on w entry None = None
started_on w entry (Some taken) = Some (with_thread w taken entry 0)

-- the world in which a run starts over these areas: thread 0 at the entry of main, on a chunk for its need. It is None
-- if no chunk fits.
unfoldable pub start_world : Areas → ℕ → ℕ → Option World
start_world areas entry need = started_on (empty_world areas) entry (taken_for areas.pool need)

-- ---- actions

-- an action: deliveries, advances and picks happen only between segments
pub data Action : Type 0 where
  -- an event is delivered
  Deliver : (delivery : Delivery) → Action
  -- the clock advances to a time, which isn't past
  Advance : (to : ℕ) → Action
  -- a segment begins of a live thread that is ready or hasn't run yet
  Pick : (number : ℕ) → Action
  -- one step of the running thread
  Step : Action

-- a delivery joins its queue, or is dropped if the queue is full
abbrev pub delivered : Setting → World → Delivery → World
delivered s w delivery =
    if is_dropped s.backlog w.exchange delivery then w else record w { exchange = with_delivery w.exchange delivery }

abbrev pub advanced : World → ℕ → World
advanced w to = record w { clock = to }

-- the effect of resuming: the result of the call at which the thread was blocked, and the exchange after it
abbrev pub picked_row : World → Thread → Block → BlockingRow → World
picked_row w thread block row = record w {
  threads = replaced (record thread { core = record thread.core { x = with_result thread.core.x (result_on block row.result) }; blocked = None }) w.threads;
  exchange = row.after;
  running = Some thread.number;
}

abbrev pub picked_at : Setting → World → Thread → Option Blocked → World
picked_at s w thread None = record w { running = Some thread.number }
picked_at s w thread (Some blocked) = picked_row w thread blocked.block (blocking_row s.caps w.exchange blocked.block)

-- the call at which it is blocked is `accept`
abbrev pub is_blocked_at_accept : Option Blocked → Bool
is_blocked_at_accept None = false
is_blocked_at_accept (Some blocked) = is_accept blocked.block

-- a thread that hasn't run yet may run, and a blocked thread if it is ready
abbrev pub may_run : Setting → World → Option Blocked → Bool
may_run s w None = true
may_run s w (Some blocked) = is_ready s.caps w.exchange w.clock blocked.since blocked.block

-- the clock until which a thread sleeps; None if it may run, or if no time makes it ready
abbrev pub asleep_until : Setting → World → Option Blocked → Option ℕ
asleep_until s w None = None
asleep_until s w (Some blocked) = sleeps_until s.caps w.exchange w.clock blocked.since blocked.block

-- the world after the pick of a thread; None if there is no such thread, or it may not run
abbrev pub picked : Setting → World → Option Thread → Option World
picked s w None = None
picked s w (Some thread) = if may_run s w thread.blocked then Some (picked_at s w thread thread.blocked) else None

-- the world after a move; None if the run stops or the step is wrong
abbrev pub world_of : Move → Option World
world_of (Goes after) = Some after
world_of (Puts value after) = Some after
world_of (Spawns number after) = Some after
world_of (Blocks after) = Some after
world_of (Ends after) = Some after
world_of (Stops stop) = None
world_of Wrong = None

-- no segment is in progress
abbrev pub is_between : World → Bool
is_between w = is_none w.running

-- the world after an action; None if the action isn't possible
abbrev pub after_action : Setting → World → Action → Option World
after_action s w (Deliver delivery) = if is_between w then Some (delivered s w delivery) else None
after_action s w (Advance to) = if is_between w && nat_le w.clock to then Some (advanced w to) else None
after_action s w (Pick number) = if is_between w then picked s w (thread_of w number) else None
after_action s w Step = world_of (step s w)

-- continues with a world, if there is one
abbrev pub and_then : Option World → (World → Option World) → Option World
and_then None rest = None
and_then (Some w) rest = rest w

-- the world after these actions, one after another
abbrev pub after_actions : Setting → List Action → World → Option World
after_actions s [] w = Some w
after_actions s (action ∷ actions) w = and_then (after_action s w action) (after_actions s actions)

-- the world after n steps of the running thread
abbrev pub after_steps : Setting → ℕ → World → Option World
after_steps s zero w = Some w
after_steps s (suc n) w = and_then (world_of (step s w)) (after_steps s n)
