-- Where a run stops, and in which machine world.
use Rattle.std.specs.Prelude.{◌≡◌, ℕ, ◌+◌, Some}
use Rattle.cap_word.specs.declared.stops.Stop.{Stop}
use Rattle.c_mean.specs.World as source
use Rattle.choice_rules.specs.Stops.{IsDone, IsBadTrace, IsIdle}
use Rattle.machine_world.specs.Threads.{World, Stops, step}
use Rattle.schedule_log.specs.declared.entries.StopLine.{StopLine}
use Rattle.lawful_log.specs.Setup.{Setup, setting_of}
use Rattle.lawful_log.specs.State.{Segment, State, seen_of}
use Rattle.lawful_log.specs.Segments.{IsOnTheWay, HasRun, IsCut}
use Rattle.chunk_pool.specs.Pool.{free_count}

-- what a segment has put that a stop cuts off: at a trap, all that the source puts up to that trap; at any other stop,
-- a beginning of what the source puts
abbrev pub IsCutBy : Setup → State → Segment → Stop → Type 0
IsCutBy g state segment (Stop.Trap kind) = (world : source.World) × HasRun g state segment (Some kind) world
IsCutBy g state segment Stop.NoChunk = IsCut g state segment
IsCutBy g state segment Stop.Fuel = IsCut g state segment
IsCutBy g state segment Stop.Threads = IsCut g state segment

-- the running thread's next instruction stops the run
pub record IsStopped (g : Setup) (state : State) (thread : ℕ) (stop : Stop) (cost free : ℕ) (machine : World) : Type 0 where
  pub segment : Segment
  pub steps : ℕ
  pub way : IsOnTheWay g state segment steps machine
  pub stops : step (setting_of g) machine ≡ Stops stop
  pub thread_is : thread ≡ segment.thread
  pub cost_is : cost ≡ segment.cost + steps
  pub free_is : free ≡ free_count machine.areas.pool
  pub puts : IsCutBy g state segment stop

-- a stop, and the machine world at it; at a choice point, that is the state's
abbrev pub IsStop : Setup → State → StopLine → World → Type 0
IsStop g state StopLine.Done machine = IsDone (seen_of state) × (machine ≡ state.machine)
IsStop g state StopLine.Idle machine = IsIdle g.policy (seen_of state) × (machine ≡ state.machine)
IsStop g state (StopLine.Trace line) machine = IsBadTrace (seen_of state) line × (machine ≡ state.machine)
IsStop g state (StopLine.Cut thread stop cost free) machine = IsStopped g state thread stop cost free machine
