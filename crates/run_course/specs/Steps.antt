-- The results of a run's step.
use Rattle.std.specs.Prelude.{◌≡◌, ℕ, ◌≤◌, List, length, Option, None, Some, Result, Ok, Err}
use Rattle.lawful_log.specs.Good.{checked_of}
use Rattle.lawful_log.specs.Lawful.{Leads}
use Rattle.lawful_log.specs.Setup.{Setup, setting_of}
use Rattle.lawful_log.specs.State.{State}
use Rattle.lawful_log.specs.Stops.{IsStop}
use Rattle.lawful_log.specs.Beside.{IsGraphOf}
use Rattle.machine_world.specs.Runs.{Action, after_actions}
use Rattle.machine_world.specs.Stretches.{IsSound}
use Rattle.machine_world.specs.Threads.{World, Setting}
use Rattle.run_course.specs.declared.ends.Failure.{Failure}
use Rattle.run_course.specs.declared.ends.Halt.{Halt}
use Rattle.schedule_log.specs.EntryText.{log_text}
use Rattle.schedule_log.specs.declared.entries.Entry.{Entry}
use Rattle.schedule_log.specs.declared.entries.StopLine.{StopLine}
use Rattle.thread_core.specs.Worlds.{Held, IsThread}
use Rattle.run_course.specs.Kept.{Kept}
use Rattle.run_course.specs.Output.{Output, Grows, TakesPart}
use Rattle.run_course.specs.Ways.{IsOnWay, HasTicked}
use Rattle.run_course.specs.Stands.{IsOf, Stands}
use Rattle.run_course.specs.Rest.{Rest, HasBytes}
use Rattle.chunk_pool.specs.Pool.{free_count}

-- the line of a stop, with this number of free chunks
abbrev pub stop_line : Halt → ℕ → StopLine
stop_line Halt.Done free = StopLine.Done
stop_line Halt.Idle free = StopLine.Idle
stop_line (Halt.BadTrace line) free = StopLine.Trace line
stop_line (Halt.Cut thread stop cost) free = StopLine.Cut thread.number stop cost free

-- the record of the thread that cuts the run off is at its place
abbrev pub HasThread : Held → Halt → Type 0
HasThread held Halt.Done = Unit {0}
HasThread held Halt.Idle = Unit {0}
HasThread held (Halt.BadTrace line) = Unit {0}
HasThread held (Halt.Cut thread stop cost) = IsThread held thread

-- some actions lead from a machine world to another
pub record ActsTo (s : Setting) (w after : World) : Type 0 where
  pub actions : List Action
  pub leads : after_actions s actions w ≡ Some after

-- allowed entries were written, and the run corresponds to the state after them
pub record GoesTo (g : Setup) (state : State) (before : Rest) (k : Kept) (held : Held) (left : Rest) (taken written : Output) : Type 0 where
  pub new : State
  pub entries : List Entry
  pub leads : HasBytes before → Leads g state entries new
  pub acts : ActsTo (setting_of g) state.machine new.machine
  pub stands : Stands g new k held left
  pub writes : Grows taken written (log_text entries)

-- the run stops here, in the machine world as it is now
pub record HaltsAt (g : Setup) (state : State) (before : Rest) (k : Kept) (held : Held) (halt : Halt) (taken written : Output) : Type 0 where
  pub of : IsOf g held
  pub stops : HasBytes before → IsStop g state (stop_line halt (free_count held.machine.areas.pool)) held.machine
  pub graph : IsGraphOf k.graph state.past
  pub acts : ActsTo (setting_of g) state.machine held.machine
  pub way : IsOnWay (setting_of g) state.machine held.machine
  pub clock : HasTicked state.machine held.machine
  pub sound : IsSound (checked_of g) held.machine
  pub thread : HasThread held halt
  pub writes : written ≡ taken

-- the run fails: the sink took a prefix of the buffer followed by at most one entry, which is allowed, and the machine
-- has made some steps
pub record FailsIn (g : Setup) (state : State) (before : Rest) (held : Held) (taken written : Output) : Type 0 where
  pub new : State
  pub entries : List Entry
  pub leads : HasBytes before → Leads g state entries new
  pub few : length entries ≤ 1
  pub writes : TakesPart taken written (log_text entries)
  pub acts : ActsTo (setting_of g) state.machine held.machine
  pub way : IsOnWay (setting_of g) new.machine held.machine
  pub clock : HasTicked new.machine held.machine
  pub sound : IsSound (checked_of g) held.machine
  pub of : IsOf g held

abbrev pub StepEnds : Setup → State → Rest → Kept → Held → Rest → Output → Output → Result (Option Halt) Failure → Type 0
StepEnds g state before k held left taken written (Ok None) = GoesTo g state before k held left taken written
StepEnds g state before k held left taken written (Ok (Some halt)) = HaltsAt g state before k held halt taken written
StepEnds g state before k held left taken written (Err failure) = FailsIn g state before held taken written

-- the same for a part of a step, which never stops the run
abbrev pub PartEnds : Setup → State → Rest → Kept → Held → Rest → Output → Output → Result (Unit {0}) Failure → Type 0
PartEnds g state before k held left taken written (Ok _) = GoesTo g state before k held left taken written
PartEnds g state before k held left taken written (Err failure) = FailsIn g state before held taken written
