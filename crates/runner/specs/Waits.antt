-- The results of waiting, if no thread is ready and no event is due.
use Rattle.std.specs.Prelude.{◌≡◌, ℕ, ◌<◌, Option, None, Some, if◌then◌else◌, nat_le}
use Rattle.event_trace.specs.declared.events.Event.{Event}
use Rattle.lawful_log.specs.Setup.{Setup}
use Rattle.lawful_log.specs.State.{State}
use Rattle.lawful_log.specs.Stops.{IsStop}
use Rattle.run_course.specs.declared.ends.Halt.{Halt}
use Rattle.schedule_log.specs.declared.entries.StopLine.{StopLine}
use Rattle.thread_core.specs.Worlds.{Held}
use Rattle.run_course.specs.Kept.{Kept}
use Rattle.run_course.specs.Ranks.{rank}
use Rattle.run_course.specs.Stands.{StandsBetween}
use Rattle.run_course.specs.Rest.{Rest, HasBytes}

-- the earlier of two times, if there is one
abbrev pub earlier : Option ℕ → Option ℕ → Option ℕ
earlier None other = other
earlier (Some one) None = Some one
earlier (Some one) (Some other) = Some (if nat_le one other then one else other)

-- the time of the next event, if there is one
abbrev pub time_of : Option Event → Option ℕ
time_of None = None
time_of (Some event) = Some event.time

-- the clock has advanced, and something happens at it
pub record MovesOn (g : Setup) (state : State) (k : Kept) (held new : Held) (left : Rest) : Type 0 where
  pub stands : StandsBetween g state k new left
  pub falls : rank k new < rank k held

-- the run is idle, and nothing has changed
pub record StaysIdle (g : Setup) (state : State) (held new : Held) (left : Rest) (halt : Halt) : Type 0 where
  pub halt_is : halt ≡ Halt.Idle
  pub same : new ≡ held
  pub idle : HasBytes left → IsStop g state StopLine.Idle held.machine
  pub machine_is : held.machine ≡ state.machine

abbrev pub WaitEnds : Setup → State → Kept → Held → Held → Rest → Option Halt → Type 0
WaitEnds g state k held new left None = MovesOn g state k held new left
WaitEnds g state k held new left (Some halt) = StaysIdle g state held new left halt
