-- Which lines of a trace a run examines, and when none is refused.
use Rattle.std.specs.Prelude.{◌≡◌, ◌≢◌, ℕ, false, List, [], Option, Some}
use Rattle.choice_rules.specs.Trace.{Trace, IsNext, behind}
use Rattle.event_trace.specs.declared.events.Event.{Event}
use Rattle.lawful_log.specs.Lawful.{Leads}
use Rattle.lawful_log.specs.Setup.{Setup, start_machine}
use Rattle.lawful_log.specs.State.{State, start_of, seen_of}
use Rattle.machine_world.specs.Threads.{World}
use Rattle.schedule_log.specs.declared.entries.Entry.{Entry}

-- the run reaches a choice point with some live thread and this rest of the trace
pub record LooksAt (g : Setup) (trace : List ℕ) (left : Trace) : Type 0 where
  pub start : World
  pub starts : start_machine g ≡ Some start
  pub entries : List Entry
  pub state : State
  pub leads : Leads g (start_of g trace start) entries state
  pub between : (seen_of state).under_way ≡ false
  pub live : (seen_of state).live ≢ 0
  pub left_is : left ≡ state.trace

-- each line that the run examines is an event whose time is at least that of the line before, or the trace is over
abbrev pub LooksAtGoodLines : Setup → List ℕ → Type 0
LooksAtGoodLines g trace = (left : Trace) → LooksAt g trace left → (next : Option Event) × IsNext left next

-- every remaining line is an event whose time is at least that of the line before
pub data IsGood : Trace → Type 0 where
  is_over : {left : Trace} → left.bytes ≡ [] → IsGood left
  by_line : {left : Trace} {event : Event} → IsNext left (Some event) → IsGood (behind left event) → IsGood left

-- the same for a whole trace
abbrev pub IsGoodTrace : List ℕ → Type 0
IsGoodTrace trace = IsGood (record { bytes = trace; lines = 0; last = 0 })
