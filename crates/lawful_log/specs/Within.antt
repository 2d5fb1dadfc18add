-- A run between segments and within one, compared with the state of its log.
use Rattle.std.specs.Prelude.{◌≡◌, ℕ, ◌+◌, ◌≤◌, List, ◌++◌, length, Option, Some, None}
use Rattle.event_trace.specs.declared.events.Event.{Event}
use Rattle.choice_rules.specs.Seen.{Waiter, newcomers}
use Rattle.lawful_log.specs.Good.{checked_of}
use Rattle.lawful_log.specs.Segments.{after_quiet}
use Rattle.lawful_log.specs.Setup.{Setup, setting_of}
use Rattle.lawful_log.specs.State.{Segment, State}
use Rattle.machine_world.specs.Runs.{advanced}
use Rattle.machine_world.specs.StandsForWorld.{StandsForWorld}
use Rattle.machine_world.specs.Threads.{World}
use Rattle.machine_world.specs.WellFormed.{IsWellFormed}
use Rattle.lawful_log.specs.Clocks.{IsClockOf}
use Rattle.lawful_log.specs.Waiting.{AreWaiting}

-- between segments: the run's machine is that of the state, except that its clock may have advanced; and the next line
-- of the trace, if it has been examined
pub record IsBetween (g : Setup) (state : State) (known : Option (Option Event)) (machine : World) : Type 0 where
  pub between : state.segment ≡ None
  pub formed : IsWellFormed (checked_of g) (setting_of g) state.machine
  pub stands : StandsForWorld (checked_of g) g.program state.machine state.source
  pub threads : AreWaiting state.machine state.waiting
  pub machine_is : machine ≡ advanced state.machine machine.clock
  pub later : state.machine.clock ≤ machine.clock
  pub clock_is : IsClockOf g state known machine.clock

-- within a segment, which began when `begun` instructions had retired: some steps without an entry lead to the machine
-- now
pub record IsWithin (g : Setup) (state : State) (segment : Segment) (begun : ℕ) (here : World) (waiting : List Waiter) : Type 0 where
  pub under_way : state.segment ≡ Some segment
  pub steps : ℕ
  pub quiet : after_quiet (setting_of g) steps state.machine ≡ Some here
  pub cost : here.cost ≡ state.machine.cost + steps
  pub since : segment.cost + begun ≡ state.machine.cost
  pub formed : IsWellFormed (checked_of g) (setting_of g) here
  pub running : here.running ≡ Some segment.thread
  pub started : length state.source.threads ≤ here.next
  pub waiting_is : waiting ≡ state.waiting ++ newcomers state.source here.next
  pub threads : AreWaiting here waiting
