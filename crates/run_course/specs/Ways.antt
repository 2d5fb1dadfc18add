-- A machine world within the run of a log.
use Rattle.std.specs.Prelude.{◌≡◌, ℕ, ◌+◌, ◌≤◌, List, ◌++◌, Some}
use Rattle.lawful_log.specs.Lawful.{Leads}
use Rattle.lawful_log.specs.Segments.{after_quiet}
use Rattle.lawful_log.specs.Setup.{Setup, setting_of}
use Rattle.lawful_log.specs.State.{State, start_of}
use Rattle.machine_world.specs.Runs.{advanced, world_of}
use Rattle.machine_world.specs.Threads.{World, Setting, step}
use Rattle.schedule_log.specs.declared.entries.Entry.{Entry}

-- on the way from the machine world of a log's state to the next entry: the clock has advanced, or some steps without
-- an entry were made, and possibly one more step
pub data IsOnWay (s : Setting) (from after : World) : Type 0 where
  has_waited : after ≡ advanced from after.clock → from.clock ≤ after.clock → IsOnWay s from after
  has_run : (steps : ℕ) → after_quiet s steps from ≡ Some after → IsOnWay s from after
  has_told : (steps : ℕ) (here : World) → after_quiet s steps from ≡ Some here → world_of (step s here) ≡ Some after → IsOnWay s from after

-- between the two worlds the clock advanced by one for each retired instruction, and by nothing else
abbrev pub HasTicked : World → World → Type 0
HasTicked from after = after.clock + from.cost ≡ from.clock + after.cost

-- some first entries lead to a state, and the machine world is on the way from there
pub record IsOnRun (g : Setup) (bytes : List ℕ) (start : World) (entries : List Entry) (after : World) : Type 0 where
  pub done : List Entry
  pub rest : List Entry
  pub joined : entries ≡ done ++ rest
  pub state : State
  pub leads : Leads g (start_of g bytes start) done state
  pub way : IsOnWay (setting_of g) state.machine after
  pub clock : HasTicked state.machine after
