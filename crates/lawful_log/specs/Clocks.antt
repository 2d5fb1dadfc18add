-- The clock of a run at a choice point, which may have moved since the last entry.
use Rattle.std.specs.Prelude.{◌≡◌, ℕ, Bool, false, ◌||◌, ◌++◌, ◌⊎◌, Option, Some, None}
use Rattle.event_trace.specs.declared.events.Event.{Event}
use Rattle.choice_rules.specs.Clock.{is_due, event_times, IsLeastOf}
use Rattle.choice_rules.specs.Readiness.{any_ready, waking_times}
use Rattle.lawful_log.specs.Setup.{Setup}
use Rattle.lawful_log.specs.State.{State, seen_of}

-- something happens at a clock: the next event is due, or a thread is ready
abbrev pub goes_on : Setup → State → Option Event → ℕ → Bool
goes_on g state next clock = is_due next clock || any_ready g.policy (seen_of state) clock

-- the clock has advanced, since nothing happened at the clock of the state
pub record HasMoved (g : Setup) (state : State) (next : Option Event) (clock : ℕ) : Type 0 where
  pub stuck : goes_on g state next state.machine.clock ≡ false
  pub least : IsLeastOf (event_times next ++ waking_times (seen_of state)) clock

-- the clock of the run, and the next line if it has been examined
abbrev pub IsClockOf : Setup → State → Option (Option Event) → ℕ → Type 0
IsClockOf g state None clock = clock ≡ state.machine.clock
IsClockOf g state (Some next) clock = (clock ≡ state.machine.clock) ⊎ HasMoved g state next clock
