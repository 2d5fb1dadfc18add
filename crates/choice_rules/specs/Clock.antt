-- The clock of a choice point. It stays as it is where the next event is due or a thread is ready, and goes on to the least
-- of the next event's time and the sleepers' times where neither is so.
use Rattle.std.specs.Prelude.{◌≡◌, ◌≢◌, ℕ, ◌+◌, ◌*◌, ◌^◌, ◌≤◌, Bool, true, false, ◌||◌, List, [], ◌∷◌, ◌++◌, Option, Some, None, All, Contains, nat_le}
use Rattle.event_trace.specs.declared.events.Event.{Event}
use Rattle.choice_rules.specs.Policy.{Policy}
use Rattle.choice_rules.specs.Trace.{IsNext}
use Rattle.choice_rules.specs.Seen.{Seen}
use Rattle.choice_rules.specs.Readiness.{any_ready, waking_times}

-- the event's time isn't after the clock
abbrev pub is_due : Option Event → ℕ → Bool
is_due None clock = false
is_due (Some event) clock = nat_le event.time clock

abbrev pub event_times : Option Event → List ℕ
event_times None = []
event_times (Some event) = event.time ∷ []

pub record IsLeastOf (times : List ℕ) (time : ℕ) : Type 0 where
  pub one : Contains times time
  pub least : All (λ other. time ≤ other) times

-- the clock, by whether it stays the same
abbrev pub IsClockBy : Bool → Seen → Option Event → ℕ → Type 0
IsClockBy true seen next clock = clock ≡ seen.clock
IsClockBy false seen next clock = IsLeastOf (event_times next ++ waking_times seen) clock

-- at a choice point no segment is in progress, a thread is live, the next line of the trace is an event or the end, and
-- the clock has advanced if necessary
pub record IsChoicePoint (policy : Policy) (seen : Seen) (next : Option Event) (clock : ℕ) : Type 0 where
  pub between : seen.under_way ≡ false
  pub live : seen.live ≢ 0
  pub next_is : IsNext seen.trace next
  pub clock_is : IsClockBy (is_due next seen.clock || any_ready policy seen seen.clock) seen next clock

-- No time of a run of so much cost is later: up to the latest time of an event, and then for each instruction its one cycle and the ticks
-- of one sleep or of one wait with a time.
abbrev pub latest : ℕ → ℕ
latest cost = 10 ^ 15 + 2 ^ 31 * cost
