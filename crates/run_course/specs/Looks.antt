-- The results of examining the next line of the trace.
use Rattle.std.specs.Prelude.{◌≡◌, ℕ, ◌<◌, ◌⊎◌, Option, Some, Result, Ok, Err}
use Rattle.event_trace.specs.declared.events.Event.{Event}
use Rattle.choice_rules.specs.Trace.{IsRefused}
use Rattle.lawful_log.specs.Setup.{Setup}
use Rattle.lawful_log.specs.State.{State}
use Rattle.run_course.specs.declared.ends.Failure.{Failure}
use Rattle.run_course.specs.declared.looking.Looked.{Looked}
use Rattle.thread_core.specs.Worlds.{Held}
use Rattle.run_course.specs.Kept.{Kept, known}
use Rattle.run_course.specs.Ranks.{lines_rank}
use Rattle.run_course.specs.Stands.{StandsBetween}
use Rattle.run_course.specs.Rest.{Rest, HasBytes}

-- the next line is an event, or there is none, and the run is unchanged
pub record Sees (g : Setup) (state : State) (k : Kept) (held : Held) (left : Rest) (event : Option Event) : Type 0 where
  pub stands : StandsBetween g state k held left
  pub next_is : known k.next ≡ Some event

-- the next line is refused; the clock hasn't advanced since the last entry
pub record Refuses (g : Setup) (state : State) (before : Rest) (held : Held) (line : ℕ) : Type 0 where
  pub refused : HasBytes before → IsRefused state.trace line
  pub machine_is : held.machine ≡ state.machine

abbrev pub LooksAt : Setup → State → Rest → Kept → Held → Rest → Result Looked Failure → Type 0
LooksAt g state before k held left (Ok (Looked.Comes event)) = Sees g state k held left event
LooksAt g state before k held left (Ok (Looked.Refused line)) = Refuses g state before held line
LooksAt g state before k held left (Err failure) = (failure ≡ Failure.Read) × (held.machine ≡ state.machine)

-- a look without a refusal leaves less of the trace to examine, or changes nothing
abbrev pub Nears : Kept → Kept → Result Looked Failure → Type 0
Nears old new (Ok (Looked.Comes event)) = (new ≡ old) ⊎ (lines_rank new < lines_rank old)
Nears old new (Ok (Looked.Refused line)) = Unit {0}
Nears old new (Err failure) = Unit {0}
