-- From a line that was taken to the reader's next answer.
use Rattle.std.proofs.Common.{◌≡◌, ℕ, ◌+◌, ◌<◌, List, [], ◌∷◌, ◌++◌, length, subst, arith, Option, Some, None, Result, Ok, Err}
use Rattle.std.specs.Prelude.{MatchResult}
use Rattle.std.specs.Io.KnownBytes.{prepend_known}
use Rattle.event_trace.specs.declared.events.Event.{Event}
use Rattle.event_trace.specs.declared.refusals.TraceError.{TraceError}
use Rattle.event_trace.specs.declared.refusals.TraceError.TheVariants.{Line}
use Rattle.event_trace.specs.declared.gathering.Ending.{Ending}
use Rattle.event_trace.specs.declared.gathering.Ending.TheVariants as ending
use Rattle.event_trace.specs.Lines.{HasNoEvent, IsTraceLine, line_of}
use Rattle.event_trace.specs.Gathering.{Gathers, GathersLine}
use Rattle.event_trace.specs.Reader.{ReaderState, NextTold, NextAnswers, NextLeaves}

-- what was taken of the bytes held and left says the answer, where the source tells its bytes
told_by : (E : Type 0) (old new : ReaderState) (before after : Option (List ℕ)) (line : List ℕ) (taken : Result Ending E) (r : Result (Option Event) TraceError)
    → Gathers (prepend_known old.held before) (prepend_known new.held after) line taken
    → ((bytes rest : List ℕ) → MatchResult taken (λ ending. GathersLine bytes rest line ending) (λ _. Unit {0})
    → NextAnswers bytes old.lines old.last r × NextLeaves bytes rest r)
    → NextTold old new before after r
told_by E old new None after line taken r gathered answers = tt
told_by E old new (Some b) None line taken r gathered answers = absurd gathered
told_by E old new (Some b) (Some a) line taken r gathered answers = answers (old.held ++ b) (new.held ++ a) gathered

some_of : (bytes : List ℕ) → 64 < length (line_of bytes) → 0 < length bytes
some_of [] long = absurd (omega arith)
some_of (byte ∷ bytes) long = omega arith

too_long : (bytes : List ℕ) (event : Event) → 64 < length (line_of bytes) → IsTraceLine (line_of bytes) event → ⊥
too_long bytes event long spells = let short = spells.short in omega arith

pub told_long : (E : Type 0) (old new : ReaderState) (before after : Option (List ℕ)) (line : List ℕ) (number : ℕ)
    → Gathers {E = E} (prepend_known old.held before) (prepend_known new.held after) line (Ok ending.TooLong) → number ≡ old.lines + 1
    → NextTold old new before after (Err (Line number))
told_long E old new before after line number gathered is =
    told_by E old new before after line (Ok ending.TooLong) (Err (Line number)) gathered
    (λ bytes rest long. (record { some = some_of bytes long; number_is = is; spells_none = λ counted event spells. too_long bytes event long spells }, tt))

pub told_line : (E : Type 0) (old new : ReaderState) (before after : Option (List ℕ)) (line : List ℕ) (number : ℕ)
    → Gathers {E = E} (prepend_known old.held before) (prepend_known new.held after) line (Ok ending.Line) → number ≡ old.lines + 1
    → (old.lines < 1000000 → HasNoEvent line)
    → NextTold old new before after (Err (Line number))
told_line E old new before after line number gathered is none =
    told_by E old new before after line (Ok ending.Line) (Err (Line number)) gathered
    (λ bytes rest taken. (record { some = taken.0; number_is = is; spells_none = λ counted. subst HasNoEvent taken.1 (none counted) }, tt))
