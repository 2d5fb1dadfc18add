-- The state of a reader of a trace, and its next result.
use Rattle.std.specs.Prelude.{◌≡◌, ℕ, ◌+◌, ◌<◌, ◌≤◌, List, [], ◌++◌, length, Option, None, Some, Result, Ok, Err}
use Rattle.cap_io.specs.Faults.{Rose}
use Rattle.event_trace.specs.declared.events.Event.{Event}
use Rattle.event_trace.specs.declared.events.EventKind.{EventKind}
use Rattle.event_trace.specs.declared.refusals.TraceError.{TraceError}
use Rattle.event_trace.specs.declared.refusals.TraceError.TheVariants.{Line, Order, ReadFault}
use Rattle.event_trace.specs.Lines.{SpellsOnly, HasNoEvent, line_of, rest_of}

-- the bytes that the reader took from its source and hasn't returned yet, the number of lines that it returned, the
-- time of the last, or 0 before the first, and the refusal, if there was one
pub record ReaderState : Type 0 where
  pub held : List ℕ
  pub lines : ℕ
  pub last : ℕ
  pub refused : Option TraceError

-- the bytes begin with the line of this event, the next of at most 1,000,000, and its time isn't below the last
pub record GivesEvent (bytes : List ℕ) (lines last : ℕ) (event : Event) : Type 0 where
  pub some : 0 < length bytes
  pub counted : lines < 1000000
  pub line : SpellsOnly (line_of bytes) event
  pub rises : last ≤ event.time

-- the bytes begin with a line that spells no event, or that is one too many
pub record RefusesLine (bytes : List ℕ) (lines number : ℕ) : Type 0 where
  pub some : 0 < length bytes
  pub number_is : number ≡ lines + 1
  pub spells_none : lines < 1000000 → HasNoEvent (line_of bytes)

-- the bytes begin with the line of an event with a time below the last
pub record RefusesOrder (bytes : List ℕ) (lines last number time earlier : ℕ) : Type 0 where
  pub some : 0 < length bytes
  pub counted : lines < 1000000
  pub number_is : number ≡ lines + 1
  pub earlier_is : earlier ≡ last
  pub falls : time < earlier
  pub kind : EventKind
  pub line : SpellsOnly (line_of bytes) (record { time = time; kind = kind })

-- the result for these bytes, after this number of lines and that time
abbrev pub NextAnswers : List ℕ → ℕ → ℕ → Result (Option Event) TraceError → Type 0
NextAnswers bytes lines last (Ok None) = bytes ≡ []
NextAnswers bytes lines last (Ok (Some event)) = GivesEvent bytes lines last event
NextAnswers bytes lines last (Err (Line number)) = RefusesLine bytes lines number
NextAnswers bytes lines last (Err (Order number time earlier)) = RefusesOrder bytes lines last number time earlier
NextAnswers bytes lines last (Err ReadFault) = Unit {0}

-- a refused line is the one after those that the reader returned
abbrev pub NamesNext : (lines : ℕ) → TraceError → Type 0
NamesNext lines (Line number) = number ≡ lines + 1
NamesNext lines (Order number time earlier) = number ≡ lines + 1
NamesNext lines ReadFault = Unit {0}

-- the bytes that are left for the next result
abbrev pub NextLeaves : {E : Type 0} → List ℕ → List ℕ → Result (Option Event) E → Type 0
NextLeaves bytes after (Ok None) = after ≡ []
NextLeaves bytes after (Ok (Some event)) = after ≡ rest_of bytes
NextLeaves bytes after (Err _) = Unit {0}

-- the same for the buffered bytes and those of the source, if it exposes them
abbrev pub NextTold : ReaderState → ReaderState → Option (List ℕ) → Option (List ℕ) → Result (Option Event) TraceError → Type 0
NextTold old new None after r = Unit {0}
NextTold old new (Some before) None r = ⊥
NextTold old new (Some before) (Some after) r = NextAnswers (old.held ++ before) old.lines old.last r × NextLeaves (old.held ++ before) (new.held ++ after) r

-- the reader counts the line of an event and keeps its time; at the end everything stays the same, and otherwise
-- everything except the buffer
abbrev pub KeepsCount : {E : Type 0} → ReaderState → ReaderState → Result (Option Event) E → Type 0
KeepsCount old new (Ok None) = new ≡ old
KeepsCount old new (Ok (Some event)) = (new.lines ≡ old.lines + 1) × (new.last ≡ event.time) × (new.refused ≡ old.refused)
KeepsCount old new (Err _) = (new.lines ≡ old.lines) × (new.last ≡ old.last) × (new.refused ≡ old.refused)

-- the same, and the reader keeps its first refusal; nothing is said about the buffer then
abbrev pub KeepsRefusal : ReaderState → ReaderState → Result (Option Event) TraceError → Type 0
KeepsRefusal old new (Ok answer) = KeepsCount {E = TraceError} old new (Ok answer)
KeepsRefusal old new (Err refusal) = (new.refused ≡ Some refusal) × (new.lines ≡ old.lines) × (new.last ≡ old.last)

-- the count of faults rises exactly if the result is ReadFault
abbrev pub CountsNext : {T : Type 0} → Result T TraceError → ℕ → ℕ → Type 0
CountsNext (Ok _) old new = new ≡ old
CountsNext (Err (Line _)) old new = new ≡ old
CountsNext (Err (Order _ _ _)) old new = new ≡ old
CountsNext (Err ReadFault) old new = Rose old new
