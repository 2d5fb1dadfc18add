-- The part of a run's log that went through a buffered writer.
use Rattle.std.specs.Prelude.{◌≡◌, ℕ, ◌≤◌, List, [], ◌++◌, length, Option, MatchResult, Result}
use Rattle.std.specs.Io.KnownBytes.{Appends, append_known}
use Rattle.std.specs.List.{AllByRecursion}
use Rattle.schedule_log.specs.EntryRanges.{FitsEntry}
use Rattle.schedule_log.specs.EntryText.{log_text}
use Rattle.schedule_log.specs.Writing.{WriterState, TakesPrefix}
use Rattle.schedule_log.specs.declared.entries.Entry.{Entry}

-- the bytes that the sink took, if it exposes them, and those in the buffer
pub record Output : Type 0 where
  pub taken : Option (List ℕ)
  pub held : List ℕ

abbrev pub output_of : WriterState → Option (List ℕ) → Output
output_of writer taken = record { taken = taken; held = writer.held }

-- the buffer is empty at the start
abbrev pub unheld : Option (List ℕ) → Output
unheld taken = record { taken = taken; held = [] }

-- what was taken, followed by the buffer
abbrev pub joined : Output → Option (List ℕ)
joined now = append_known now.taken now.held

-- the sink took a prefix of the buffer followed by this text
abbrev pub TakesPart : Output → Output → List ℕ → Type 0
TakesPart old new text = TakesPrefix old.taken new.taken (old.held ++ text)

-- the text of entries that fit their types: each of its lines is read back as an entry
pub record IsFitText (text : List ℕ) : Type 0 where
  pub fitting : List Entry
  pub fit : AllByRecursion FitsEntry fitting
  pub text_is : text ≡ log_text fitting

-- the buffer holds at most its capacity
abbrev pub IsBuffered : Output → Type 0
IsBuffered now = length now.held ≤ 4096

-- what was taken and buffered grew by the text, whose entries fit their types
pub record Grows (old new : Output) (text : List ℕ) : Type 0 where
  pub whole : Appends (joined old) (joined new) text
  pub part : TakesPart old new text
  pub fits : IsFitText text
  pub buffered : IsBuffered old → IsBuffered new

-- a text went through the writer, or the sink took a prefix of the buffer followed by it
abbrev pub PutsText : {E : Type 0} → Output → Output → List ℕ → Result (Unit {0}) E → Type 0
PutsText old new text result = MatchResult result (λ _. Grows old new text) (λ _. TakesPart old new text)
