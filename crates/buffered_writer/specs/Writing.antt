-- The state of a writer, and the effect of writing through it on it and on its sink.
use Rattle.std.specs.Prelude.{◌≡◌, ℕ, ◌≤◌, List, ◌++◌, length, take, Option, None, Some, IsSome, Result, Ok, Err}
use Rattle.std.specs.Io.KnownBytes.{Appends, Keeps}
use Rattle.cap_io.specs.Faults.{Rose}
use Rattle.buffered_writer.specs.declared.writer.PutError.{PutError}
use Rattle.buffered_writer.specs.declared.writer.PutError.TheVariants.{WriteFault, Memory}

-- the bytes in the buffer, and the first refusal, if there was one
pub record WriterState : Type 0 where
  pub held : List ℕ
  pub refused : Option PutError

-- the answer is the refusal that the writer keeps, and success if it keeps none
abbrev pub KeepsAnswer : WriterState → Result (Unit {0}) PutError → Type 0
KeepsAnswer state (Ok _) = state.refused ≡ None
KeepsAnswer state (Err refusal) = state.refused ≡ Some refusal

-- the bytes taken, if they are exposed, grew by a prefix of the text
abbrev pub TakesPrefix : Option (List ℕ) → Option (List ℕ) → List ℕ → Type 0
TakesPrefix old new text = (n : ℕ) × (n ≤ length text) × Appends old new (take n text)

-- a writer and its sink: the bytes that the sink took, if it exposes them, and its count of faults
pub record LogState : Type 0 where
  pub writer : WriterState
  pub taken : Option (List ℕ)
  pub faults : ℕ

abbrev pub log_state : WriterState → Option (List ℕ) → ℕ → LogState
log_state writer taken faults = record { writer = writer; taken = taken; faults = faults }

-- the count rose exactly if a write failed
abbrev pub CountsRefusal : Option PutError → ℕ → ℕ → Type 0
CountsRefusal None old new = new ≡ old
CountsRefusal (Some WriteFault) old new = Rose old new
CountsRefusal (Some Memory) old new = new ≡ old

-- the sink takes a prefix of the buffer followed by the text, and the rest is in the buffer, or there is a refusal
pub record Passes (old new : LogState) (text : List ℕ) : Type 0 where
  pub sent : List ℕ
  pub rest : List ℕ
  pub whole : sent ++ rest ≡ old.writer.held ++ text
  pub taken : Appends old.taken new.taken sent
  pub holds : new.writer.refused ≡ None → new.writer.held ≡ rest
  pub counts : CountsRefusal new.writer.refused old.faults new.faults
  pub never_falls : old.faults ≤ new.faults

-- nothing was written, and the writer is unchanged
pub record Rests (old new : LogState) : Type 0 where
  pub writer : new.writer ≡ old.writer
  pub taken : Keeps old.taken new.taken
  pub faults : new.faults ≡ old.faults

-- a text is written through the writer, unless there was a refusal before
pub record Writes (old new : LogState) (text : List ℕ) : Type 0 where
  pub passes : old.writer.refused ≡ None → Passes old new text
  pub rests : IsSome old.writer.refused → Rests old new
