-- The counts of faults before and after a step.
use Rattle.std.specs.Prelude.{◌≡◌, ℕ, Result, Ok, Err}
use Rattle.cap_io.specs.Faults.{IsRisen}
use Rattle.run_course.specs.declared.ends.Failure.{Failure}

-- that of the trace's reads rises where a read failed, that of the log's writes where a write failed, and else they stand still
abbrev pub CountsStep : {V : Type 0} → Result V Failure → (reads reads' writes writes' : ℕ) → Type 0
CountsStep (Ok _) reads reads' writes writes' = (reads' ≡ reads) × (writes' ≡ writes)
CountsStep (Err Failure.Read) reads reads' writes writes' = IsRisen reads reads' × (writes' ≡ writes)
CountsStep (Err Failure.Write) reads reads' writes writes' = (reads' ≡ reads) × IsRisen writes writes'
CountsStep (Err Failure.Memory) reads reads' writes writes' = (reads' ≡ reads) × (writes' ≡ writes)

-- the same for a part that reads nothing
abbrev pub CountsPart : {V : Type 0} → Result V Failure → (writes writes' : ℕ) → Type 0
CountsPart (Ok _) writes writes' = writes' ≡ writes
CountsPart (Err Failure.Read) writes writes' = ⊥
CountsPart (Err Failure.Write) writes writes' = IsRisen writes writes'
CountsPart (Err Failure.Memory) writes writes' = writes' ≡ writes

-- the same for a part that writes nothing
abbrev pub CountsLook : {V : Type 0} → Result V Failure → (reads reads' : ℕ) → Type 0
CountsLook (Ok _) reads reads' = reads' ≡ reads
CountsLook (Err Failure.Read) reads reads' = IsRisen reads reads'
CountsLook (Err Failure.Write) reads reads' = ⊥
CountsLook (Err Failure.Memory) reads reads' = ⊥
