-- The results of a command's steps, by what is due.
use Rattle.std.specs.Prelude.{ℕ, ◌≡◌, ◌⊎◌, List, [], Option, None, Result, Ok, Err}
use Rattle.std.specs.Io.KnownBytes.{Appends}
use Rattle.cap_io.specs.Faults.{IsRisen, Rose}
use Rattle.cap_io.specs.Files.{Files, KeepsFiles}
use Rattle.command_outcomes.specs.declared.stops.Stop.{Stop}
use Rattle.command_outcomes.specs.declared.stops.Stop.TheVariants.{Refused, Failed}
use Rattle.command_outcomes.specs.declared.faults.Fault.{Fault}
use Rattle.command_outcomes.specs.declared.faults.Fault.TheVariants.{Read, Write, Memory}
use Rattle.command_outcomes.specs.Outcome.{Outcome}
use Rattle.command_outcomes.specs.CauseLines.{refusal}
use Rattle.command_outcomes.specs.Done.{Outside, WhereTold, AreStored, AreCutShort, IsDone, IsTold}
use Rattle.buffered_writer.specs.Writing.{TakesPrefix}
use Rattle.command_outcomes.specs.FaultLines.{fault_status, fault_line}

-- a step over values stops: with a refusal that is due, or out of memory
abbrev pub IsStop : (Outcome → Type 0) → Stop → Type 0
IsStop due (Refused cause) = due (refusal cause)
IsStop due (Failed Memory) = Unit {0}
IsStop due (Failed Read) = ⊥
IsStop due (Failed Write) = ⊥

-- a step over a shelf stops, given its count of failed loads before and after
abbrev pub IsShelfStop : (Outcome → Type 0) → (loads loads' : ℕ) → Stop → Type 0
IsShelfStop due loads loads' (Refused cause) = due (refusal cause) × (loads' ≡ loads)
IsShelfStop due loads loads' (Failed Memory) = loads' ≡ loads
IsShelfStop due loads loads' (Failed Read) = IsRisen loads loads'
IsShelfStop due loads loads' (Failed Write) = ⊥

-- a step over a trace stops with this fault, given its count of faults before and after
abbrev pub IsReadStop : Fault → (reads reads' : ℕ) → Type 0
IsReadStop Read reads reads' = Rose reads reads'
IsReadStop Memory reads reads' = reads' ≡ reads
IsReadStop Write reads reads' = ⊥

-- a text was printed, and the status belongs to it; or the text is cut short
abbrev pub IsPrinted : ℕ → List ℕ → (old new : Option (List ℕ)) → (writes writes' : ℕ) → Result ℕ Stop → Type 0
IsPrinted status text old new writes writes' (Ok given) =
    (given ≡ status) × Appends old new text × (writes' ≡ writes)
IsPrinted status text old new writes writes' (Err (Failed Write)) = TakesPrefix old new text × IsRisen writes writes'
IsPrinted status text old new writes writes' (Err (Failed Memory)) = TakesPrefix old new text × (writes' ≡ writes)
IsPrinted status text old new writes writes' (Err (Failed Read)) = ⊥
IsPrinted status text old new writes writes' (Err (Refused cause)) = ⊥

-- files were stored, or a store is cut short
abbrev pub AreStores : List (List ℕ × List ℕ) → (old new : Option Files) → (stores stores' : ℕ) → Result (Unit {0}) Stop → Type 0
AreStores files old new stores stores' (Ok _) = WhereTold (AreStored files) old new × (stores' ≡ stores)
AreStores files old new stores stores' (Err (Failed Write)) = WhereTold (AreCutShort files) old new × IsRisen stores stores'
AreStores files old new stores stores' (Err (Failed Memory)) = WhereTold (AreCutShort files) old new × (stores' ≡ stores)
AreStores files old new stores stores' (Err (Failed Read)) = ⊥
AreStores files old new stores stores' (Err (Refused cause)) = ⊥

-- the status of an outcome without a line for standard error and without a world
abbrev pub IsStatus : Outcome → ℕ → Type 0
IsStatus outcome status = (outcome.status ≡ status) × (outcome.line ≡ []) × (outcome.last ≡ None)

-- the end of a command, before anything is written to standard error: it did what is due and returns the value that
-- belongs to it, or it stops at this step
abbrev pub EndsAs : {T : Type 0} → (hands_on : Outcome → T → Type 0) → (due : Outcome → Type 0) → (before after : Outside) → Result T Stop → Type 0
EndsAs hands_on due before after (Ok given) = (outcome : Outcome) × IsDone due before after (Ok outcome) × hands_on outcome given
EndsAs hands_on due before after (Err (Refused cause)) = IsDone due before after (Ok (refusal cause))
EndsAs hands_on due before after (Err (Failed fault)) = IsDone due before after (Err fault)

-- the same for a part that reads the trace and writes to the output, whatever was loaded before it
abbrev pub RunEnds : {T : Type 0} → (hands_on : Outcome → T → Type 0) → (due : Outcome → Type 0) → (left left' : Option (List ℕ)) → (reads reads' : ℕ) → (taken taken' : Option (List ℕ)) → (writes writes' : ℕ) → Result T Stop → Type 0
RunEnds hands_on due left left' reads reads' taken taken' writes writes' answer =
    (files files' : Option Files) (loads loads' stores stores' : ℕ) → KeepsFiles files files' → loads' ≡ loads → stores' ≡ stores →
    EndsAs hands_on due (record { files = files; loads = loads; stores = stores; left = left; reads = reads; taken = taken; writes = writes })
    (record { files = files'; loads = loads'; stores = stores'; left = left'; reads = reads'; taken = taken'; writes = writes' }) answer

-- what is written after a stop: the line of a refusal needs memory
abbrev pub IsFinished : Stop → (old new : Option (List ℕ)) → (faults faults' : ℕ) → ℕ → Type 0
IsFinished (Failed fault) old new faults faults' answer = IsTold (fault_status fault) (fault_line fault) old new faults faults' answer
IsFinished (Refused cause) old new faults faults' answer =
    IsTold (refusal cause).status (refusal cause).line old new faults faults' answer
    ⊎ IsTold (fault_status Memory) (fault_line Memory) old new faults faults' answer
