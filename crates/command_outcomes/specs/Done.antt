-- What a call changes outside: everything that a due outcome says, or a part of it after a fault or out of memory.
use Rattle.std.specs.Prelude.{ℕ, ◌≡◌, ◌≢◌, ◌⊎◌, Bool, true, false, List, [], ◌∷◌, Option, Some, None, Result, Ok, Err}
use Rattle.std.specs.Io.KnownBytes.{Keeps, Appends}
use Rattle.cap_io.specs.Faults.{IsRisen, Rose, Stayed}
use Rattle.cap_io.specs.Files.{Files, KeepsFiles, KeepsOthers}
use Rattle.cap_io.specs.Shelves.{HoldsPrefix}
use Rattle.command_outcomes.specs.declared.faults.Fault.{Fault}
use Rattle.command_outcomes.specs.declared.faults.Fault.TheVariants.{Read, Write, Memory}
use Rattle.command_outcomes.specs.FaultLines.{fault_status, fault_line}
use Rattle.command_outcomes.specs.Outcome.{Outcome, Ran}
use Rattle.buffered_writer.specs.Writing.{TakesPrefix}

-- what a shelf, a trace and the output expose at a moment: the files, the counts of failed loads and failed stores, the
-- bytes left of the trace and its count of faults, and the bytes that the output took and its count of faults
pub record Outside : Type 0 where
  pub files : Option Files
  pub loads : ℕ
  pub stores : ℕ
  pub left : Option (List ℕ)
  pub reads : ℕ
  pub taken : Option (List ℕ)
  pub writes : ℕ

-- what these objects expose, each by its ghost members
abbrev pub outside_by : {F S K : Type 0} → (files : F → Option Files) → (loads stores : F → ℕ) → (left : S → Option (List ℕ)) → (reads : S → ℕ) → (taken : K → Option (List ℕ)) → (writes : K → ℕ) → F → S → K → Outside
outside_by files loads stores left reads taken writes shelf trace out =
    record { files = files shelf; loads = loads shelf; stores = stores shelf; left = left trace; reads = reads trace; taken = taken out; writes = writes out }

-- the same for a shelf and an output, with a trace that isn't read
abbrev pub outside_beside : {F K : Type 0} → (files : F → Option Files) → (loads stores : F → ℕ) → (left : Option (List ℕ)) → (reads : ℕ) → (taken : K → Option (List ℕ)) → (writes : K → ℕ) → F → K → Outside
outside_beside files loads stores left reads taken writes shelf out =
    record { files = files shelf; loads = loads shelf; stores = stores shelf; left = left; reads = reads; taken = taken out; writes = writes out }

-- Files.

-- a file was stored: it has these bytes, and the others are unchanged
pub record IsStored (old new : Files) (name bytes : List ℕ) : Type 0 where
  pub holds : new name ≡ Some bytes
  pub others : KeepsOthers old new name

-- files were stored, one after another
abbrev pub AreStored : List (List ℕ × List ℕ) → Files → Files → Type 0
AreStored [] old new = (name : List ℕ) → new name ≡ old name
AreStored (file ∷ files) old new = (next : Files) × IsStored old next file.0 file.1 × AreStored files next new

-- a store was cut short: the file has its old contents or a prefix of the bytes, and the others are unchanged
pub record IsCutShort (old new : Files) (name bytes : List ℕ) : Type 0 where
  pub holds : HoldsPrefix (new name) bytes ⊎ (new name ≡ old name)
  pub others : KeepsOthers old new name

-- the first of these files were stored, and the next store was cut short
abbrev pub AreCutShort : List (List ℕ × List ℕ) → Files → Files → Type 0
AreCutShort [] old new = ⊥
AreCutShort (file ∷ files) old new =
    IsCutShort old new file.0 file.1 ⊎ ((next : Files) × IsStored old next file.0 file.1 × AreCutShort files next new)

-- this holds of the files, if the shelf exposes them
abbrev pub WhereTold : (Files → Files → Type 0) → Option Files → Option Files → Type 0
WhereTold P None new = Unit {0}
WhereTold P (Some old) None = ⊥
WhereTold P (Some old) (Some new) = P old new

-- Counts of faults.

-- no count has changed
pub record NoneCounted (before after : Outside) : Type 0 where
  pub loads : after.loads ≡ before.loads
  pub stores : after.stores ≡ before.stores
  pub reads : after.reads ≡ before.reads
  pub writes : after.writes ≡ before.writes

-- a load failed
pub record LoadCounted (before after : Outside) : Type 0 where
  pub loads : IsRisen before.loads after.loads
  pub stores : after.stores ≡ before.stores
  pub reads : after.reads ≡ before.reads
  pub writes : after.writes ≡ before.writes

-- a store failed
pub record StoreCounted (before after : Outside) : Type 0 where
  pub loads : after.loads ≡ before.loads
  pub stores : IsRisen before.stores after.stores
  pub reads : after.reads ≡ before.reads
  pub writes : after.writes ≡ before.writes

-- a write to the output failed
pub record WriteCounted (before after : Outside) : Type 0 where
  pub loads : after.loads ≡ before.loads
  pub stores : after.stores ≡ before.stores
  pub reads : after.reads ≡ before.reads
  pub writes : IsRisen before.writes after.writes

-- a read of the trace failed
pub record TraceCounted (before after : Outside) : Type 0 where
  pub loads : after.loads ≡ before.loads
  pub stores : after.stores ≡ before.stores
  pub reads : IsRisen before.reads after.reads
  pub writes : after.writes ≡ before.writes

-- a read of the trace failed before anything was printed: its count rose, or is at its maximum
pub record ReadCounted (before after : Outside) : Type 0 where
  pub loads : after.loads ≡ before.loads
  pub stores : after.stores ≡ before.stores
  pub reads : Rose before.reads after.reads
  pub writes : after.writes ≡ before.writes

-- no count rose or is at its maximum
pub record NoFault (before after : Outside) : Type 0 where
  pub loads : Stayed before.loads after.loads
  pub stores : Stayed before.stores after.stores
  pub reads : Stayed before.reads after.reads
  pub writes : Stayed before.writes after.writes

-- What was done.

-- the trace is unchanged if the outcome doesn't read it
abbrev pub IsTraceLeft : (reads_trace : Bool) → Option (List ℕ) → Option (List ℕ) → Type 0
IsTraceLeft false left left' = Keeps left left'
IsTraceLeft true left left' = Unit {0}

-- nothing: no file has changed, the trace wasn't read, and the output took nothing
pub record IsNothing (before after : Outside) : Type 0 where
  pub files : KeepsFiles before.files after.files
  pub trace : Keeps before.left after.left
  pub out : Keeps before.taken after.taken

-- only the trace was read: no file has changed, and the output took nothing. This is possible only if some due outcome
-- reads the trace without a run, that is, not if every outcome that reads it returns a world
pub record IsOnlyRead (due : Outcome → Type 0) (before after : Outside) : Type 0 where
  pub reads : ((outcome : Outcome) → due outcome → outcome.reads_trace ≡ true → outcome.last ≢ None) → ⊥
  pub files : KeepsFiles before.files after.files
  pub out : Keeps before.taken after.taken

-- all of an outcome
pub record IsWhole (outcome : Outcome) (before after : Outside) : Type 0 where
  pub files : WhereTold (AreStored outcome.stores) before.files after.files
  pub trace : IsTraceLeft outcome.reads_trace before.left after.left
  pub out : Appends before.taken after.taken outcome.out

-- a store was cut short, before the output took anything
pub record IsCutInStores (outcome : Outcome) (before after : Outside) : Type 0 where
  pub some : outcome.stores ≢ []
  pub files : WhereTold (AreCutShort outcome.stores) before.files after.files
  pub trace : Keeps before.left after.left
  pub out : Keeps before.taken after.taken

-- all is stored, and the output took a prefix
pub record IsCutInOut (outcome : Outcome) (before after : Outside) : Type 0 where
  pub files : WhereTold (AreStored outcome.stores) before.files after.files
  pub trace : IsTraceLeft outcome.reads_trace before.left after.left
  pub out : TakesPrefix before.taken after.taken outcome.out

-- what was done, given the due outcomes: `Ok` is the whole outcome
abbrev pub IsDone : (Outcome → Type 0) → (before after : Outside) → Result Outcome Fault → Type 0
IsDone due before after (Ok outcome) = due outcome × IsWhole outcome before after × NoneCounted before after
IsDone due before after (Err Read) =
    ((IsNothing before after × LoadCounted before after) ⊎ (IsOnlyRead due before after × ReadCounted before after))
    ⊎ ((outcome : Outcome) × (outcome.reads_trace ≡ true) × due outcome × IsCutInOut outcome before after × TraceCounted before after)
IsDone due before after (Err Write) =
    (outcome : Outcome) × due outcome
    × ((IsCutInStores outcome before after × StoreCounted before after) ⊎ (IsCutInOut outcome before after × WriteCounted before after))
IsDone due before after (Err Memory) =
    (IsNothing before after ⊎ (IsOnlyRead due before after
    ⊎ ((outcome : Outcome) × due outcome × (IsCutInStores outcome before after ⊎ IsCutInOut outcome before after))))
    × NoneCounted before after

-- The status and standard error.

-- the status of what was done, and its line for standard error
abbrev pub status_of : Result Outcome Fault → ℕ
status_of (Ok outcome) = outcome.status
status_of (Err fault) = fault_status fault

abbrev pub line_of : Result Outcome Fault → List ℕ
line_of (Ok outcome) = outcome.line
line_of (Err fault) = fault_line fault

-- the status that is returned, and what standard error took: the line, or a prefix of it. After a failed write the
-- status stays; out of memory, it is that of out of memory.
abbrev pub IsTold : ℕ → List ℕ → (old new : Option (List ℕ)) → (faults faults' : ℕ) → ℕ → Type 0
IsTold status line old new faults faults' answer =
    ((answer ≡ status) × Appends old new line × (faults' ≡ faults))
    ⊎ ((line ≢ []) × TakesPrefix old new line
    × (((answer ≡ status) × IsRisen faults faults') ⊎ ((answer ≡ fault_status Memory) × (faults' ≡ faults))))

-- the run that reached its stop, if there was one
abbrev pub last_of : Result Outcome Fault → Option Ran
last_of (Ok outcome) = outcome.last
last_of (Err fault) = None

-- What is exact.

-- this outcome was done, or memory ran out
abbrev pub IsThisCase : Outcome → Result Outcome Fault → Type 0
IsThisCase outcome (Ok given) = given ≡ outcome
IsThisCase outcome (Err Memory) = Unit {0}
IsThisCase outcome (Err Read) = ⊥
IsThisCase outcome (Err Write) = ⊥

-- the trace is exposed if the outcome reads it
abbrev pub IsTraceTold : Option (List ℕ) → Outcome → Type 0
IsTraceTold left outcome = outcome.reads_trace ≡ true → (trace : List ℕ) × (left ≡ Some trace)

-- if the files are exposed, and also the trace if the due outcome reads it, and no fault was counted, what is due was
-- done
abbrev pub IsExact : (Outside → Outcome → Type 0) → (before after : Outside) → Result Outcome Fault → Type 0
IsExact due before after given =
    NoFault before after → (files : Files) (outcome : Outcome) → before.files ≡ Some files → IsTraceTold before.left outcome → due before outcome → IsThisCase outcome given
