-- What holds of a call after a fault of the files, the trace or the output, or out of memory: which status is possible,
-- what standard error and the output have taken, and which files may have changed.
use Rattle.std.specs.Prelude.{ℕ, ◌≡◌, ◌≢◌, ◌<◌, ◌⊎◌, List, [], ◌∷◌, Option, Some}
use Rattle.std.specs.Io.KnownBytes.{Keeps, Appends}
use Rattle.cap_io.specs.Faults.{IsRisen}
use Rattle.cap_io.specs.Files.{Files, KeepsFiles}
use Rattle.cap_io.specs.Shelves.{HoldsPrefix}
use Rattle.command_words.specs.WordList.{IsWordList, Build}
use Rattle.command_words.specs.declared.options.Placement.{Placement}
use Rattle.command_outcomes.specs.declared.faults.Fault.{Fault}
use Rattle.command_outcomes.specs.declared.faults.Fault.TheVariants.{Read, Write, Memory}
use Rattle.command_outcomes.specs.FaultLines.{fault_status, fault_line}
use Rattle.command_outcomes.specs.Outcome.{Outcome}
use Rattle.command_outcomes.specs.Done.{Outside, WhereTold}
use Rattle.schedule_log.specs.Writing.{TakesPrefix}
use Rattle.capriccio_call.specs.Due.{IsDue}

-- a count of faults of the files, the trace or the output is greater than before
abbrev pub HasCounted : (before after : Outside) → Type 0
HasCounted before after =
    (before.loads < after.loads) ⊎ ((before.stores < after.stores) ⊎ ((before.reads < after.reads) ⊎ (before.writes < after.writes)))

-- ---- standard error

-- the line of a status: that of a due outcome with this status, or that of a fault
abbrev pub IsLineOf : (due : Outcome → Type 0) → (status : ℕ) → (line : List ℕ) → Type 0
IsLineOf due status line =
    ((outcome : Outcome) × due outcome × (outcome.status ≡ status) × (outcome.line ≡ line))
    ⊎ ((fault : Fault) × (fault_status fault ≡ status) × (fault_line fault ≡ line))

-- standard error took the line of this status, or a prefix of it if a write to it failed
abbrev pub TookLine : (due : Outcome → Type 0) → (status : ℕ) → (err err' : Option (List ℕ)) → (faults faults' : ℕ) → Type 0
TookLine due status err err' faults faults' =
    (line : List ℕ) × IsLineOf due status line × (Appends err err' line ⊎ (TakesPrefix err err' line × IsRisen faults faults'))

-- standard error took a prefix of the line of out of memory, or of that of the status that there would have been
abbrev pub TookPart : (due : Outcome → Type 0) → (err err' : Option (List ℕ)) → Type 0
TookPart due err err' = (status : ℕ) × (line : List ℕ) × IsLineOf due status line × TakesPrefix err err' line

-- ---- the output

-- the output took a prefix of what is due
abbrev pub TookDue : (due : Outcome → Type 0) → (taken taken' : Option (List ℕ)) → Type 0
TookDue due taken taken' = Keeps taken taken' ⊎ ((outcome : Outcome) × due outcome × TakesPrefix taken taken' outcome.out)

-- ---- the files

-- a file has its old contents, or a prefix of these bytes
abbrev pub HoldsPart : (old new : Files) → (name bytes : List ℕ) → Type 0
HoldsPart old new name bytes = (new name ≡ old name) ⊎ HoldsPrefix (new name) bytes

-- a pair that is stored in part. Under two names, each file has its old contents or a prefix of its new contents, the
-- certificate a prefix only if the image is complete; under one name, the file has its old contents or a prefix of one
-- of the two. All other files are unchanged.
pub record IsPairInPart (image_name certificate_name image certificate : List ℕ) (old new : Files) : Type 0 where
  pub two_names : image_name ≢ certificate_name →
      (HoldsPart old new image_name image × (new certificate_name ≡ old certificate_name))
      ⊎ ((new image_name ≡ Some image) × HoldsPart old new certificate_name certificate)
  pub one_name : image_name ≡ certificate_name → HoldsPart old new image_name image ⊎ HoldsPart old new image_name certificate
  pub others : (other : List ℕ) → other ≢ image_name → other ≢ certificate_name → new other ≡ old other

-- the words ask for a build, whose pair is stored in part
pub record BuildsInPart (words : List (List ℕ)) (before after : Outside) : Type 0 where
  pub source_name : List ℕ
  pub image_name : List ℕ
  pub certificate_name : List ℕ
  pub placement : Placement
  pub asked : IsWordList words (Build source_name image_name certificate_name placement)
  pub image : List ℕ
  pub certificate : List ℕ
  pub outcome : Outcome
  pub due : IsDue words before outcome
  pub pair : outcome.stores ≡ (image_name, image) ∷ (certificate_name, certificate) ∷ []
  pub part : WhereTold (IsPairInPart image_name certificate_name image certificate) before.files after.files

-- ---- the whole

-- what holds after a call with these words:
-- if a count rose, the status is that of a fault;
-- with any status other than that of out of memory, standard error took the line of this status;
-- with that of out of memory, it took a prefix of that line or of the line that there would have been;
-- with that of a fault, the output took a prefix of what is due;
-- if a read failed, no file has changed; if a write failed or memory ran out, only those of a build may have, in part.
pub record HoldsAfterFault (words : List (List ℕ)) (before after : Outside) (err err' : Option (List ℕ)) (faults faults' status : ℕ) : Type 0 where
  pub counted : HasCounted before after → (fault : Fault) × (status ≡ fault_status fault)
  pub line : status ≢ fault_status Memory → TookLine (IsDue words before) status err err' faults faults'
  pub line_in_part : status ≡ fault_status Memory → TookPart (IsDue words before) err err'
  pub out : (fault : Fault) → status ≡ fault_status fault → TookDue (IsDue words before) before.taken after.taken
  pub after_read : status ≡ fault_status Read → KeepsFiles before.files after.files
  pub after_write : (status ≡ fault_status Write) ⊎ (status ≡ fault_status Memory) → KeepsFiles before.files after.files ⊎ BuildsInPart words before after
