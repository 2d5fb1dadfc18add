-- The promise on failures: what holds after a failed read or write, or out of memory.
use Rattle.std.specs.Prelude.{◌≡◌, ◌≢◌, ℕ, ◌⊎◌, List, ◌∷◌, [], Option, codes}
use Rattle.std.specs.Io.KnownBytes.{Appends}
use Rattle.cap_io.specs.Faults.{IsRisen, Rose}
use Rattle.cap_io.specs.Files.{Files, KeepsFiles}
use Rattle.capriccio_call.specs.AfterFault.{HasCounted, IsPairInPart}
use Rattle.command_outcomes.specs.Done.{Outside, WhereTold}
use Rattle.command_outcomes.specs.FaultLines.{fault_status, fault_line}
use Rattle.command_outcomes.specs.declared.faults.Fault.{Fault}
use Rattle.command_words.specs.Said.{Said, positionals_of}
use Rattle.promises.specs.Words.{AreOf}
use Rattle.buffered_writer.specs.Writing.{TakesPrefix}

-- Only the two files that a `build` names may have changed. Under two names, each has its old contents or a prefix of
-- some new contents, the certificate a prefix only if the image is complete. Which contents these are isn't said here;
-- the clause `after_fault` says it.
pub record StoresInPart (words : List (List ℕ)) (old new : Option Files) : Type 0 where
  pub items : List Said
  pub asked : AreOf words (codes "build") items
  pub source_name : List ℕ
  pub image_name : List ℕ
  pub certificate_name : List ℕ
  pub named : positionals_of items ≡ source_name ∷ image_name ∷ certificate_name ∷ []
  pub image : List ℕ
  pub certificate : List ℕ
  pub part : WhereTold (IsPairInPart image_name certificate_name image certificate) old new

-- If a count of faults of the shelf, the trace or the output rose, the status is that of a fault: 6 for reading, 7 for
-- writing, 8 for out of memory. With 6 or 7 a count did rise, or is at its maximum, and standard error took the line of
-- that fault, or a prefix of it if a write to standard error failed (or its count is at its maximum). After a failed read no file has changed, and after a
-- failed write or out of memory only those of a `build` may have.
pub record KeepsAfterFault (words : List (List ℕ)) (before after : Outside) (err err' : Option (List ℕ)) (faults faults' status : ℕ) : Type 0 where
  pub counted : HasCounted before after → (status ≡ 6) ⊎ ((status ≡ 7) ⊎ (status ≡ 8))
  pub read : status ≡ 6 → Rose before.loads after.loads ⊎ Rose before.reads after.reads
  pub write : status ≡ 7 → Rose before.stores after.stores ⊎ Rose before.writes after.writes
  pub line : (fault : Fault) → status ≡ fault_status fault → status ≢ 8 →
      Appends err err' (fault_line fault) ⊎ (TakesPrefix err err' (fault_line fault) × IsRisen faults faults')
  pub after_read : status ≡ 6 → KeepsFiles before.files after.files
  pub after_write : (status ≡ 7) ⊎ (status ≡ 8) → KeepsFiles before.files after.files ⊎ StoresInPart words before.files after.files
