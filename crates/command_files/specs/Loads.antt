-- What is due for the files that a command loads and reads, before what follows: a file that doesn't exist or is too
-- large is refused, and so are bytes that aren't a program, an image or a certificate.
use Rattle.std.specs.Prelude.{ℕ, ◌≡◌, ◌<◌, ◌≤◌, ◌⊎◌, List, length, Option, IfSome, Some, None}
use Rattle.cap_io.specs.Files.{Files}
use Rattle.c_tree.specs.Trees.{ProgramTree}
use Rattle.c_tree.specs.WellScoped.{IsWellScoped}
use Rattle.c_hoist.specs.NestedText.{ReadsNested, IsNestedSourceErrorOf}
use Rattle.c_scope.specs.declared.source_errors.SourceError.{SourceError}
use Rattle.stack_image.specs.declared.images.Image.{Image}
use Rattle.stack_image.specs.declared.refusals.ImageError.{ImageError}
use Rattle.stack_image.specs.Refusal.{refusal_of}
use Rattle.stack_image.specs.Spelling as image
use Rattle.stack_certificate.specs.declared.certificates.Certificate.{Certificate}
use Rattle.certificate_text.specs.FirstRefused.{IsFirstRefused}
use Rattle.certificate_text.specs.Text as certificate
use Rattle.command_outcomes.specs.declared.documents.Document.{Document}
use Rattle.command_outcomes.specs.declared.documents.Document.TheVariants as document
use Rattle.command_outcomes.specs.declared.stops.Cause.TheVariants as cause
use Rattle.command_outcomes.specs.Outcome.{Outcome}
use Rattle.command_outcomes.specs.CauseLines.{most_bytes, refusal}

-- what is due for a file, if it exists, with what follows for its bytes
abbrev pub OfFile : Document → Option (List ℕ) → (List ℕ → Outcome → Type 0) → Outcome → Type 0
OfFile which None next outcome = outcome ≡ refusal (cause.Absent which)
OfFile which (Some bytes) next outcome =
    ((length bytes ≤ most_bytes which) × next bytes outcome) ⊎ ((most_bytes which < length bytes) × (outcome ≡ refusal (cause.TooLong which)))

-- what is due after the load of the file of this name; if the shelf doesn't expose its files, it is some file
abbrev pub AfterLoad : Document → Option Files → List ℕ → (List ℕ → Outcome → Type 0) → Outcome → Type 0
AfterLoad which files name next outcome =
    (file : Option (List ℕ)) × IfSome files (λ f. f name ≡ file) × OfFile which file next outcome

-- what is due after the loads of the three files of a pair, one after another
abbrev pub AfterThree : Option Files → (source image certificate : List ℕ) → (List ℕ → List ℕ → List ℕ → Outcome → Type 0) → Outcome → Type 0
AfterThree files source_name image_name certificate_name next =
    AfterLoad document.Source files source_name (λ source.
    AfterLoad document.Image files image_name (λ image.
    AfterLoad document.Certificate files certificate_name (next source image)))

-- the bytes are read as a program, which is well scoped
pub record IsSourceText (bytes : List ℕ) (program : ProgramTree) : Type 0 where
  pub reads : ReadsNested bytes program
  pub scoped : IsWellScoped program

-- the bytes of a source are read as a program, with what follows for it, or are refused
abbrev pub AfterSource : List ℕ → (ProgramTree → Outcome → Type 0) → Outcome → Type 0
AfterSource bytes next outcome =
    ((program : ProgramTree) × IsSourceText bytes program × next program outcome)
    ⊎ ((error : SourceError) × IsNestedSourceErrorOf bytes error × (outcome ≡ refusal (cause.Source error)))

-- the bytes are read as an image
pub record IsImageText (bytes : List ℕ) (i : Image) : Type 0 where
  pub limits : image.IsWithinLimits i
  pub words : image.HoldsWords i
  pub spelled : bytes ≡ image.spelling i

-- the bytes of an image are read as an image, with what follows for it, or are refused
abbrev pub AfterImage : List ℕ → (Image → Outcome → Type 0) → Outcome → Type 0
AfterImage bytes next outcome =
    ((i : Image) × IsImageText bytes i × next i outcome)
    ⊎ ((error : ImageError) × (refusal_of bytes ≡ Some error) × (outcome ≡ refusal (cause.Image error)))

-- the bytes are read as a certificate
pub record IsCertificateText (bytes : List ℕ) (c : Certificate) : Type 0 where
  pub limits : certificate.IsWithinLimits c
  pub words : certificate.HoldsWords c
  pub spelled : bytes ≡ certificate.spelling c

-- the bytes of a certificate are read as a certificate, with what follows for it, or are refused
abbrev pub AfterCertificate : List ℕ → (Certificate → Outcome → Type 0) → Outcome → Type 0
AfterCertificate bytes next outcome =
    ((c : Certificate) × IsCertificateText bytes c × next c outcome)
    ⊎ ((number : ℕ) × IsFirstRefused bytes number × (outcome ≡ refusal (cause.CertificateLine number)))
