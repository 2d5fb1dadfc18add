-- The premises under which a command completes its work.
use Rattle.std.specs.Prelude.{◌≡◌, ℕ, List, Option, Some}
use Rattle.c_tree.specs.Trees.{ProgramTree}
use Rattle.c_lower.specs.ProgramCode.{lowered}
use Rattle.cap_io.specs.Files.{Files}
use Rattle.certificate_rules.specs.Validity.{IsValid}
use Rattle.codegen_link.specs.declared.options.Options.{Options}
use Rattle.stack_image.specs.declared.images.Image.{Image}
use Rattle.stack_certificate.specs.declared.certificates.Certificate.{Certificate}
use Rattle.thread_core.specs.Worlds.{Held}
use Rattle.command_outcomes.specs.declared.documents.Document.TheVariants as document
use Rattle.command_outcomes.specs.Done.{Outside, NoFault}
use Rattle.command_files.specs.Loads.{IsSourceText, IsImageText, IsCertificateText}
use Rattle.command_files.specs.Loaded.{IsLoaded}
use Rattle.pair_commands.specs.BuildsFiles.{HasFittingCode}
use Rattle.pair_commands.specs.Graphs.{HasFittingFrames}
use Rattle.capriccio_call.specs.Headline.{IsAnswer}

-- a call of the program with these words has returned this status: its clause `answer` holds, its files and its trace
-- are exposed, and no count of faults rose
pub record HasAnswered (words : List (List ℕ)) (files : Files) (trace : List ℕ) (before after : Outside) (status : ℕ) : Type 0 where
  pub err : Option (List ℕ)
  pub err_after : Option (List ℕ)
  pub faults : ℕ
  pub faults_after : ℕ
  pub last : Option Held
  pub answer : IsAnswer words before after err err_after faults faults_after last status
  pub files_told : before.files ≡ Some files
  pub trace_told : before.left ≡ Some trace
  pub none_rose : NoFault before after

-- a file of this name exists, is at most as long as a source may be, and reads as this program
pub record HasSource (files : Files) (name : List ℕ) (program : ProgramTree) : Type 0 where
  pub bytes : List ℕ
  pub there : IsLoaded document.Source (Some files) name bytes
  pub reads : IsSourceText bytes program

-- such a source, with frames and code that aren't too large
pub record HasBuildable (files : Files) (name : List ℕ) (sizes : Options) (program : ProgramTree) : Type 0 where
  pub source : HasSource files name program
  pub frames : HasFittingFrames program sizes.max_path
  pub code : HasFittingCode program sizes

-- files of these names exist, none is too long, and they are this program and a pair of image and certificate for which
-- every rule holds
pub record HasValidPair (files : Files) (source_name image_name certificate_name : List ℕ) (program : ProgramTree) (i : Image) (c : Certificate) : Type 0 where
  pub source : HasSource files source_name program
  pub image_bytes : List ℕ
  pub image_there : IsLoaded document.Image (Some files) image_name image_bytes
  pub image_is : IsImageText image_bytes i
  pub certificate_bytes : List ℕ
  pub certificate_there : IsLoaded document.Certificate (Some files) certificate_name certificate_bytes
  pub certificate_is : IsCertificateText certificate_bytes c
  pub valid : IsValid (lowered program) i c
