-- What the checker returns with a refusal.
use Rattle.std.specs.Prelude.{◌≡◌}
use Rattle.c_tree.specs.ProgramView.{program_tree}
use Rattle.c_tree.specs.declared.programs.Program.{Program}
use Rattle.stack_image.specs.declared.images.Image.{Image}
use Rattle.stack_certificate.specs.declared.certificates.Certificate.{Certificate}
use Rattle.certificate_rules.specs.Validity.{IsFirstFailure}
use Rattle.c_lower.specs.ProgramCode.{lowered}
use Rattle.certificate_check.specs.declared.checking.CheckError.{CheckError}
use Rattle.certificate_check.specs.declared.checking.CheckError.TheVariants.{Rejected, Memory}

-- a refusal returns the three values, and a rejection names the first failure of the rules
pub record HandsBack (program back : Program) (image image_back : Image) (certificate certificate_back : Certificate) : Type 0 where
  pub program_is : program_tree back ≡ program_tree program
  pub image_is : image_back ≡ image
  pub certificate_is : certificate_back ≡ certificate

abbrev pub IsRefusalOf : Program → Image → Certificate → CheckError → Type 0
IsRefusalOf program image certificate (Rejected rule function index p i c) =
    HandsBack program p image i certificate c × IsFirstFailure (lowered (program_tree program)) image certificate rule function index
IsRefusalOf program image certificate (Memory p i c) = HandsBack program p image i certificate c
