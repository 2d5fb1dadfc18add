-- What the command `check` does.
use Rattle.std.specs.Prelude.{ℕ, ◌≡◌, List, [], ◌∷◌, ◌++◌, codes, Option}
use Rattle.cap_io.specs.Files.{Files}
use Rattle.c_tree.specs.Trees.{ProgramTree}
use Rattle.c_lower.specs.ProgramCode.{lowered}
use Rattle.certificate_rules.specs.Validity.{IsValid, IsFirstFailure}
use Rattle.stack_image.specs.declared.images.Image.{Image}
use Rattle.stack_certificate.specs.declared.certificates.Certificate.{Certificate}
use Rattle.pair_commands.specs.declared.check_command.Verdict.{Verdict}
use Rattle.pair_commands.specs.declared.check_command.Verdict.TheVariants.{Accepted, Rejected}
use Rattle.command_outcomes.specs.Outcome.{Outcome, printed}
use Rattle.command_outcomes.specs.CauseLines.{rejected_words}
use Rattle.command_files.specs.Loads.{AfterThree, AfterSource, AfterImage, AfterCertificate}

-- the status of a verdict, and its line
abbrev pub verdict_status : Verdict → ℕ
verdict_status Accepted = 0
verdict_status (Rejected rule function index) = 3

abbrev pub verdict_line : Verdict → List ℕ
verdict_line Accepted = codes "accepted" ++ 10 ∷ []
verdict_line (Rejected rule function index) = rejected_words rule function index ++ 10 ∷ []

abbrev pub verdict_outcome : Verdict → Outcome
verdict_outcome verdict = printed (verdict_status verdict) (verdict_line verdict)

-- every rule holds of the pair, or the verdict is the first failure
abbrev pub IsVerdict : ProgramTree → Image → Certificate → Verdict → Type 0
IsVerdict program i c Accepted = IsValid (lowered program) i c
IsVerdict program i c (Rejected rule function index) = IsFirstFailure (lowered program) i c rule function index

-- what is due for a pair: its verdict
abbrev pub ChecksPair : ProgramTree → Image → Certificate → Outcome → Type 0
ChecksPair program i c outcome = (verdict : Verdict) × IsVerdict program i c verdict × (outcome ≡ verdict_outcome verdict)

-- the bytes of the three files are read in the order source, image, certificate
abbrev pub ChecksBytes : (source image certificate : List ℕ) → Outcome → Type 0
ChecksBytes source image certificate =
    AfterSource source (λ program. AfterImage image (λ i. AfterCertificate certificate (λ c. ChecksPair program i c)))

-- what is due for the words of `check`; all three files are loaded before any of them is read
abbrev pub Checks : Option Files → (source_name image_name certificate_name : List ℕ) → Outcome → Type 0
Checks files source_name image_name certificate_name = AfterThree files source_name image_name certificate_name ChecksBytes
