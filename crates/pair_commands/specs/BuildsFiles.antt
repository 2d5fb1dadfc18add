-- What the command `build` does.
use Rattle.std.specs.Prelude.{ℕ, ◌≡◌, ◌⊎◌, false, List, [], ◌∷◌, ◌++◌, length, codes, Option, None}
use Rattle.cap_io.specs.Files.{Files}
use Rattle.cap_text.specs.Decimals.{canonical_decimal}
use Rattle.c_tree.specs.Trees.{ProgramTree}
use Rattle.c_lower.specs.ProgramCode.{lowered}
use Rattle.codegen_link.specs.declared.options.Options.{Options}
use Rattle.stack_image.specs.declared.images.Image.{Image}
use Rattle.stack_image.specs.Spelling as image
use Rattle.stack_certificate.specs.declared.certificates.Certificate.{Certificate}
use Rattle.certificate_text.specs.Text as certificate
use Rattle.stack_build.specs.Builds.{IsTooLarge, IsLaidOut}
use Rattle.stack_build.specs.declared.refusals.BuildError.TheVariants.{CodeTooLarge}
use Rattle.pair_commands.specs.declared.build_command.Products.{Products}
use Rattle.command_outcomes.specs.declared.stops.Cause.TheVariants as cause
use Rattle.command_outcomes.specs.declared.documents.Document.TheVariants as document
use Rattle.command_outcomes.specs.Outcome.{Outcome}
use Rattle.command_outcomes.specs.CauseLines.{refusal}
use Rattle.command_files.specs.Loads.{AfterLoad, AfterSource}
use Rattle.pair_commands.specs.Graphs.{IsFrameRefused, HasFittingFrames}

-- `built code W globals G tables T`, with its line feed
abbrev pub built_line : Image → List ℕ
built_line i =
    (((((codes "built code " ++ canonical_decimal (length i.code)) ++ codes " globals ") ++ canonical_decimal (length i.globals)) ++ codes " tables ")
    ++ canonical_decimal (length i.tables)) ++ 10 ∷ []

-- the image, then the certificate, are stored under these names
abbrev pub built : (image_name certificate_name : List ℕ) → Image → Certificate → Outcome
built image_name certificate_name i c =
    record { status = 0; out = built_line i; line = []; stores = (image_name, image.spelling i) ∷ (certificate_name, certificate.spelling c) ∷ []; last = None; reads_trace = false }

-- the files that a build writes for an image and a certificate
pub record IsProductsOf (i : Image) (c : Certificate) (products : Products) : Type 0 where
  pub image_bytes : products.image.items ≡ image.spelling i
  pub certificate_bytes : products.certificate.items ≡ certificate.spelling c
  pub line : products.line.items ≡ built_line i

abbrev pub stored_products : (image_name certificate_name : List ℕ) → Products → Outcome
stored_products image_name certificate_name products =
    record { status = 0; out = products.line.items; line = []; stores = (image_name, products.image.items) ∷ (certificate_name, products.certificate.items) ∷ []; last = None; reads_trace = false }

-- the code isn't too large for any placement
abbrev pub HasFittingCode : ProgramTree → Options → Type 0
HasFittingCode program options = (words : ℕ) → ¬ IsTooLarge (lowered program) options (CodeTooLarge words)

-- a frame is too large, or no frame is but the code is
abbrev pub IsUnbuilt : Options → ProgramTree → Outcome → Type 0
IsUnbuilt options program outcome =
    IsFrameRefused program options.max_path outcome
    ⊎ (HasFittingFrames program options.max_path × (words : ℕ) × IsTooLarge (lowered program) options (CodeTooLarge words) × (outcome ≡ refusal (cause.Code words)))

-- if no frame is too large and the code isn't, the pair that is laid out for the placement is stored
abbrev pub BuildsProgram : Options → (image_name certificate_name : List ℕ) → ProgramTree → Outcome → Type 0
BuildsProgram options image_name certificate_name program outcome =
    IsUnbuilt options program outcome
    ⊎ (HasFittingFrames program options.max_path × HasFittingCode program options
    × (i : Image) × (c : Certificate) × IsLaidOut (lowered program) options i c × (outcome ≡ built image_name certificate_name i c))

-- what is due for the words of `build`
abbrev pub Builds : Option Files → (name image_name certificate_name : List ℕ) → Options → Outcome → Type 0
Builds files name image_name certificate_name options =
    AfterLoad document.Source files name (λ source. AfterSource source (BuildsProgram options image_name certificate_name))
