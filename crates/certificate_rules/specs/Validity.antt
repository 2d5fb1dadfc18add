-- When a pair of image and certificate is valid for a program, and which failure is reported otherwise.
use Rattle.std.specs.Prelude.{◌≡◌, ℕ, ◌<◌}
use Rattle.flat_code.specs.Codes.{FlatCode}
use Rattle.stack_image.specs.declared.images.Image.{Image}
use Rattle.stack_certificate.specs.declared.certificates.Certificate.{Certificate}
use Rattle.certificate_rules.specs.Rules.{V1, V2, V3, V4, V5, V6, V7, V8, V9, V10, V11, V12}

-- the list of the rules: the rule of this number holds at function f and index i
pub record Holds (code : FlatCode) (image : Image) (certificate : Certificate) (rule f i : ℕ) : Type 0 where
  pub v1 : rule ≡ 1 → V1 code image certificate f i
  pub v2 : rule ≡ 2 → V2 code image certificate f i
  pub v3 : rule ≡ 3 → V3 code certificate f i
  pub v4 : rule ≡ 4 → V4 code certificate f i
  pub v5 : rule ≡ 5 → V5 code image certificate f i
  pub v6 : rule ≡ 6 → V6 code image certificate f i
  pub v7 : rule ≡ 7 → V7 image f i
  pub v8 : rule ≡ 8 → V8 code image certificate f i
  pub v9 : rule ≡ 9 → V9 code certificate f i
  pub v10 : rule ≡ 10 → V10 code certificate f i
  pub v11 : rule ≡ 11 → V11 code certificate f i
  pub v12 : rule ≡ 12 → V12 code image f i

-- every rule holds at every function and index
pub record IsValid (code : FlatCode) (image : Image) (certificate : Certificate) : Type 0 where
  pub holds : (rule f i : ℕ) → Holds code image certificate rule f i

-- the first failure: the rule fails there, and holds at each lower index of the function and at each lower function,
-- and each lower rule holds everywhere
pub record IsFirstFailure (code : FlatCode) (image : Image) (certificate : Certificate) (rule f i : ℕ) : Type 0 where
  pub fails : Holds code image certificate rule f i → ⊥
  pub lower_indices : (j : ℕ) → j < i → Holds code image certificate rule f j
  pub lower_functions : (g j : ℕ) → g < f → Holds code image certificate rule g j
  pub lower_rules : (lower g j : ℕ) → lower < rule → Holds code image certificate lower g j
