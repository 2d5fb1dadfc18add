-- The first place at which a condition fails.
use Rattle.std.specs.Prelude.{◌≡◌, ℕ, ◌+◌, ◌<◌, Bool, List, length, nat_eq, if◌then◌else◌, Option, Some, None, slice_get}
use Rattle.flat_code.specs.Codes.{FlatCode}
use Rattle.stack_image.specs.declared.images.Image.{Image}
use Rattle.stack_certificate.specs.declared.certificates.Certificate.{Certificate}
use Rattle.certificate_rules.specs.Validity.{Holds}
use Rattle.rule_failures.specs.declared.spots.Spot.{Spot}

-- the first index at which a condition fails, or none if it holds at each
abbrev pub IsFirst : (ℕ → Type 0) → Option ℕ → Type 0
IsFirst P None = (i : ℕ) → P i
IsFirst P (Some i) = (P i → ⊥) × ((j : ℕ) → j < i → P j)

-- the first function, and in it the first index, at which a condition fails, or none if it holds at each
abbrev pub IsFirstSpot : (ℕ → ℕ → Type 0) → Option Spot → Type 0
IsFirstSpot P None = (f i : ℕ) → P f i
IsFirstSpot P (Some spot) =
    (P spot.function spot.index → ⊥) × ((j : ℕ) → j < spot.index → P spot.function j) × ((g j : ℕ) → g < spot.function → P g j)

-- the first failure of V1 after its first three indices, by the first function without a place for each variable, and
-- whether the certificate names the program's sites
abbrev pub unfit_spot : Option ℕ → Bool → Option Spot
unfit_spot None named = if named then None else Some (record { function = 0; index = 5 })
unfit_spot (Some f) named = if nat_eq f 0 then Some (record { function = f; index = 4 }) else if named then Some (record { function = f; index = 4 }) else Some (record { function = 0; index = 5 })

-- each lower rule holds everywhere
pub record HoldBelow (code : FlatCode) (image : Image) (certificate : Certificate) (rule : ℕ) : Type 0 where
  pub holds : (lower f i : ℕ) → lower < rule → Holds code image certificate lower f i

-- the first of some words, after the others, that isn't the expected one, or none if all of them are
abbrev pub IsFirstOther : List ℕ → List ℕ → ℕ → Option ℕ → Type 0
IsFirstOther expected words passed None = (k : ℕ) → k < length expected → slice_get words (passed + k) ≡ slice_get expected k
IsFirstOther expected words passed (Some i) =
    (k : ℕ) × (k < length expected) × (i ≡ passed + k) × (slice_get words (passed + k) ≡ slice_get expected k → ⊥) ×
    ((j : ℕ) → j < k → slice_get words (passed + j) ≡ slice_get expected j)
