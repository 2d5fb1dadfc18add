-- The first failure of one fact is that of another that holds at the same indices.
use Rattle.rule_failures.specs.declared.spots.Spot.{Spot}
use Rattle.rule_failures.proofs.Common.{ℕ, ◌<◌, Option, Some, None, IsFirst, IsFirstSpot}

pub first_same : (P Q : ℕ → Type 0) → ((i : ℕ) → P i → Q i) → ((i : ℕ) → Q i → P i) → (r : Option ℕ) → IsFirst P r → IsFirst Q r
first_same P Q to from None h = λ i. to i (h i)
first_same P Q to from (Some i) h = (λ q. h.0 (from i q), λ j lt. to j (h.1 j lt))

pub spot_same : (P Q : ℕ → ℕ → Type 0) → ((f i : ℕ) → P f i → Q f i) → ((f i : ℕ) → Q f i → P f i) → (r : Option Spot) → IsFirstSpot P r → IsFirstSpot Q r
spot_same P Q to from None h = λ f i. to f i (h f i)
spot_same P Q to from (Some s) h =
    (λ q. h.0 (from s.function s.index q), λ j lt. to s.function j (h.1 j lt), λ g j lt. to g j (h.2 g j lt))

-- the first failure in a function, where all is well in the lower functions
pub spot_in : (P : ℕ → ℕ → Type 0) (f i : ℕ) → IsFirst (P f) (Some i) → ((g j : ℕ) → g < f → P g j) → IsFirstSpot P (Some (record { function = f; index = i }))
spot_in P f i h lower = (h.0, h.1, lower)
