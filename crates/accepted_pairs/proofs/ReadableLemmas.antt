-- A pair of which V1 holds can be read.
use Rattle.accepted_pairs.proofs.Common.{◌≡◌, ℕ, zero, suc, ◌^◌, ◌<◌, ◌≤◌, List, [], ◌∷◌, length, arith, refl, slice_index_or, FlatCode, Image, Certificate, FunctionFact, HasPlaces, IsValid, IsReadable}
use Rattle.flat_code.specs.declared.functions.FlatFunction.{FlatFunction}
use Rattle.certificate_rules.specs.Rules.{V1}

-- places by recursion, from the counts of each function
places_for : (fs : List FlatFunction) (facts : List FunctionFact) (d : FlatFunction) (e : FunctionFact) → length facts ≡ length fs →
    ((f : ℕ) → f < length fs → length (slice_index_or facts f e).places ≡ length (slice_index_or fs f d).sizes) → HasPlaces fs facts
places_for [] [] d e same each = tt
places_for (f ∷ fs) (fact ∷ facts) d e same each = (each zero (omega arith), places_for fs facts d e (omega arith) (λ k lt. each (suc k) (omega arith)))
places_for _ _ d e same each = absurd (omega arith)

pub readable : (code : FlatCode) (image : Image) (certificate : Certificate) → length code.functions ≤ 2 ^ 32 → ((f i : ℕ) → V1 code image certificate f i) → IsReadable code certificate
readable code image certificate few first =
    let counts = (first zero 3).functions refl in
    record {
      few = few;
      functions = counts.0;
      places = places_for code.functions certificate.functions _ _ counts.0 (λ f lt. (first f 4).places refl lt);
      rising = ((first zero 5).sites refl).rising;
    }

pub readable_of : (code : FlatCode) (image : Image) (certificate : Certificate) → length code.functions ≤ 2 ^ 32 → IsValid code image certificate → IsReadable code certificate
readable_of code image certificate few valid = readable code image certificate few (λ f i. (valid.holds 1 f i).v1 refl)
