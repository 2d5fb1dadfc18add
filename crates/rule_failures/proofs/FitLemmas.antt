-- The first failure of V1.
use Rattle.rule_failures.proofs.Common.{◌≡◌, ℕ, ◌<◌, ◌≤◌, Bool, true, false, length, arith, refl, Option, Some, None, inl, inr, ◌↔◌, IsTrue, nat_eq, if◌then◌else◌, cases_lt, eqb-true, eqb-false, false≢true, FlatCode, function_at, Image, Certificate, fact_at, V1, NamesSites, IsFirst, IsFirstSpot, unfit_spot}

-- the function has as many places as variables, if it is there
abbrev HasPlacesAt : FlatCode → Certificate → ℕ → Type 0
HasPlacesAt code certificate f = f < length code.functions → length (fact_at certificate f).places ≡ length (function_at code f).sizes

pub count_spot : (code : FlatCode) (image : Image) (certificate : Certificate) (i : ℕ) → IsFirst (λ j. j ≤ 3 → V1 code image certificate 0 j) (Some i) →
    IsFirstSpot (λ f j. V1 code image certificate f j) (Some (record { function = 0; index = i }))
count_spot code image certificate i h = elim (cases_lt 3 i) [
  | inl past ↦ absurd (h.0 (λ le. absurd (omega arith)))
  | inr within ↦ (λ v. h.0 (λ _. v), λ j lt. h.1 j lt (omega arith), λ g j lt. absurd (omega arith))
]

pub same_functions : (code : FlatCode) (image : Image) (certificate : Certificate) → IsFirst (λ j. j ≤ 3 → V1 code image certificate 0 j) None → length certificate.functions ≡ length code.functions
same_functions code image certificate counts = ((counts 3 (omega arith)).functions refl).0

with_counts : (code : FlatCode) (image : Image) (certificate : Certificate) (f i : ℕ) → ((j : ℕ) → j ≤ 3 → V1 code image certificate 0 j) → (i ≡ 4 → HasPlacesAt code certificate f) →
    (i ≡ 5 → NamesSites code certificate) → V1 code image certificate f i
with_counts code image certificate f i counts places sites = record {
  chunk = λ _. (counts 1 (omega arith)).chunk refl;
  words = λ _. (counts 2 (omega arith)).words refl;
  functions = λ _. (counts 3 (omega arith)).functions refl;
  places = λ e lt. places e lt;
  sites = sites;
}

pub fit_spot : (code : FlatCode) (image : Image) (certificate : Certificate) (r : Option ℕ) (named : Bool) → IsFirst (λ j. j ≤ 3 → V1 code image certificate 0 j) None →
    IsFirst (λ f. f < length code.functions → length (fact_at certificate f).places ≡ length (function_at code f).sizes) r → (IsTrue named ↔ NamesSites code certificate) →
    IsFirstSpot (λ f j. V1 code image certificate f j) (unfit_spot r named)
fit_spot code image certificate None true counts places names = λ f i. with_counts code image certificate f i counts (λ _. places f) (λ _. names.0 refl)
fit_spot code image certificate None false counts places names = (
  λ v. false≢true (names.1 (v.sites refl)),
  λ j lt. with_counts code image certificate 0 j counts (λ _. places 0) (λ e. absurd (omega arith)),
  λ g j lt. absurd (omega arith),
)
fit_spot code image certificate (Some f) named counts places names = by (nat_eq f 0) refl named names
  where
    by : (b : Bool) → nat_eq f 0 ≡ b → (n : Bool) → (IsTrue n ↔ NamesSites code certificate) →
        IsFirstSpot (λ g j. V1 code image certificate g j) (if b then Some (record { function = f; index = 4 }) else if n then Some (record { function = f; index = 4 }) else Some (record { function = 0; index = 5 }))
    by true e n nn =
        let is : f ≡ 0 = eqb-true f 0 e in (
          λ v. places.0 (λ lt. v.places refl lt),
          λ j lt. with_counts code image certificate f j counts (λ g. absurd (omega arith)) (λ g. absurd (omega arith)),
          λ g j lt. absurd (omega arith),
        )
    by false e true nn = (
      λ v. places.0 (λ lt. v.places refl lt),
      λ j lt. with_counts code image certificate f j counts (λ g. absurd (omega arith)) (λ g. absurd (omega arith)),
      λ g j lt. with_counts code image certificate g j counts (λ _. places.1 g lt) (λ _. nn.0 refl),
    )
    by false e false nn = (
      λ v. false≢true (nn.1 (v.sites refl)),
      λ j lt. with_counts code image certificate 0 j counts (λ _. places.1 0 (elim (cases_lt 0 f) [
        | inl above ↦ above
        | inr zero_ ↦ absurd (eqb-false f 0 e (omega arith))
      ])) (λ g. absurd (omega arith)),
      λ g j lt. absurd (omega arith),
    )
