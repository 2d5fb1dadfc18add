-- What is known of a pair's ranges once V1 holds, and where V2 says nothing.
use Rattle.rule_failures.proofs.Common.{◌≡◌, ℕ, zero, ◌+◌, ◌<◌, ◌≤◌, length, arith, refl, subst, inl, inr, cases_lt, FlatCode, Image, Certificate, V1, V2, HoldBelow}

-- V1, where the lower rules than another hold
pub first_rule : (code : FlatCode) (image : Image) (certificate : Certificate) (rule f i : ℕ) → 2 ≤ rule → HoldBelow code image certificate rule → V1 code image certificate f i
first_rule code image certificate rule f i le below = (below.holds 1 f i (omega arith)).v1 refl

pub counts_of : (code : FlatCode) (image : Image) (certificate : Certificate) → HoldBelow code image certificate 2 →
    (length certificate.functions ≡ length code.functions) × (length image.entries ≡ length code.functions)
counts_of code image certificate below = (first_rule code image certificate 2 zero 3 (omega arith) below).functions refl

pub code_few : (code : FlatCode) (image : Image) (certificate : Certificate) → HoldBelow code image certificate 2 → length image.code ≤ 200000
code_few code image certificate below = ((first_rule code image certificate 2 zero 2 (omega arith) below).words refl).1

pub v2_past : (code : FlatCode) (image : Image) (certificate : Certificate) (f i : ℕ) → length code.functions ≤ f → V2 code image certificate f i
v2_past code image certificate f i past = record {
  inside = λ _ lt. absurd (omega arith);
  entry = λ _ lt. absurd (omega arith);
  apart = λ _ lt _ _. absurd (omega arith);
}

pub v2_more : (code : FlatCode) (image : Image) (certificate : Certificate) (f : ℕ) → ((g j : ℕ) → g < f → V2 code image certificate g j) → ((j : ℕ) → V2 code image certificate f j) →
    (g j : ℕ) → g < f + 1 → V2 code image certificate g j
v2_more code image certificate f before here g j less = elim (cases_lt g f) [
  | inl below ↦ before g j below
  | inr above ↦ (let is : f ≡ g = omega arith in subst (λ (n : ℕ). V2 code image certificate n j) is (here j))
]
