-- What is known once the lower rules hold, and where the rules say nothing.
use Rattle.certificate_check.proofs.Common.{◌≡◌, false, ℕ, zero, ◌+◌, ◌<◌, ◌≤◌, [], length, arith, refl, sym, ap, ◌∙◌, subst, Some, None, inl, inr, slice_get, cases_lt, Op, FlatCode, function_at, operation_at, Image, Certificate, V1, Holds, IsValid, IsFirstFailure, holds_v1, holds_outside, HoldBelow, IsFirstSpot, IsFunctionRule, Spot}
use Rattle.std.proofs.lemmas.List.{get_or_past}

-- ---- functions that aren't there

no_operation : (code : FlatCode) (f k : ℕ) (op : Op) → length code.functions ≤ f → operation_at code f k ≡ Some op → ⊥
no_operation code f k op past e =
    let none : function_at code f ≡ record { params = 0; gives = false; sizes = []; ops = [] } = get_or_past code.functions f _ past in
    let nothing : None ≡ Some op = sym (ap (λ h. slice_get h.ops k) none) ∙ e in
    cc

pub past_functions : (code : FlatCode) (image : Image) (certificate : Certificate) (rule f i : ℕ) → IsFunctionRule rule → 0 < length code.functions → length code.functions ≤ f →
    ((j : ℕ) → Holds code image certificate rule zero j) → Holds code image certificate rule f i
past_functions code image certificate rule f i kind some past first = record {
  v1 = λ e. absurd (omega (arith, kind.0));
  v2 = λ e. absurd (omega (arith, kind.0));
  v3 = λ e. record { frame = λ _ lt. absurd (omega arith) };
  v4 = λ e. record { placed = λ lt _. absurd (omega arith) };
  v5 = λ e. record { word = λ lt _ _. absurd (omega arith) };
  v6 = λ e. record { inside = λ lt _. absurd (omega arith); words = λ lt _ _ _. absurd (omega arith); over = λ lt _. absurd (omega arith) };
  v7 = λ e. absurd (kind.2 e);
  v8 = λ e. absurd (kind.3 e);
  v9 = λ e. record { need = λ k op there _. absurd (no_operation code f k op past there) };
  v10 = λ e. record { bound = λ k op there _ _. absurd (no_operation code f k op past there) };
  v11 = λ e. record { frame = λ _ lt. absurd (omega arith); bound = λ _ lt. absurd (omega arith); path = λ is. ((first i).v11 e).path is };
  v12 = λ e. absurd (omega (arith, kind.1));
}

-- ---- from rule to rule

pub below_start : (code : FlatCode) (image : Image) (certificate : Certificate) → IsFirstSpot (V1 code image certificate) None → HoldBelow code image certificate 2
below_start code image certificate first = record {
  holds = λ lower f i lt. elim (cases_lt lower 1) [
    | inl under ↦ holds_outside code image certificate lower f i (λ least _. omega arith)
    | inr over ↦ (let is : 1 ≡ lower = omega arith in subst (λ (r : ℕ). Holds code image certificate r f i) is (holds_v1 code image certificate f i (first f i)))
  ];
}

pub below_next : (code : FlatCode) (image : Image) (certificate : Certificate) (rule : ℕ) → HoldBelow code image certificate rule → ((f i : ℕ) → Holds code image certificate rule f i) →
    HoldBelow code image certificate (rule + 1)
below_next code image certificate rule below here = record {
  holds = λ lower f i lt. elim (cases_lt lower rule) [
    | inl under ↦ below.holds lower f i under
    | inr over ↦ (let is : rule ≡ lower = omega arith in subst (λ (r : ℕ). Holds code image certificate r f i) is (here f i))
  ];
}

pub valid_from : (code : FlatCode) (image : Image) (certificate : Certificate) → HoldBelow code image certificate 13 → IsValid code image certificate
valid_from code image certificate below = record {
  holds = λ rule f i. elim (cases_lt rule 13) [
    | inl under ↦ below.holds rule f i under
    | inr over ↦ holds_outside code image certificate rule f i (λ _ greatest. omega arith)
  ];
}

pub failure_from : (code : FlatCode) (image : Image) (certificate : Certificate) (rule : ℕ) (spot : Spot) → HoldBelow code image certificate rule →
    IsFirstSpot (λ f i. Holds code image certificate rule f i) (Some spot) → IsFirstFailure code image certificate rule spot.function spot.index
failure_from code image certificate rule spot below first = record {
  fails = first.0;
  lower_indices = first.1;
  lower_functions = first.2;
  lower_rules = λ lower g j lt. below.holds lower g j lt;
}

-- ---- one function more

pub holds_more : (code : FlatCode) (image : Image) (certificate : Certificate) (rule f : ℕ) → ((g j : ℕ) → g < f → Holds code image certificate rule g j) → ((j : ℕ) → Holds code image certificate rule f j) →
    (g j : ℕ) → g < f + 1 → Holds code image certificate rule g j
holds_more code image certificate rule f before here g j less = elim (cases_lt g f) [
  | inl below ↦ before g j below
  | inr above ↦ (let is : f ≡ g = omega arith in subst (λ (n : ℕ). Holds code image certificate rule n j) is (here j))
]

-- the first failure of V1 is that of the pair
pub first_failure_from : (code : FlatCode) (image : Image) (certificate : Certificate) (spot : Spot) → IsFirstSpot (V1 code image certificate) (Some spot) →
    IsFirstFailure code image certificate 1 spot.function spot.index
first_failure_from code image certificate spot first = record {
  fails = λ h. first.0 (h.v1 refl);
  lower_indices = λ j lt. holds_v1 code image certificate spot.function j (first.1 j lt);
  lower_functions = λ g j lt. holds_v1 code image certificate g j (first.2 g j lt);
  lower_rules = λ lower g j lt. holds_outside code image certificate lower g j (λ least _. omega arith);
}
