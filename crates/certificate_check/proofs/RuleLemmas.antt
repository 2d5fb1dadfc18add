-- The first failure of a rule's own definition is that of the rule of its number.
use Rattle.certificate_check.proofs.Common.{◌≡◌, ℕ, zero, arith, refl, sym, subst, Option, Some, None, FlatCode, Image, Certificate, V2, V3, V4, V5, V6, V7, V8, V9, V10, V11, V12, Holds, holds_v2, holds_v3, holds_v4, holds_v5, holds_v6, holds_v7, holds_v8, holds_v9, holds_v10, holds_v11, holds_v12, Spot, IsFirst, IsFirstSpot, at_zero}
use Rattle.rule_failures.proofs.FirstLemmas.{first_same, spot_same}

-- a rule that means no function fails first at function 0
pub spot_everywhere : (P : ℕ → ℕ → Type 0) (r : Option ℕ) → ((f : ℕ) → IsFirst (P f) r) → IsFirstSpot P (at_zero r)
spot_everywhere P None h = λ f i. h f i
spot_everywhere P (Some i) h = ((h zero).0, (h zero).1, λ g j lt. absurd (omega arith))

pub first_v3 : (code : FlatCode) (image : Image) (certificate : Certificate) (rule f : ℕ) (r : Option ℕ) → rule ≡ 3 → IsFirst (λ i. V3 code certificate f i) r → IsFirst (λ i. Holds code image certificate rule f i) r
first_v3 code image certificate rule f r e h =
    subst (λ (n : ℕ). IsFirst (λ i. Holds code image certificate n f i) r) (sym e)
    (first_same (λ i. V3 code certificate f i) (λ i. Holds code image certificate 3 f i) (λ i v. holds_v3 code image certificate f i v) (λ i v. v.v3 refl) r h)

pub first_v4 : (code : FlatCode) (image : Image) (certificate : Certificate) (rule f : ℕ) (r : Option ℕ) → rule ≡ 4 → IsFirst (λ i. V4 code certificate f i) r → IsFirst (λ i. Holds code image certificate rule f i) r
first_v4 code image certificate rule f r e h =
    subst (λ (n : ℕ). IsFirst (λ i. Holds code image certificate n f i) r) (sym e)
    (first_same (λ i. V4 code certificate f i) (λ i. Holds code image certificate 4 f i) (λ i v. holds_v4 code image certificate f i v) (λ i v. v.v4 refl) r h)

pub first_v5 : (code : FlatCode) (image : Image) (certificate : Certificate) (rule f : ℕ) (r : Option ℕ) → rule ≡ 5 → IsFirst (λ i. V5 code image certificate f i) r → IsFirst (λ i. Holds code image certificate rule f i) r
first_v5 code image certificate rule f r e h =
    subst (λ (n : ℕ). IsFirst (λ i. Holds code image certificate n f i) r) (sym e)
    (first_same (λ i. V5 code image certificate f i) (λ i. Holds code image certificate 5 f i) (λ i v. holds_v5 code image certificate f i v) (λ i v. v.v5 refl) r h)

pub first_v6 : (code : FlatCode) (image : Image) (certificate : Certificate) (rule f : ℕ) (r : Option ℕ) → rule ≡ 6 → IsFirst (λ i. V6 code image certificate f i) r → IsFirst (λ i. Holds code image certificate rule f i) r
first_v6 code image certificate rule f r e h =
    subst (λ (n : ℕ). IsFirst (λ i. Holds code image certificate n f i) r) (sym e)
    (first_same (λ i. V6 code image certificate f i) (λ i. Holds code image certificate 6 f i) (λ i v. holds_v6 code image certificate f i v) (λ i v. v.v6 refl) r h)

pub first_v9 : (code : FlatCode) (image : Image) (certificate : Certificate) (rule f : ℕ) (r : Option ℕ) → rule ≡ 9 → IsFirst (λ i. V9 code certificate f i) r → IsFirst (λ i. Holds code image certificate rule f i) r
first_v9 code image certificate rule f r e h =
    subst (λ (n : ℕ). IsFirst (λ i. Holds code image certificate n f i) r) (sym e)
    (first_same (λ i. V9 code certificate f i) (λ i. Holds code image certificate 9 f i) (λ i v. holds_v9 code image certificate f i v) (λ i v. v.v9 refl) r h)

pub first_v10 : (code : FlatCode) (image : Image) (certificate : Certificate) (rule f : ℕ) (r : Option ℕ) → rule ≡ 10 → IsFirst (λ i. V10 code certificate f i) r → IsFirst (λ i. Holds code image certificate rule f i) r
first_v10 code image certificate rule f r e h =
    subst (λ (n : ℕ). IsFirst (λ i. Holds code image certificate n f i) r) (sym e)
    (first_same (λ i. V10 code certificate f i) (λ i. Holds code image certificate 10 f i) (λ i v. holds_v10 code image certificate f i v) (λ i v. v.v10 refl) r h)

pub first_v11 : (code : FlatCode) (image : Image) (certificate : Certificate) (rule f : ℕ) (r : Option ℕ) → rule ≡ 11 → IsFirst (λ i. V11 code certificate f i) r → IsFirst (λ i. Holds code image certificate rule f i) r
first_v11 code image certificate rule f r e h =
    subst (λ (n : ℕ). IsFirst (λ i. Holds code image certificate n f i) r) (sym e)
    (first_same (λ i. V11 code certificate f i) (λ i. Holds code image certificate 11 f i) (λ i v. holds_v11 code image certificate f i v) (λ i v. v.v11 refl) r h)

pub spot_v2 : (code : FlatCode) (image : Image) (certificate : Certificate) (rule : ℕ) (r : Option Spot) → rule ≡ 2 → IsFirstSpot (λ f i. V2 code image certificate f i) r → IsFirstSpot (λ f i. Holds code image certificate rule f i) r
spot_v2 code image certificate rule r e h =
    subst (λ (n : ℕ). IsFirstSpot (λ f i. Holds code image certificate n f i) r) (sym e)
    (spot_same (λ f i. V2 code image certificate f i) (λ f i. Holds code image certificate 2 f i) (λ f i v. holds_v2 code image certificate f i v) (λ f i v. v.v2 refl) r h)

pub spot_v7 : (code : FlatCode) (image : Image) (certificate : Certificate) (rule : ℕ) (r : Option Spot) → rule ≡ 7 → IsFirstSpot (λ f i. V7 image f i) r → IsFirstSpot (λ f i. Holds code image certificate rule f i) r
spot_v7 code image certificate rule r e h =
    subst (λ (n : ℕ). IsFirstSpot (λ f i. Holds code image certificate n f i) r) (sym e)
    (spot_same (λ f i. V7 image f i) (λ f i. Holds code image certificate 7 f i) (λ f i v. holds_v7 code image certificate f i v) (λ f i v. v.v7 refl) r h)

pub spot_v8 : (code : FlatCode) (image : Image) (certificate : Certificate) (rule : ℕ) (r : Option Spot) → rule ≡ 8 → IsFirstSpot (λ f i. V8 code image certificate f i) r → IsFirstSpot (λ f i. Holds code image certificate rule f i) r
spot_v8 code image certificate rule r e h =
    subst (λ (n : ℕ). IsFirstSpot (λ f i. Holds code image certificate n f i) r) (sym e)
    (spot_same (λ f i. V8 code image certificate f i) (λ f i. Holds code image certificate 8 f i) (λ f i v. holds_v8 code image certificate f i v) (λ f i v. v.v8 refl) r h)

pub spot_v12 : (code : FlatCode) (image : Image) (certificate : Certificate) (rule : ℕ) (r : Option Spot) → rule ≡ 12 → IsFirstSpot (λ f i. V12 code image f i) r → IsFirstSpot (λ f i. Holds code image certificate rule f i) r
spot_v12 code image certificate rule r e h =
    subst (λ (n : ℕ). IsFirstSpot (λ f i. Holds code image certificate n f i) r) (sym e)
    (spot_same (λ f i. V12 code image f i) (λ f i. Holds code image certificate 12 f i) (λ f i v. holds_v12 code image certificate f i v) (λ f i v. v.v12 refl) r h)
