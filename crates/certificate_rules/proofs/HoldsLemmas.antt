-- A rule holds at a function and an index where its own definition does.
use Rattle.std.proofs.Common.{◌≡◌, ℕ, ◌≤◌, false, nat_eq, refl, arith}
use Rattle.std.proofs.lemmas.Bool.{eq-eqb}
use Rattle.flat_code.specs.Codes.{FlatCode}
use Rattle.stack_image.specs.declared.images.Image.{Image}
use Rattle.stack_certificate.specs.declared.certificates.Certificate.{Certificate}
use Rattle.certificate_rules.specs.Rules.{V1, V2, V3, V4, V5, V6, V7, V8, V9, V10, V11, V12}
use Rattle.certificate_rules.specs.Validity.{Holds}

-- nothing is asked of two numbers that differ
no : {A : Type 0} {n m : ℕ} → nat_eq n m ≡ false → n ≡ m → A
no {n = a} {m = b} differ same = let equal = eq-eqb a b same in absurd cc

pub holds_v1 : (code : FlatCode) (image : Image) (certificate : Certificate) (f i : ℕ) → V1 code image certificate f i → Holds code image certificate 1 f i
holds_v1 code image certificate f i h =
    record { v1 = λ _. h; v2 = no refl; v3 = no refl; v4 = no refl; v5 = no refl; v6 = no refl; v7 = no refl; v8 = no refl; v9 = no refl; v10 = no refl; v11 = no refl; v12 = no refl }

pub holds_v2 : (code : FlatCode) (image : Image) (certificate : Certificate) (f i : ℕ) → V2 code image certificate f i → Holds code image certificate 2 f i
holds_v2 code image certificate f i h =
    record { v1 = no refl; v2 = λ _. h; v3 = no refl; v4 = no refl; v5 = no refl; v6 = no refl; v7 = no refl; v8 = no refl; v9 = no refl; v10 = no refl; v11 = no refl; v12 = no refl }

pub holds_v3 : (code : FlatCode) (image : Image) (certificate : Certificate) (f i : ℕ) → V3 code certificate f i → Holds code image certificate 3 f i
holds_v3 code image certificate f i h =
    record { v1 = no refl; v2 = no refl; v3 = λ _. h; v4 = no refl; v5 = no refl; v6 = no refl; v7 = no refl; v8 = no refl; v9 = no refl; v10 = no refl; v11 = no refl; v12 = no refl }

pub holds_v4 : (code : FlatCode) (image : Image) (certificate : Certificate) (f i : ℕ) → V4 code certificate f i → Holds code image certificate 4 f i
holds_v4 code image certificate f i h =
    record { v1 = no refl; v2 = no refl; v3 = no refl; v4 = λ _. h; v5 = no refl; v6 = no refl; v7 = no refl; v8 = no refl; v9 = no refl; v10 = no refl; v11 = no refl; v12 = no refl }

pub holds_v5 : (code : FlatCode) (image : Image) (certificate : Certificate) (f i : ℕ) → V5 code image certificate f i → Holds code image certificate 5 f i
holds_v5 code image certificate f i h =
    record { v1 = no refl; v2 = no refl; v3 = no refl; v4 = no refl; v5 = λ _. h; v6 = no refl; v7 = no refl; v8 = no refl; v9 = no refl; v10 = no refl; v11 = no refl; v12 = no refl }

pub holds_v6 : (code : FlatCode) (image : Image) (certificate : Certificate) (f i : ℕ) → V6 code image certificate f i → Holds code image certificate 6 f i
holds_v6 code image certificate f i h =
    record { v1 = no refl; v2 = no refl; v3 = no refl; v4 = no refl; v5 = no refl; v6 = λ _. h; v7 = no refl; v8 = no refl; v9 = no refl; v10 = no refl; v11 = no refl; v12 = no refl }

pub holds_v7 : (code : FlatCode) (image : Image) (certificate : Certificate) (f i : ℕ) → V7 image f i → Holds code image certificate 7 f i
holds_v7 code image certificate f i h =
    record { v1 = no refl; v2 = no refl; v3 = no refl; v4 = no refl; v5 = no refl; v6 = no refl; v7 = λ _. h; v8 = no refl; v9 = no refl; v10 = no refl; v11 = no refl; v12 = no refl }

pub holds_v8 : (code : FlatCode) (image : Image) (certificate : Certificate) (f i : ℕ) → V8 code image certificate f i → Holds code image certificate 8 f i
holds_v8 code image certificate f i h =
    record { v1 = no refl; v2 = no refl; v3 = no refl; v4 = no refl; v5 = no refl; v6 = no refl; v7 = no refl; v8 = λ _. h; v9 = no refl; v10 = no refl; v11 = no refl; v12 = no refl }

pub holds_v9 : (code : FlatCode) (image : Image) (certificate : Certificate) (f i : ℕ) → V9 code certificate f i → Holds code image certificate 9 f i
holds_v9 code image certificate f i h =
    record { v1 = no refl; v2 = no refl; v3 = no refl; v4 = no refl; v5 = no refl; v6 = no refl; v7 = no refl; v8 = no refl; v9 = λ _. h; v10 = no refl; v11 = no refl; v12 = no refl }

pub holds_v10 : (code : FlatCode) (image : Image) (certificate : Certificate) (f i : ℕ) → V10 code certificate f i → Holds code image certificate 10 f i
holds_v10 code image certificate f i h =
    record { v1 = no refl; v2 = no refl; v3 = no refl; v4 = no refl; v5 = no refl; v6 = no refl; v7 = no refl; v8 = no refl; v9 = no refl; v10 = λ _. h; v11 = no refl; v12 = no refl }

pub holds_v11 : (code : FlatCode) (image : Image) (certificate : Certificate) (f i : ℕ) → V11 code certificate f i → Holds code image certificate 11 f i
holds_v11 code image certificate f i h =
    record { v1 = no refl; v2 = no refl; v3 = no refl; v4 = no refl; v5 = no refl; v6 = no refl; v7 = no refl; v8 = no refl; v9 = no refl; v10 = no refl; v11 = λ _. h; v12 = no refl }

pub holds_v12 : (code : FlatCode) (image : Image) (certificate : Certificate) (f i : ℕ) → V12 code image f i → Holds code image certificate 12 f i
holds_v12 code image certificate f i h =
    record { v1 = no refl; v2 = no refl; v3 = no refl; v4 = no refl; v5 = no refl; v6 = no refl; v7 = no refl; v8 = no refl; v9 = no refl; v10 = no refl; v11 = no refl; v12 = λ _. h }

-- there is no rule 0, and none above 12
pub holds_outside : (code : FlatCode) (image : Image) (certificate : Certificate) (rule f i : ℕ) → (1 ≤ rule → rule ≤ 12 → ⊥) → Holds code image certificate rule f i
holds_outside code image certificate rule f i none = record {
  v1 = λ e. absurd (none (omega arith) (omega arith));
  v2 = λ e. absurd (none (omega arith) (omega arith));
  v3 = λ e. absurd (none (omega arith) (omega arith));
  v4 = λ e. absurd (none (omega arith) (omega arith));
  v5 = λ e. absurd (none (omega arith) (omega arith));
  v6 = λ e. absurd (none (omega arith) (omega arith));
  v7 = λ e. absurd (none (omega arith) (omega arith));
  v8 = λ e. absurd (none (omega arith) (omega arith));
  v9 = λ e. absurd (none (omega arith) (omega arith));
  v10 = λ e. absurd (none (omega arith) (omega arith));
  v11 = λ e. absurd (none (omega arith) (omega arith));
  v12 = λ e. absurd (none (omega arith) (omega arith));
}
