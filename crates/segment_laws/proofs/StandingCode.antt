-- An instruction that stands in the code is fetched there.
use Rattle.segment_laws.proofs.Common.{◌≡◌, ℕ, zero, suc, ◌-◌, ◌/◌, ◌%◌, ◌<◌, ◌≤◌, List, [], ◌∷◌, length, Some, None, Ok, Err, ap, subst, ◌∙◌, slice_get, ◌==◌, nat_lt, slice_index_or, AllByRecursion, cond-true, cond-false, le-ltb, eq-eqb, All-from_recursion, Misaligned, Instr, code_word, decoded, fetched, instruction_at, Image, Stands}
use Rattle.rv_code.proofs.Inverse.{decoding-encoding}
use Rattle.stack_image.specs.Addresses.{code_start}

pub fetched_there : (image : Image) (address : ℕ) (instr : Instr) → Stands image address instr → address % 4 ≡ 0 → 4096 ≤ address → instruction_at image.code address ≡ Ok instr
unfolding instruction_at
fetched_there image address instr stands aligned low =
    cond-true (address % 4 == 0) (fetched (code_word image.code address)) (Err Misaligned) (eq-eqb (address % 4) 0 aligned)
    ∙ ap fetched (cond-false (nat_lt address code_start) None (slice_get image.code ((address - code_start) / 4)) (le-ltb address code_start low) ∙ stands.word)
    ∙ ap decoded (decoding-encoding instr stands.fits)

-- what holds of each element holds of the one at an index
pub all_at : {X : Type 0} (P : X → Type 0) (xs : List X) (i : ℕ) (x : X) → AllByRecursion P xs → slice_get xs i ≡ Some x → P x
all_at P [] i x all e = absurd (cc)
all_at {X = X} P (y ∷ ys) zero x all e = let same : y ≡ x = cc in subst P same all.0
all_at P (y ∷ ys) (suc i) x all e = all_at P ys i x all.1 e

pub all_index : {X : Type 0} (P : X → Type 0) (xs : List X) (i : ℕ) (d : X) → AllByRecursion P xs → i < length xs → P (slice_index_or xs i d)
all_index P xs i d all below = All-from_recursion P xs all i d below
