-- What the machine's casts and shifts give, as the numbers of specs/Word.antt.
use Rattle.std.proofs.Common.{◌≡◌, ◌∙◌, ℕ, zero, suc, ◌+◌, ◌-◌, ◌/◌, ◌%◌, ◌^◌, ◌<◌, ◌≤◌, ℤ, pos, negsuc, neg_ℤ, ◌-ℤ◌, w32, w64, FitsSigned, to_z, of_z, refl, sym, ap, subst, inl, inr, arith, lit<}
use Rattle.std.proofs.lemmas.Int.{ints, to_z-of_z, of_z-to_z, int_rem_euclid_is}
use Rattle.std.proofs.lemmas.Bool.{cases_lt}
use Rattle.std.proofs.Math.Nat.{div-le_self}
use Rattle.std.specs.Int.{int_shr, int_wrapping_div}
use Rattle.std.specs.Int.RustNames.{unsigned_abs, int_div}
use Rattle.cap_word.specs.Word.{signed, word_of, floor_div, sub, div, sra}

-- the signed reading is the cast to the signed type
pub to_z-signed : (a : ℕ) → a < 2 ^ 32 → to_z w32 a ≡ signed a
unfolding signed
to_z-signed a h = grind (arith, ints)

-- the cast back is the word of the number
pub of_z-word_of : (z : ℤ) → FitsSigned w32 z → of_z w32 z ≡ word_of z
unfolding word_of
of_z-word_of (pos n) h = omega arith
of_z-word_of (negsuc n) h = omega arith

-- a difference modulo 2 ^ 32
pub sub_is : (a b : ℕ) → a < 2 ^ 32 → b < 2 ^ 32 → (a + (2 ^ 32 - b)) % 2 ^ 32 ≡ sub a b
unfolding sub word_of
sub_is a b h k =
    sym (ap unsigned_abs (int_rem_euclid_is (pos a -ℤ pos b) (pos (2 ^ 32)) (2 ^ 32) 1 (a + (2 ^ 32 - b)) (lit< tt) refl (omega (arith, ints))))

-- a shift to the right that keeps the sign is a quotient rounded down
pub floor_div-shr : (z : ℤ) (k : ℕ) → int_shr z k ≡ floor_div z (2 ^ k)
unfolding floor_div
floor_div-shr (pos n) k = refl
floor_div-shr (negsuc n) k = refl

-- the word of a number is that of its reading as a word, from -(2 ^ 32) to 2 ^ 32 - 1
pub word_of-cast_pos : (n : ℕ) → n < 2 ^ 32 → word_of (to_z w32 n) ≡ n
unfolding word_of
word_of-cast_pos n h = elim (cases_lt n (2 ^ 31)) [ inl low ↦ grind arith | inr high ↦ grind arith ]

pub word_of-cast : (z : ℤ) → unsigned_abs z < 2 ^ 32 → word_of (to_z w32 (of_z w32 z)) ≡ word_of z
unfolding word_of
word_of-cast (pos n) h = let e : n ≡ n % 2 ^ 32 = omega arith in word_of-cast_pos n h ∙ e
word_of-cast (negsuc n) h =
    let e : 2 ^ 32 - suc n ≡ 2 ^ 32 - 1 - n % 2 ^ 32 = omega arith in
    word_of-cast_pos (2 ^ 32 - suc n) (omega arith) ∙ e

-- a quotient is no further from 0 than the dividend
unsigned_abs-neg : (n : ℕ) → unsigned_abs (neg_ℤ (pos n)) ≡ n
unsigned_abs-neg zero = refl
unsigned_abs-neg (suc n) = refl

pub unsigned_abs-int_div : (x y : ℤ) → unsigned_abs (int_div x y) ≤ unsigned_abs x
unsigned_abs-int_div (pos a) (pos b) = div-le_self a b
unsigned_abs-int_div (pos a) (negsuc b) = rw (unsigned_abs-neg (a / suc b)) (div-le_self a (suc b))
unsigned_abs-int_div (negsuc a) (pos b) = rw (unsigned_abs-neg (suc a / b)) (div-le_self (suc a) b)
unsigned_abs-int_div (negsuc a) (negsuc b) = div-le_self (suc a) (suc b)

unsigned_abs-le : (x : ℤ) → FitsSigned w32 x → unsigned_abs x ≤ 2 ^ 31
unsigned_abs-le (pos n) h = omega (arith, h.sfits)
unsigned_abs-le (negsuc n) h = omega (arith, h.sfits)

div_by_nonzero : (a b : ℕ) → (b ≡ 0 → ⊥) → word_of (int_div (signed a) (signed b)) ≡ div a b
unfolding div
div_by_nonzero a b nonzero = grind arith

-- the signed quotient as the code takes it
pub div_is : (a b : ℕ) (x y d : ℤ) → (b ≡ 0 → ⊥) → FitsSigned w32 x → FitsSigned w32 y → FitsSigned w32 d →
    x ≡ signed a → y ≡ signed b → d ≡ int_wrapping_div w32 (to_z w32 (of_z w32 x)) (to_z w32 (of_z w32 y)) →
    word_of (to_z w32 (of_z w32 d)) ≡ div a b
div_is a b x y d nonzero fits_x fits_y fits_d is_a is_b is_d =
    ap word_of (to_z-of_z w32 d fits_d ∙ is_d
    ∙ ap (λ z. int_wrapping_div w32 z (to_z w32 (of_z w32 y))) (to_z-of_z w32 x fits_x)
    ∙ ap (λ z. int_wrapping_div w32 x z) (to_z-of_z w32 y fits_y))
    ∙ word_of-cast (int_div x y) (omega (arith, unsigned_abs-int_div x y, unsigned_abs-le x fits_x))
    ∙ ap (λ z. word_of (int_div z y)) is_a
    ∙ ap (λ z. word_of (int_div (signed a) z)) is_b
    ∙ div_by_nonzero a b nonzero

-- a divisor that isn't 0 has a signed reading that isn't
pub signed_nonzero : (b : ℕ) (y : ℤ) → b < 2 ^ 32 → (b ≡ 0 → ⊥) → y ≡ signed b → 0 < of_z w32 (to_z w32 (of_z w32 y))
signed_nonzero b y below nonzero is_b =
    let P : ℕ → Type 0 = λ n. 0 < n in
    let e : of_z w32 (to_z w32 (of_z w32 y)) ≡ b =
    ap (λ z. of_z w32 (to_z w32 (of_z w32 z))) (is_b ∙ sym (to_z-signed b below))
    ∙ ap (λ n. of_z w32 (to_z w32 n)) (of_z-to_z w32 b below)
    ∙ of_z-to_z w32 b below in
    subst P (sym e) (omega arith)

-- a product shifted by 32 fits a signed word
pub shr-32_fits : (z : ℤ) → FitsSigned w64 z → FitsSigned w32 (int_shr z 32)
shr-32_fits (pos n) h = record { sfits = omega (arith, h.sfits) }
shr-32_fits (negsuc n) h = record { sfits = omega (arith, h.sfits) }

shr-32_fits_64 : (z : ℤ) → FitsSigned w64 z → FitsSigned w64 (int_shr z 32)
shr-32_fits_64 (pos n) h = record { sfits = omega (arith, h.sfits) }
shr-32_fits_64 (negsuc n) h = record { sfits = omega (arith, h.sfits) }

-- the high word as the code takes it
pub high_is : (z : ℤ) → FitsSigned w64 z →
    word_of (to_z w32 (of_z w32 (to_z w64 (of_z w64 (int_shr (to_z w64 (of_z w64 z)) 32))))) ≡ word_of (floor_div z (2 ^ 32))
high_is z h =
    ap word_of (ap (λ y. to_z w32 (of_z w32 (to_z w64 (of_z w64 (int_shr y 32))))) (to_z-of_z w64 z h)
    ∙ ap (λ y. to_z w32 (of_z w32 y)) (to_z-of_z w64 (int_shr z 32) (shr-32_fits_64 z h))
    ∙ to_z-of_z w32 (int_shr z 32) (shr-32_fits z h)
    ∙ floor_div-shr z 32)

-- the shift that keeps the sign as the code takes it
pub sra_is : (a b : ℕ) (x r : ℤ) → FitsSigned w32 x → FitsSigned w32 r → x ≡ signed a →
    r ≡ int_shr (to_z w32 (of_z w32 x)) (b % 32) → word_of (to_z w32 (of_z w32 r)) ≡ sra a b
unfolding sra
sra_is a b x r fits_x fits_r is_a is_r =
    ap word_of (to_z-of_z w32 r fits_r ∙ is_r
    ∙ ap (λ z. int_shr z (b % 32)) (to_z-of_z w32 x fits_x ∙ is_a)
    ∙ floor_div-shr (signed a) (b % 32))
