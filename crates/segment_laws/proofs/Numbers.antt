-- Sums of words as templates make them: an immediate in two parts, differences, and comparisons from differences.
use Rattle.segment_laws.proofs.Common.{◌≡◌, ℕ, zero, suc, ◌+◌, ◌-◌, ◌*◌, ◌/◌, ◌%◌, ◌^◌, ◌<◌, ◌≤◌, Bool, true, false, not, ℤ, pos, negsuc, ◌-ℤ◌, refl, sym, ap, ◌∙◌, arith, lit<, ⊎_elim, nat_eq, nat_le, nat_lt, int_lt, int_le, bit_xor, unsigned_abs, cond-true, cond-false, cases_eq, cases_lt, lt-ltb, le-ltb, lt-leb, le-leb, eq-eqb, ne_eqb, ints, int_rem_euclid_is, word_of, add, sub, flag, upper, upper_part, lower_part}
use Rattle.segment_laws.proofs.Registers.{word_of-small}

pub word_of-difference : (a b : ℕ) → b ≤ 2 ^ 32 → word_of (pos a -ℤ pos b) ≡ (a + (2 ^ 32 - b)) % 2 ^ 32
unfolding word_of
word_of-difference a b below = ap unsigned_abs (int_rem_euclid_is (pos a -ℤ pos b) (pos (2 ^ 32)) (2 ^ 32) 1 (a + (2 ^ 32 - b)) (lit< tt) refl (omega (arith, ints)))

-- li r, v leaves v
pub li_value : (v : ℕ) → v < 2 ^ 32 → add (upper (pos (upper_part v))) (word_of (lower_part v)) ≡ v
unfolding add
li_value v below = ⊎_elim
    (λ (low : v % 2 ^ 12 < 2 ^ 11).
    let part : lower_part v ≡ pos (v % 2 ^ 12) = cond-true (nat_lt (v % 2 ^ 12) (2 ^ 11)) (pos (v % 2 ^ 12)) (pos (v % 2 ^ 12) -ℤ pos (2 ^ 12)) (lt-ltb (v % 2 ^ 12) (2 ^ 11) low) in
    let lower : word_of (lower_part v) ≡ v % 2 ^ 12 = ap word_of part ∙ word_of-small (v % 2 ^ 12) (omega arith) in
    let high : word_of (pos (upper_part v)) ≡ upper_part v = word_of-small (upper_part v) (omega arith) in
    ap (λ (h : ℕ). (h * 2 ^ 12 % 2 ^ 32 + word_of (lower_part v)) % 2 ^ 32) high
    ∙ ap (λ (k : ℕ). (upper_part v * 2 ^ 12 % 2 ^ 32 + k) % 2 ^ 32) lower
    ∙ (let sum : ((v + 2048) / 4096 % 2 ^ 20 * 2 ^ 12 % 2 ^ 32 + v % 2 ^ 12) % 2 ^ 32 ≡ v = omega arith in sum))
    (λ (past : 2 ^ 11 ≤ v % 2 ^ 12).
    let part : lower_part v ≡ pos (v % 2 ^ 12) -ℤ pos (2 ^ 12) = cond-false (nat_lt (v % 2 ^ 12) (2 ^ 11)) (pos (v % 2 ^ 12)) (pos (v % 2 ^ 12) -ℤ pos (2 ^ 12)) (le-ltb (v % 2 ^ 12) (2 ^ 11) past) in
    let lower : word_of (lower_part v) ≡ (v % 2 ^ 12 + (2 ^ 32 - 2 ^ 12)) % 2 ^ 32 = ap word_of part ∙ word_of-difference (v % 2 ^ 12) (2 ^ 12) (omega arith) in
    let high : word_of (pos (upper_part v)) ≡ upper_part v = word_of-small (upper_part v) (omega arith) in
    ap (λ (h : ℕ). (h * 2 ^ 12 % 2 ^ 32 + word_of (lower_part v)) % 2 ^ 32) high
    ∙ ap (λ (k : ℕ). (upper_part v * 2 ^ 12 % 2 ^ 32 + k) % 2 ^ 32) lower
    ∙ (let sum : ((v + 2048) / 4096 % 2 ^ 20 * 2 ^ 12 % 2 ^ 32 + (v % 2 ^ 12 + (2 ^ 32 - 2 ^ 12)) % 2 ^ 32) % 2 ^ 32 ≡ v = omega arith in sum))
    (cases_lt (v % 2 ^ 12) (2 ^ 11))

-- a word that is below 1 is 0
pub below_one : (n : ℕ) → nat_lt n 1 ≡ nat_eq n 0
below_one zero = refl
below_one (suc n) = le-ltb (suc n) 1 (omega arith) ∙ sym (ne_eqb (suc n) 0 (λ e. omega arith))

pub above_none : (n : ℕ) → nat_lt 0 n ≡ not (nat_eq n 0)
above_none zero = refl
above_none (suc n) = lt-ltb 0 (suc n) (omega arith) ∙ sym (ap not (ne_eqb (suc n) 0 (λ e. omega arith)))

-- two words are equal where their difference is 0
pub difference_none : (a b : ℕ) → a < 2 ^ 32 → b < 2 ^ 32 → nat_eq (sub a b) 0 ≡ nat_eq a b
unfolding sub
difference_none a b a_below b_below =
    let is : word_of (pos a -ℤ pos b) ≡ (a + (2 ^ 32 - b)) % 2 ^ 32 = word_of-difference a b (omega arith) in
    ⊎_elim
    (λ (same : a ≡ b). eq-eqb (word_of (pos a -ℤ pos b)) 0 (is ∙ (let none : (a + (2 ^ 32 - b)) % 2 ^ 32 ≡ 0 = omega arith in none)) ∙ sym (eq-eqb a b same))
    (λ (apart : a ≡ b → ⊥).
    ne_eqb (word_of (pos a -ℤ pos b)) 0 (λ none. apart (let e : a ≡ b = omega (arith, is, none) in e)) ∙ sym (ne_eqb a b apart))
    (cases_eq a b)

-- a flag turned by its lowest bit
pub flag-turned : (b : Bool) → bit_xor (flag b) 1 ≡ flag (not b)
unfolding flag
flag-turned true = refl
flag-turned false = refl

at_most-not : (a b : ℕ) → nat_le a b ≡ not (nat_lt b a)
at_most-not a b = ⊎_elim
    (λ (less : b < a). lt-leb a b less ∙ sym (ap not (lt-ltb b a less)))
    (λ (more : a ≤ b). le-leb a b more ∙ sym (ap not (le-ltb b a more)))
    (cases_lt b a)

pub int_le-not : (x y : ℤ) → int_le x y ≡ not (int_lt y x)
int_le-not (pos a) (pos b) = at_most-not a b
int_le-not (negsuc a) (negsuc b) = at_most-not b a
int_le-not _ _ = refl
