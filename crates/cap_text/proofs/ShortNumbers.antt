-- Numbers of at most 19 digits, which fit 64 bits.
use Rattle.cap_text.proofs.Common.{◌≡◌, ℕ, ◌+◌, ◌-◌, ◌*◌, ◌^◌, ◌<◌, ◌≤◌, List, [], ◌∷◌, length, get_or, take, ap, sym, subst, ◌∙◌, arith, true, false, ◌==◌, AllDigits, digits_value, digit_value, nat_tests, digit_from_value, digits_more, digits_value_more, digits_value-lt, ne_eqb, canonical_decimal}
use native.Mathlib.Nat.{pow-le-pow_right}
use lib.Dec.{lit<}
use lib.ListN.{length-take}
use Rattle.cap_text.proofs.DecimalLaws.{decimal_zero, decimal_from_digits, glyph_back}

small_digit : (c : ℕ) → 48 ≤ c → c ≤ 57 → digit_value c < 10
small_digit c low high = grind (arith, nat_tests)

-- one digit more
pub one_more : (bs : List ℕ) (i : ℕ) → i < length bs → AllDigits 10 (take i bs) → 48 ≤ get_or bs i 0 → get_or bs i 0 ≤ 57 →
    AllDigits 10 (take (i + 1) bs) × (digits_value 10 (take (i + 1) bs) ≡ digits_value 10 (take i bs) * 10 + (get_or bs i 0 - 48))
one_more bs i l all low high =
    let digit = small_digit (get_or bs i 0) low high in
    (digits_more 10 bs i l all digit, omega (arith, digits_value_more 10 bs i l, glyph_back (get_or bs i 0) digit))

-- what stands before the last digit of a short number
pub room : (bs : List ℕ) (i : ℕ) → i < length bs → length bs ≤ 19 → AllDigits 10 (take i bs) → digits_value 10 (take i bs) < 10 ^ 18
room bs i l most all =
    let short : length (take i bs) ≤ 18 = omega (arith, length-take i bs) in
    let power : 10 ^ length (take i bs) ≤ 10 ^ 18 = pow-le-pow_right (lit< tt) short in
    omega (arith, digits_value-lt 10 (take i bs) all, power)

-- at most 18 bytes behind the first
pub short : (bs : List ℕ) (c : ℕ) (rest : List ℕ) → bs ≡ c ∷ rest → length rest < 19 → length bs ≤ 19
short bs c rest e few = omega (arith, ap length e)

pub zero_is : (bs : List ℕ) (c : ℕ) (rest : List ℕ) → bs ≡ c ∷ rest → c ≡ 48 → true ≡ (length rest == 0) → bs ≡ canonical_decimal 0
zero_is bs c [] e z none = e ∙ (λ i. z i ∷ []) ∙ sym decimal_zero
zero_is bs c (d ∷ rest) e z none = let never : true ≡ false = none ∙ ne_eqb (length (d ∷ rest)) 0 (λ same. omega arith) in absurd (cc)

-- digits without a leading zero spell their value
pub spells : (bs : List ℕ) (c : ℕ) (cs : List ℕ) → bs ≡ c ∷ cs → (c ≡ 48 → ⊥) → AllDigits 10 bs → bs ≡ canonical_decimal (digits_value 10 bs)
spells bs c cs e lead digits =
    let whole = subst (AllDigits 10) e digits in
    let range = digit_from_value c whole.0 in
    e ∙ sym (decimal_from_digits c cs whole (omega arith)) ∙ ap (λ x. canonical_decimal (digits_value 10 x)) (sym e)
