-- Which bytes are a canonical decimal, and of which number.
use Rattle.std.specs.Bool.{MatchBool}
use Rattle.cap_text.proofs.Common.{◌≡◌, ℕ, zero, suc, ◌+◌, ◌-◌, ◌*◌, ◌<◌, ◌≤◌, List, [], ◌∷◌, length, get_or, take, refl, ap, sym, subst, ◌∙◌, inl, inr, arith, eq-zero-or-pos, All, IsTrue, true, false, Bool, ◌==◌, ◌↔◌, AllDigits, digits_value, digit_value, IsInRange, nat_tests, digit_from_value, digit_at, digits_value-take-le, digits_value_more, ne_eqb, canonical_decimal, IsDecimal}
use Rattle.cap_text.proofs.DecimalLaws.{decimal_zero, decimal_digits, decimal_value, length_decimal, decimal_unique, first_of_decimal, decimal_from_digits, glyph_back}

abbrev pub Digits : List ℕ → Type 0
Digits bs = All (λ byte. (48 ≤ byte) × (byte ≤ 57)) bs

pub digits_from_all : (bs : List ℕ) → Digits bs → AllDigits 10 bs
digits_from_all [] h = tt
digits_from_all (c ∷ cs) h =
    let first : (48 ≤ c) × (c ≤ 57) = h 0 0 (omega arith) in
    (grind (arith, nat_tests), digits_from_all cs (λ k d l. h (suc k) d (omega arith)))

pub all_from_digits : (bs : List ℕ) → AllDigits 10 bs → Digits bs
all_from_digits (c ∷ cs) h zero d l = digit_from_value c h.0
all_from_digits (c ∷ cs) h (suc k) d l = all_from_digits cs h.1 k d (omega arith)
all_from_digits [] h k d l = absurd (omega arith)

pub empty_is_none : (bs : List ℕ) → length bs ≡ 0 → ¬ IsDecimal bs
empty_is_none bs e (n, same) = omega (arith, length_decimal n, ap length same)

pub zero_alone : (bs rest : List ℕ) → bs ≡ 48 ∷ rest → length rest ≡ 0 → IsDecimal bs
zero_alone bs [] e z = (0, e ∙ sym decimal_zero)
zero_alone bs (c ∷ rest) e z = absurd (omega arith)

pub zero_leads : (bs rest : List ℕ) → bs ≡ 48 ∷ rest → 0 < length rest → ¬ IsDecimal bs
zero_leads bs rest e some (n, same) = elim (eq-zero-or-pos n) [
  | inl z ↦ omega (arith, ap length (sym e ∙ same ∙ ap canonical_decimal z ∙ decimal_zero))
  | inr p ↦ omega (arith, first_of_decimal n p, ap (λ x. get_or x 0 0) (sym e ∙ same))
]

pub digits_lead : (bs : List ℕ) (c : ℕ) (cs : List ℕ) → bs ≡ c ∷ cs → (c ≡ 48 → ⊥) → Digits bs → IsDecimal bs
digits_lead bs c cs e lead h =
    let digits = subst (AllDigits 10) e (digits_from_all bs h) in
    let range = digit_from_value c digits.0 in
    (digits_value 10 (c ∷ cs), e ∙ sym (decimal_from_digits c cs digits (omega arith)))

pub only_digits : (bs : List ℕ) → IsDecimal bs → Digits bs
only_digits bs (n, same) = subst Digits (sym same) (all_from_digits _ (decimal_digits n))

digit_below : (bs : List ℕ) (i : ℕ) → AllDigits 10 bs → i < length bs → digit_value (get_or bs i 0) < 10
digit_below [] i h l = absurd (omega arith)
digit_below (c ∷ cs) zero h l = h.0
digit_below (c ∷ cs) (suc i) h l = digit_below cs i h.1 (omega arith)

-- the digits read so far, and one more, write at most the whole number
pub prefix_le : (bs : List ℕ) (n i : ℕ) → bs ≡ canonical_decimal n → i < length bs → digits_value 10 (take i bs) * 10 + (get_or bs i 0 - 48) ≤ n
prefix_le bs n i e l =
    let digits = subst (AllDigits 10) (sym e) (decimal_digits n) in
    let range = digit_at bs i digits l in
    omega (arith, digits_value_more 10 bs i l, digits_value-take-le 10 bs (i + 1) (omega arith), glyph_back (get_or bs i 0) (digit_below bs i digits l), ap (digits_value 10) e, decimal_value n)

pub prefix_more : (bs : List ℕ) (n i : ℕ) → bs ≡ canonical_decimal n → i < length bs → digits_value 10 (take (i + 1) bs) ≡ digits_value 10 (take i bs) * 10 + (get_or bs i 0 - 48)
prefix_more bs n i e l =
    let digits = subst (AllDigits 10) (sym e) (decimal_digits n) in
    omega (arith, digits_value_more 10 bs i l, glyph_back (get_or bs i 0) (digit_below bs i digits l))

pub digit_range : (bs : List ℕ) (n i : ℕ) → bs ≡ canonical_decimal n → i < length bs → IsInRange 48 57 (get_or bs i 0)
digit_range bs n i e l = digit_at bs i (subst (AllDigits 10) (sym e) (decimal_digits n)) l

pub decides_zero : (bs : List ℕ) (c : ℕ) (rest : List ℕ) (b : Bool) → bs ≡ c ∷ rest → c ≡ 48 → b ≡ (length rest == 0) → MatchBool b (IsDecimal bs) (¬ IsDecimal bs)
decides_zero bs c [] b e z is = rw is (zero_alone bs [] (e ∙ (λ i. z i ∷ [])) refl)
decides_zero bs c (d ∷ rest) b e z is =
    let no : b ≡ false = is ∙ ne_eqb (length (d ∷ rest)) 0 (λ none. omega arith) in
    rw no (zero_leads bs (d ∷ rest) (e ∙ (λ i. z i ∷ d ∷ rest)) (omega arith))

pub decides_digits : (bs : List ℕ) (c : ℕ) (cs : List ℕ) (b : Bool) → bs ≡ c ∷ cs → (c ≡ 48 → ⊥) → IsTrue b ↔ Digits bs → MatchBool b (IsDecimal bs) (¬ IsDecimal bs)
decides_digits bs c cs true e lead is = digits_lead bs c cs e lead (is.0 refl)
decides_digits bs c cs false e lead is = λ h. let never : IsTrue false = is.1 (only_digits bs h) in absurd (cc)

-- bytes are the canonical decimal of one number at most
pub same_number : (bs : List ℕ) (m n : ℕ) → bs ≡ canonical_decimal m → bs ≡ canonical_decimal n → m ≡ n
same_number bs m n e f = decimal_unique m n (sym e ∙ f)
