-- From what a reader of numbers answers for a part of its bytes to what it answers for the whole.
use Rattle.cap_text.proofs.Common.{◌≡◌, ℕ, suc, ◌+◌, ◌-◌, ◌^◌, ◌<◌, ◌≤◌, List, ◌∷◌, refl, ap, sym, subst, ◌∙◌, arith, ◌↔◌, ℤ, pos, negsuc, FitsSigned, to_z, of_z, int_le, true, ◌-ℤ◌, Result, Ok, Err, IfOk, length, w32, w128, Width, ints, to_z-of_z, AllDigits, digit_from_value, canonical_decimal, canonical_integer, IsDecimal, IsInteger, NumberError}
use Rattle.cap_text.specs.declared.numbers.NumberError.TheVariants.{NotANumber, TooLarge}
use Rattle.cap_text.proofs.DecimalLaws.{decimal_unique, decimal_digits, length_integer, integer_unique}

-- the clauses of a reader's refusals, at a result
pub record Refusals {T : Type 0} (r : Result T NumberError) (none large : Type 0) : Type 0 where
  pub not_a_number : (r ≡ Err NotANumber) ↔ none
  pub too_large : (r ≡ Err TooLarge) ↔ large

-- what one refusal says
abbrev pub Says : Type 0 → Type 0 → NumberError → Type 0
Says none large NotANumber = none
Says none large TooLarge = large

pub says : {T : Type 0} {none large : Type 0} (r : Result T NumberError) (e : NumberError) → r ≡ Err e → (r ≡ Err NotANumber) ↔ none → (r ≡ Err TooLarge) ↔ large → Says none large e
says r NotANumber is n l = n.0 is
says r TooLarge is n l = l.0 is

pub refuses : {T : Type 0} {none large : Type 0} (e : NumberError) → Says none large e → (none → large → ⊥) → (r : Result T NumberError) → r ≡ Err e → Refusals r none large
refuses NotANumber h apart r is = record { not_a_number = (λ _. h, λ _. is); too_large = (λ eq. absurd (cc), λ l. absurd (apart h l)) }
refuses TooLarge h apart r is = record { not_a_number = (λ eq. absurd (cc), λ n. absurd (apart n h)); too_large = (λ _. h, λ _. is) }

-- the size of a negative number

abbrev pub NoSize : List ℕ → Type 0
NoSize size = (n : ℕ) → size ≡ canonical_decimal (n + 1) → ⊥

abbrev pub LargeSize : List ℕ → Type 0
LargeSize size = (n : ℕ) × (size ≡ canonical_decimal (n + 1)) × (2 ^ 127 ≤ n)

pub size_refused : (size : List ℕ) (e : NumberError) → Says (¬ IsDecimal size) ((n : ℕ) × (size ≡ canonical_decimal n) × (2 ^ 127 < n)) e → Says (NoSize size) (LargeSize size) e
size_refused size NotANumber h = λ n is. h (n + 1, is)
size_refused size TooLarge h = let back : h.0 - 1 + 1 ≡ h.0 = (let above = h.2 in omega arith) in (h.0 - 1, h.1 ∙ ap canonical_decimal (sym back), let above = h.2 in omega arith)

pub sizes_apart : (size : List ℕ) → NoSize size → LargeSize size → ⊥
sizes_apart size none large = none large.0 large.1

pub no_size_of_zero : (size : List ℕ) → size ≡ canonical_decimal 0 → NoSize size
no_size_of_zero size e n is = let same : 0 ≡ n + 1 = decimal_unique 0 (n + 1) (sym e ∙ is) in omega arith

-- what the body computes from a size
pub negated : (n : ℕ) → 0 < n → n ≤ 2 ^ 127 → to_z w128 (of_z w128 (negsuc 0 -ℤ to_z w128 (n - 1))) ≡ negsuc (n - 1)
negated n some fits = grind (arith, ints, to_z-of_z)

-- from the size of a number to the number

pub natural_number : (bytes : List ℕ) (r : Result ℤ NumberError) → IfOk r (λ z. (n : ℕ) × (z ≡ pos n) × (bytes ≡ canonical_decimal n)) → IfOk r (λ z. bytes ≡ canonical_integer z)
unfolding canonical_integer
natural_number bytes (Ok z) (n, is, e) = rw is e
natural_number bytes (Err e) h = tt

pub negative_number : (bytes : List ℕ) (first : ℕ) (size : List ℕ) (r : Result ℤ NumberError) → bytes ≡ first ∷ size → first ≡ 45 → IfOk r (λ z. (n : ℕ) × (z ≡ negsuc n) × (size ≡ canonical_decimal (n + 1))) → IfOk r (λ z. bytes ≡ canonical_integer z)
unfolding canonical_integer
negative_number bytes first size (Ok z) whole minus (n, is, e) = let same : suc n ≡ n + 1 = omega arith in rw (is, same) (whole ∙ (λ i. minus i ∷ e i))
negative_number bytes first size (Err e) whole minus h = tt

-- a number from 0 up has no sign
unsigned : (bytes : List ℕ) (first : ℕ) (rest : List ℕ) → bytes ≡ first ∷ rest → (first ≡ 45 → ⊥) → (n : ℕ) → bytes ≡ canonical_integer (negsuc n) → ⊥
unfolding canonical_integer
unsigned bytes first rest whole plain n e = plain (cc)

signed_size : (bytes : List ℕ) (first : ℕ) (size : List ℕ) → bytes ≡ first ∷ size → first ≡ 45 → (z : ℤ) → bytes ≡ canonical_integer z → (n : ℕ) × (z ≡ negsuc n) × (size ≡ canonical_decimal (n + 1))
unfolding canonical_integer
signed_size bytes first size whole minus (pos n) e =
    let r = digit_from_value first ((subst (AllDigits 10) (sym e ∙ whole) (decimal_digits n)).0) in absurd (omega arith)
signed_size bytes first size whole minus (negsuc n) e = let same : suc n ≡ n + 1 = omega arith in (n, refl, let tail : size ≡ canonical_decimal (suc n) = cc in tail ∙ ap canonical_decimal same)

not_fitting : (n : ℕ) → ¬ (n < 2 ^ 127) → 2 ^ 127 ≤ n
not_fitting n h = omega arith

-- a number outside 128 bits
abbrev pub LargeInteger : List ℕ → Type 0
LargeInteger bytes = (z : ℤ) × (bytes ≡ canonical_integer z) × (¬ FitsSigned w128 z)

pub natural_refusals : (bytes : List ℕ) (first : ℕ) (rest : List ℕ) (r : Result ℤ NumberError) → bytes ≡ first ∷ rest → (first ≡ 45 → ⊥)
    → Refusals r (¬ IsDecimal bytes) ((n : ℕ) × (bytes ≡ canonical_decimal n) × (2 ^ 127 ≤ n)) → Refusals r (¬ IsInteger bytes) (LargeInteger bytes)
unfolding canonical_integer
natural_refusals bytes first rest r whole plain h = record {
  not_a_number = (
    λ e. λ (z, is). h.not_a_number.0 e (digits z is),
    λ none. h.not_a_number.1 (λ (n, is). none (pos n, is)),
  );
  too_large = (
    λ e. let large = h.too_large.0 e in (pos large.0, large.1, λ fits. let small = fits.sfits in let high = large.2 in omega arith),
    λ (z, is, out). h.too_large.1 (far z is out),
  );
}
  where
    digits : (z : ℤ) → bytes ≡ canonical_integer z → IsDecimal bytes
    digits (pos n) is = (n, is)
    digits (negsuc n) is = absurd (unsigned bytes first rest whole plain n is)

    far : (z : ℤ) → bytes ≡ canonical_integer z → ¬ FitsSigned w128 z → (n : ℕ) × (bytes ≡ canonical_decimal n) × (2 ^ 127 ≤ n)
    far (pos n) is out = (n, is, not_fitting n (λ small. out (record { sfits = small })))
    far (negsuc n) is out = absurd (unsigned bytes first rest whole plain n is)

pub negative_refusals : (bytes : List ℕ) (first : ℕ) (size : List ℕ) (r : Result ℤ NumberError) → bytes ≡ first ∷ size → first ≡ 45
    → Refusals r (NoSize size) (LargeSize size) → Refusals r (¬ IsInteger bytes) (LargeInteger bytes)
unfolding canonical_integer
negative_refusals bytes first size r whole minus h = record {
  not_a_number = (
    λ e. λ (z, is). let found = signed_size bytes first size whole minus z is in h.not_a_number.0 e found.0 found.2,
    λ none. h.not_a_number.1 (λ n is. none (negsuc n, back n is)),
  );
  too_large = (
    λ e. let large = h.too_large.0 e in (negsuc large.0, back large.0 large.1, λ fits. let small = fits.sfits in let high = large.2 in omega arith),
    λ (z, is, out). let found = signed_size bytes first size whole minus z is in h.too_large.1 (found.0, found.2, not_fitting found.0 (λ small. out (rw found.1 (record { sfits = small })))),
  );
}
  where
    back : (n : ℕ) → size ≡ canonical_decimal (n + 1) → bytes ≡ canonical_integer (negsuc n)
    back n is = let same : n + 1 ≡ suc n = omega arith in whole ∙ (λ i. minus i ∷ (is ∙ ap canonical_decimal same) i)

pub no_integer : (bytes : List ℕ) → length bytes ≡ 0 → ¬ IsInteger bytes
no_integer bytes e (z, is) = omega (arith, length_integer z, ap length is)

-- what the test of a range in 128 bits says in 32 bits
pub in_range : (z : ℤ) → FitsSigned w128 z → int_le (negsuc 2147483647) (to_z w128 (of_z w128 z)) ≡ true → int_le (to_z w128 (of_z w128 z)) (pos 2147483647) ≡ true → FitsSigned w32 z
in_range z fits low high = within z (rw (to_z-of_z w128 z fits) at low) (rw (to_z-of_z w128 z fits) at high)
  where
    within : (y : ℤ) → int_le (negsuc 2147483647) y ≡ true → int_le y (pos 2147483647) ≡ true → FitsSigned w32 y
    within (pos n) l h = record { sfits = grind (arith, ints) }
    within (negsuc n) l h = record { sfits = grind (arith, ints) }

pub one_integer : (bytes : List ℕ) (y z : ℤ) → bytes ≡ canonical_integer y → bytes ≡ canonical_integer z → z ≡ y
one_integer bytes y z e f = integer_unique z y (sym f ∙ e)

-- a reader that answers by these clauses reads each number in range

pub decimal_reads : (bytes : List ℕ) (max : ℕ) (r : Result ℕ NumberError) → IfOk r (λ n. (bytes ≡ canonical_decimal n) × (n ≤ max))
    → Refusals r (¬ IsDecimal bytes) ((n : ℕ) × (bytes ≡ canonical_decimal n) × (max < n)) → (n : ℕ) → n ≤ max → bytes ≡ canonical_decimal n → r ≡ Ok n
decimal_reads bytes max (Ok m) number h n most is = ap Ok (decimal_unique m n (sym number.0 ∙ is))
decimal_reads bytes max (Err NotANumber) number h n most is = absurd (h.not_a_number.0 refl (n, is))
decimal_reads bytes max (Err TooLarge) number h n most is =
    let large = h.too_large.0 refl in
    let same : large.0 ≡ n = decimal_unique large.0 n (sym large.1 ∙ is) in
    let above = large.2 in
    absurd (omega arith)

pub integer_reads : (w : Width) (bytes : List ℕ) (r : Result ℤ NumberError) → IfOk r (λ z. bytes ≡ canonical_integer z)
    → Refusals r (¬ IsInteger bytes) ((z : ℤ) × (bytes ≡ canonical_integer z) × (¬ FitsSigned w z)) → (z : ℤ) → FitsSigned w z → bytes ≡ canonical_integer z → r ≡ Ok z
integer_reads w bytes (Ok y) number h z fits is = ap Ok (integer_unique y z (sym number ∙ is))
integer_reads w bytes (Err NotANumber) number h z fits is = absurd (h.not_a_number.0 refl (z, is))
integer_reads w bytes (Err TooLarge) number h z fits is =
    let large = h.too_large.0 refl in
    let same : large.0 ≡ z = integer_unique large.0 z (sym large.1 ∙ is) in
    absurd (large.2 (rw same fits))

pub decimal_answer : (bytes : List ℕ) (m n : ℕ) → bytes ≡ canonical_decimal m → bytes ≡ canonical_decimal n → ◌≡◌ {A = Result ℕ NumberError} (Ok m) (Ok n)
decimal_answer bytes m n number is = ap Ok (decimal_unique m n (sym number ∙ is))
