-- The laws of canonical decimals.
use Rattle.std.specs.Int.Digits.{digits_of, number_from_digits, number_from_digits_after, AllBelowBase}
use Rattle.std.specs.Fmt.{decimal, signed_decimal}
use Rattle.cap_text.proofs.Common.{◌≡◌, ℕ, zero, suc, ◌+◌, ◌*◌, ◌/◌, ◌%◌, ◌^◌, ◌<◌, ◌≤◌, cond, List, [], ◌∷◌, ◌++◌, length, get_or, map, ℤ, pos, negsuc, FitsSigned, to_z, of_z, refl, ap, sym, subst, ◌∙◌, inl, inr, ◌⊎◌, arith, eq-zero-or-pos, append_assoc, append-nil, length-append, AllDigits, digits_value, digit_value, IsInRange, w128, map_push, length-map, get_or-map, digit_from_value, digits_of_step, number_digits_of, all_below_base_digits_of, first_digits_of, digits_value_is, all_below_base_from_digits, number_after_ge, to_z-of_z, canonical_decimal, canonical_integer, ne_eqb, nat_tests}
use Rattle.std.proofs.lemmas.Fmt.{decimal_by_steps_wide}
use Rattle.std.proofs.Math.Nat.{pow-suc}

pub decimal_zero : canonical_decimal 0 ≡ 48 ∷ []
unfolding canonical_decimal
decimal_zero = refl

pub decimal_some : (n : ℕ) → 0 < n → canonical_decimal n ≡ map (λ d. 48 + d) (digits_of 10 n)
unfolding canonical_decimal
decimal_some n h = ap (λ t. cond t (48 ∷ []) (map (λ d. 48 + d) (digits_of 10 n))) (ne_eqb n 0 (λ e. omega arith))

-- std's printed number is the canonical decimal, where std says what it prints

pub decimal_is : (n : ℕ) → n < 10 ^ 64 → decimal n ≡ canonical_decimal n
decimal_is n small = decimal_by_steps_wide (λ m ds. ds ≡ canonical_decimal m) one more n small
  where
    one : (m : ℕ) → m < 10 → (48 + m) ∷ [] ≡ canonical_decimal m
    one m h = elim (eq-zero-or-pos m) [
      | inl z ↦ rw z (sym decimal_zero)
      | inr p ↦
          let z : m / 10 ≡ 0 = omega arith in
          let e : m % 10 ≡ m = omega arith in
          sym (decimal_some m p ∙ ap (map (λ d. 48 + d)) (digits_of_step 10 m (omega arith) p ∙ (λ i. digits_of 10 (z i) ++ (e i ∷ []))))
    ]

    more : (m : ℕ) (ds : List ℕ) → 10 ≤ m → ds ≡ canonical_decimal (m / 10) → ds ++ ((48 + m % 10) ∷ []) ≡ canonical_decimal m
    more m ds l e =
        ap (λ x. x ++ ((48 + m % 10) ∷ [])) (e ∙ decimal_some (m / 10) (omega arith))
        ∙ sym (map_push (λ d. 48 + d) (digits_of 10 (m / 10)) (m % 10))
        ∙ ap (map (λ d. 48 + d)) (sym (digits_of_step 10 m (omega arith) (omega arith)))
        ∙ sym (decimal_some m (omega arith))

pub integer_is : (z : ℤ) → FitsSigned w128 z → signed_decimal z ≡ canonical_integer z
unfolding canonical_integer
integer_is (pos n) h = let fits = h.sfits in decimal_is n (omega arith)
integer_is (negsuc n) h = let fits = h.sfits in ap (λ x. 45 ∷ x) (decimal_is (suc n) (omega arith))

-- the same of a number that was passed as an argument's bits
pub passed_integer_is : (z : ℤ) (text : List ℕ) → FitsSigned w128 z → text ≡ signed_decimal (to_z w128 (of_z w128 z)) → text ≡ canonical_integer z
passed_integer_is z text h e = e ∙ ap signed_decimal (to_z-of_z w128 z h) ∙ integer_is z h

-- the bytes of a canonical decimal

-- what `48 + d` and `digit_value` make of one another
glyph_value : (d : ℕ) → d < 10 → digit_value (48 + d) ≡ d
glyph_value d h = grind (arith, nat_tests)

pub glyph_back : (c : ℕ) → digit_value c < 10 → 48 + digit_value c ≡ c
glyph_back c h = let r = digit_from_value c h in grind (arith, nat_tests)

glyphs_are_digits : (ds : List ℕ) → AllBelowBase 10 ds → AllDigits 10 (map (λ d. 48 + d) ds)
glyphs_are_digits [] h = tt
glyphs_are_digits (d ∷ ds) h = (rw (glyph_value d h.0) h.0, glyphs_are_digits ds h.1)

values_of_glyphs : (ds : List ℕ) → AllBelowBase 10 ds → map digit_value (map (λ d. 48 + d) ds) ≡ ds
values_of_glyphs [] h = refl
values_of_glyphs (d ∷ ds) h = rw (glyph_value d h.0) (ap (λ x. d ∷ x) (values_of_glyphs ds h.1))

glyphs_of_values : (cs : List ℕ) → AllDigits 10 cs → map (λ d. 48 + d) (map digit_value cs) ≡ cs
glyphs_of_values [] h = refl
glyphs_of_values (c ∷ cs) h = rw (glyph_back c h.0) (ap (λ x. c ∷ x) (glyphs_of_values cs h.1))

pub decimal_digits : (n : ℕ) → AllDigits 10 (canonical_decimal n)
decimal_digits n = elim (eq-zero-or-pos n) [
  | inl z ↦ rw (z, decimal_zero) (omega arith, tt)
  | inr p ↦ rw (decimal_some n p) (glyphs_are_digits (digits_of 10 n) (all_below_base_digits_of 10 n (omega arith)))
]

-- the digits of a canonical decimal write its number
pub decimal_value : (n : ℕ) → digits_value 10 (canonical_decimal n) ≡ n
decimal_value n = elim (eq-zero-or-pos n) [
  | inl z ↦ rw (z, decimal_zero) refl
  | inr p ↦
      rw (decimal_some n p) (digits_value_is 10 (map (λ d. 48 + d) (digits_of 10 n))
      ∙ ap (number_from_digits 10) (values_of_glyphs (digits_of 10 n) (all_below_base_digits_of 10 n (omega arith)))
      ∙ number_digits_of 10 n (omega arith))
]

-- a number has one canonical decimal, and a canonical decimal one number
pub decimal_unique : (m n : ℕ) → canonical_decimal m ≡ canonical_decimal n → m ≡ n
decimal_unique m n e = sym (decimal_value m) ∙ ap (digits_value 10) e ∙ decimal_value n

pub length_decimal : (n : ℕ) → 0 < length (canonical_decimal n)
length_decimal n = elim (eq-zero-or-pos n) [
  | inl z ↦ rw (z, decimal_zero) (omega arith)
  | inr p ↦
      rw (decimal_some n p, digits_of_step 10 n (omega arith) p) (omega (arith, length-map (digits_of 10 (n / 10) ++ (n % 10 ∷ [])) (λ (d : ℕ). 48 + d), length-append (digits_of 10 (n / 10)) (n % 10 ∷ [])))
]

pub length_integer : (z : ℤ) → 0 < length (canonical_integer z)
unfolding canonical_integer
length_integer (pos n) = length_decimal n
length_integer (negsuc n) = omega arith

-- how many digits a number has

one_digit : (n : ℕ) → n < 10 → length (canonical_decimal n) ≡ 1
one_digit n small = elim (eq-zero-or-pos n) [
  | inl z ↦ rw (z, decimal_zero) refl
  | inr p ↦
      let tens : n / 10 ≡ 0 = omega arith in
      let digits = digits_of_step 10 n (omega arith) p ∙ ap (λ m. digits_of 10 m ++ (n % 10 ∷ [])) tens in
      ap length (decimal_some n p) ∙ length-map (digits_of 10 n) (λ (d : ℕ). 48 + d) ∙ ap length digits
]

one_digit_more : (n : ℕ) → 10 ≤ n → length (canonical_decimal n) ≡ length (canonical_decimal (n / 10)) + 1
one_digit_more n large =
    rw (decimal_some n (omega arith), decimal_some (n / 10) (omega arith)) (omega (
      arith,
      length-map (digits_of 10 n) (λ (d : ℕ). 48 + d),
      length-map (digits_of 10 (n / 10)) (λ (d : ℕ). 48 + d),
      ap length (digits_of_step 10 n (omega arith) (omega arith)),
      length-append (digits_of 10 (n / 10)) (n % 10 ∷ []),
    ))

length_below : (more n : ℕ) → n < 10 ^ suc more → length (canonical_decimal n) ≤ suc more
length_below zero n small = omega (arith, one_digit n (omega arith))
length_below (suc more) n small =
    let power : 10 ^ suc (suc more) ≡ 10 ^ suc more * 10 = pow-suc 10 (suc more) in
    elim (eq-zero-or-pos (n / 10)) [
      | inl few ↦ omega (arith, one_digit n (omega arith))
      | inr many ↦ omega (arith, one_digit_more n (omega arith), length_below more (n / 10) (omega (arith, power)))
    ]

-- a number below 10 to the power of some digits has no more of them
pub decimal_length : (n digits : ℕ) → 0 < digits → n < 10 ^ digits → length (canonical_decimal n) ≤ digits
decimal_length n zero some small = absurd (omega arith)
decimal_length n (suc more) some small = length_below more n small

-- digits with no leading 0 are those of their number

one_more : (m d : ℕ) → d < 10 → 0 < m * 10 + d → digits_of 10 (m * 10 + d) ≡ digits_of 10 m ++ (d ∷ [])
one_more m d small p =
    let q : (m * 10 + d) / 10 ≡ m = omega arith in
    let r : (m * 10 + d) % 10 ≡ d = omega arith in
    digits_of_step 10 (m * 10 + d) (omega arith) p ∙ (λ i. digits_of 10 (q i) ++ (r i ∷ []))

digits_after : (m : ℕ) (ds : List ℕ) → AllBelowBase 10 ds → 0 < m → digits_of 10 (number_from_digits_after 10 m ds) ≡ digits_of 10 m ++ ds
digits_after m [] h p = sym (append-nil (digits_of 10 m))
digits_after m (d ∷ ds) h p =
    digits_after (m * 10 + d) ds h.1 (omega arith)
    ∙ ap (λ x. x ++ ds) (one_more m d h.0 (omega arith))
    ∙ append_assoc (digits_of 10 m) (d ∷ []) ds

digits_back : (d : ℕ) (ds : List ℕ) → AllBelowBase 10 (d ∷ ds) → 0 < d → digits_of 10 (number_from_digits 10 (d ∷ ds)) ≡ d ∷ ds
digits_back d ds h p =
    digits_after (0 * 10 + d) ds h.1 (omega arith) ∙ ap (λ x. x ++ ds) (one_more 0 d h.0 (omega arith))

-- digits whose first is none of `0` are the canonical decimal of their number
pub decimal_from_digits : (c : ℕ) (cs : List ℕ) → AllDigits 10 (c ∷ cs) → 48 < c → canonical_decimal (digits_value 10 (c ∷ cs)) ≡ c ∷ cs
decimal_from_digits c cs h p =
    let below = all_below_base_from_digits 10 (c ∷ cs) h in
    let first : 0 < digit_value c = let e = glyph_back c h.0 in omega arith in
    let number = digits_value_is 10 (c ∷ cs) in
    let some : 0 < number_from_digits 10 (map digit_value (c ∷ cs)) = omega (arith, number_after_ge 10 (0 * 10 + digit_value c) (map digit_value cs) (omega arith)) in
    ap canonical_decimal number ∙ decimal_some _ some ∙ ap (map (λ d. 48 + d)) (digits_back (digit_value c) (map digit_value cs) below first) ∙ glyphs_of_values (c ∷ cs) h

-- and the first digit of a number other than 0 is none of `0`
pub first_of_decimal : (n : ℕ) → 0 < n → 48 < get_or (canonical_decimal n) 0 0
first_of_decimal n p =
    rw (decimal_some n p) (
    let some : 0 < length (digits_of 10 n) = omega (arith, ap length (digits_of_step 10 n (omega arith) p), length-append (digits_of 10 (n / 10)) (n % 10 ∷ [])) in
    omega (arith, first_digits_of 10 n (omega arith) p, get_or-map (λ d. 48 + d) (digits_of 10 n) 0 0 0 some))

-- fields and what follows them

-- a byte of a canonical decimal: a digit, or `-`
abbrev pub IsNumberByte : ℕ → Type 0
IsNumberByte c = (c ≡ 45) ⊎ IsInRange 48 57 c

-- a field ends here: the line is over, or a byte follows that is in no canonical decimal, such as a blank
abbrev pub FieldEnds : List ℕ → Type 0
FieldEnds [] = Unit {0}
FieldEnds (c ∷ cs) = ¬ IsNumberByte c

abbrev AllNumberBytes : List ℕ → Type 0
AllNumberBytes [] = Unit {0}
AllNumberBytes (c ∷ cs) = IsNumberByte c × AllNumberBytes cs

digits_are_number_bytes : (cs : List ℕ) → AllDigits 10 cs → AllNumberBytes cs
digits_are_number_bytes [] h = tt
digits_are_number_bytes (c ∷ cs) h = (inr (digit_from_value c h.0), digits_are_number_bytes cs h.1)

one_split : (xs ys rest more : List ℕ) → AllNumberBytes xs → AllNumberBytes ys → FieldEnds rest → FieldEnds more → xs ++ rest ≡ ys ++ more → (xs ≡ ys) × (rest ≡ more)
one_split [] [] rest more hx hy hr hm e = (refl, e)
one_split [] (y ∷ ys) (r ∷ rest) more hx hy hr hm e = let same : r ≡ y = cc in absurd (hr (rw same hy.0))
one_split (x ∷ xs) [] rest (m ∷ more) hx hy hr hm e = let same : m ≡ x = cc in absurd (hm (rw same hx.0))
one_split (x ∷ xs) (y ∷ ys) rest more hx hy hr hm e =
    let same : x ≡ y = cc in
    let next = one_split xs ys rest more hx.1 hy.1 hr hm (cc) in (λ i. same i ∷ next.0 i, next.1)
one_split _ _ _ _ hx hy hr hm e = absurd (cc)

no_minus : (n : ℕ) (cs : List ℕ) → AllDigits 10 (canonical_decimal n) → canonical_decimal n ≡ 45 ∷ cs → ⊥
no_minus n cs h e = let r = digit_from_value 45 ((subst (AllDigits 10) e h).0) in omega arith

-- a whole number has one canonical decimal, and a canonical decimal one whole number
pub integer_unique : (y z : ℤ) → canonical_integer y ≡ canonical_integer z → y ≡ z
unfolding canonical_integer
integer_unique (pos m) (pos n) e = ap pos (decimal_unique m n e)
integer_unique (pos m) (negsuc n) e = absurd (no_minus m _ (decimal_digits m) e)
integer_unique (negsuc m) (pos n) e = absurd (no_minus n _ (decimal_digits n) (sym e))
integer_unique (negsuc m) (negsuc n) e = let same : suc m ≡ suc n = decimal_unique (suc m) (suc n) (cc) in let back : m ≡ n = omega arith in ap negsuc back

pub decimal_field : (m n : ℕ) (rest more : List ℕ) → FieldEnds rest → FieldEnds more → canonical_decimal m ++ rest ≡ canonical_decimal n ++ more → (m ≡ n) × (rest ≡ more)
decimal_field m n rest more hr hm e =
    let both = one_split _ _ rest more (digits_are_number_bytes _ (decimal_digits m)) (digits_are_number_bytes _ (decimal_digits n)) hr hm e in (decimal_unique m n both.0, both.1)
