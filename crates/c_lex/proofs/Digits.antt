-- Digits one by one, and numbers that go on.
use Rattle.c_lex.proofs.Common.{ℕ, zero, suc, ◌<◌, ◌≤◌, List, [], ◌∷◌, ◌++◌, length, get_or, take, drop, map, ap, ◌∙◌, subst, arith, take-append-drop, digit_value, AllDigits, digits_value, map-append, digits_value_is, number_after_append, number_after_ge}
use Rattle.std.specs.Int.Digits.{number_from_digits_after}

pub AllDigits-at : (radix : ℕ) (digits : List ℕ) (i : ℕ) → AllDigits radix digits → i < length digits → digit_value (get_or digits i 0) < radix
AllDigits-at radix [] i all in_range = absurd (omega arith)
AllDigits-at radix (d ∷ digits) zero all in_range = all.0
AllDigits-at radix (d ∷ digits) (suc i) all in_range = AllDigits-at radix digits i all.1 (omega arith)

-- more digits make no smaller number
digits_value-append : (radix : ℕ) (front back : List ℕ) → 0 < radix → digits_value radix front ≤ digits_value radix (front ++ back)
digits_value-append radix front back positive =
    let whole = digits_value_is radix (front ++ back) in
    let part = digits_value_is radix front in
    let joined = ap (number_from_digits_after radix 0) (map-append digit_value front back) ∙ number_after_append radix 0 (map digit_value front) (map digit_value back) in
    let more = number_after_ge radix (number_from_digits_after radix 0 (map digit_value front)) (map digit_value back) positive in
    omega (arith, whole, part, joined, more)

pub digits_value-take : (radix : ℕ) (digits : List ℕ) (n : ℕ) → 0 < radix → digits_value radix (take n digits) ≤ digits_value radix digits
digits_value-take radix digits n positive =
    subst (λ whole. digits_value radix (take n digits) ≤ digits_value radix whole) (take-append-drop n digits) (digits_value-append radix (take n digits) (drop n digits) positive)
