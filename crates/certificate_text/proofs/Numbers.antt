-- A list of numbers, of which the first were read and the fields of the others are left.
use Rattle.certificate_text.proofs.Common.{◌≡◌, ℕ, zero, suc, ◌^◌, ◌<◌, List, [], ◌∷◌, ◌++◌, length, drop, map, ap, sym, ◌∙◌, arith, Bool, false, ◌==◌, canonical_decimal, AreWords}

left_of : (read : List ℕ) (left : List (List ℕ)) (all : List ℕ) → map canonical_decimal read ++ left ≡ map canonical_decimal all → left ≡ map canonical_decimal (drop (length read) all)
left_of [] left all e = e
left_of (x ∷ read) left [] e = absurd (cc)
left_of (x ∷ read) left (y ∷ all) e = left_of read left all (cc)

words_drop : (n : ℕ) (all : List ℕ) → AreWords all → AreWords (drop n all)
words_drop zero all h = h
words_drop (suc n) [] h = tt
words_drop (suc n) (x ∷ all) h = words_drop n all h.1

-- what is left begins with the field of the next number
pub no_next : (start : List (List ℕ)) (read : List ℕ) (left : List (List ℕ)) (all : List ℕ) → start ≡ map canonical_decimal read ++ left → start ≡ map canonical_decimal all → AreWords all → 0 < length left
    → ((n : ℕ) (rest : List (List ℕ)) → n < 2 ^ 32 → left ≡ canonical_decimal n ∷ rest → ⊥) → ⊥
no_next start read left all e f words some none = next (drop (length read) all) (words_drop (length read) all words) (left_of read left all (sym e ∙ f))
  where
    next : (others : List ℕ) → AreWords others → left ≡ map canonical_decimal others → ⊥
    next [] g is = omega (arith, ap length is)
    next (x ∷ others) g is = none x (map canonical_decimal others) g.0 is

pub some_left : (fields : List (List ℕ)) (b : Bool) → b ≡ (length fields == 0) → b ≡ false → 0 < length fields
some_left [] b e f = absurd (cc)
some_left (x ∷ fields) b e f = omega arith
