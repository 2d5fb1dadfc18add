-- New names differ from one another and from the names of a source, which begin with a letter or `_`.
use Rattle.std.specs.Str.Parse.{AllDigits}
use Rattle.hoist_parts.proofs.Common.{ℕ, ◌≡◌, ◌<◌, ◌≤◌, List, [], ◌∷◌, length, arith, canonical_decimal, new_name}
use Rattle.cap_text.proofs.DecimalLaws.{glyph_back, decimal_digits, decimal_unique, length_decimal}

-- the first byte is a digit
abbrev pub BeginsWithDigit : List ℕ → Type 0
BeginsWithDigit [] = ⊥
BeginsWithDigit (d ∷ ds) = (48 ≤ d) × (d ≤ 57)

digits_begin : (ds : List ℕ) → 0 < length ds → AllDigits 10 ds → BeginsWithDigit ds
digits_begin [] some h = absurd (omega (arith, some))
digits_begin (c ∷ cs) some h = let e = glyph_back c h.0 in (omega (arith, e), omega (arith, e, h.0))

pub new_begins : (k : ℕ) → BeginsWithDigit (new_name k).text
new_begins k = digits_begin (canonical_decimal k) (length_decimal k) (decimal_digits k)

pub new_distinct : (k l : ℕ) → (new_name k).text ≡ (new_name l).text → k ≡ l
new_distinct k l e = decimal_unique k l e
