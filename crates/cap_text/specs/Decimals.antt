-- The one spelling of an integer in base ten.
use Rattle.std.specs.Prelude.{◌≡◌, ℕ, suc, ◌+◌, ◌==◌, if◌then◌else◌, List, [], ◌∷◌, map, ℤ, pos, negsuc}
use Rattle.std.specs.Int.Digits.{digits_of}

-- the canonical decimal of a natural number: its ASCII digits, the highest first, with no leading `0` except in `0`
-- itself
unfoldable pub canonical_decimal : ℕ → List ℕ
canonical_decimal n = if n == 0 then 48 ∷ [] else map (λ d. 48 + d) (digits_of 10 n)

-- the canonical decimal of an integer: of a negative one, `-` and the canonical decimal of its magnitude
unfoldable pub canonical_integer : ℤ → List ℕ
canonical_integer (pos n) = canonical_decimal n
canonical_integer (negsuc n) = 45 ∷ canonical_decimal (suc n)

-- the bytes are the canonical decimal of some natural number
abbrev pub IsDecimal : List ℕ → Type 0
IsDecimal bytes = (n : ℕ) × (bytes ≡ canonical_decimal n)

-- the bytes are the canonical decimal of some integer
abbrev pub IsInteger : List ℕ → Type 0
IsInteger bytes = (z : ℤ) × (bytes ≡ canonical_integer z)
