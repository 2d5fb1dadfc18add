-- Which words are numbers, and their values.
use Rattle.std.specs.Prelude.{ℕ, ◌≡◌, ◌≢◌, ◌⊎◌, List, [], ◌∷◌, drop, codes}
use Rattle.std.specs.Str.Parse.{AllDigits, digits_value}

-- a digit from 1 to 9, followed by digits
abbrev pub IsDecimal : List ℕ → Type 0
IsDecimal [] = ⊥
IsDecimal (first ∷ digits) = (first ≢ 48) × AllDigits 10 (first ∷ digits)

-- `0x` or `0X`, followed by one or more hexadecimal digits
abbrev pub IsHexadecimal : List ℕ → Type 0
IsHexadecimal (zero_digit ∷ x ∷ digit ∷ digits) = (zero_digit ≡ 48) × ((x ≡ 120) ⊎ (x ≡ 88)) × AllDigits 16 (digit ∷ digits)
IsHexadecimal _ = ⊥

-- the word is a number with this value
pub data IsNumber : List ℕ → ℕ → Type 0 where
  null : {word : List ℕ} {value : ℕ} → word ≡ codes "0" → value ≡ 0 → IsNumber word value
  decimal : {word : List ℕ} {value : ℕ} → IsDecimal word → value ≡ digits_value 10 word → IsNumber word value
  hexadecimal : {word : List ℕ} {value : ℕ} → IsHexadecimal word → value ≡ digits_value 16 (drop 2 word) → IsNumber word value
