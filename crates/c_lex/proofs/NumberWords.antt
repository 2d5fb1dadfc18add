-- Which words are numbers, by what their first bytes are, and of which value.
use Rattle.c_lex.proofs.Common.{ℕ, ◌≡◌, ◌≢◌, ◌<◌, ◌≤◌, ◌^◌, ◌⊎◌, List, [], ◌∷◌, length, get_or, drop, refl, arith, Option, Some, None, IfSome, IfNone, AllDigits, digits_value, text_from_reads, IsNumber, null, decimal, hexadecimal}

pub null_word : (word : List ℕ) → length word ≡ 1 → get_or word 0 0 ≡ 48 → IsNumber word 0
null_word word one digit = null (text_from_reads word (48 ∷ []) one (digit, tt)) refl

decimal_word : (word : List ℕ) (value : ℕ) → 0 < length word → get_or word 0 0 ≢ 48 → AllDigits 10 word → value ≡ digits_value 10 word → IsNumber word value
decimal_word [] value some first digits is = absurd (omega arith)
decimal_word (b ∷ word) value some first digits is = decimal (first, digits) is

hexadecimal_word : (word : List ℕ) (value : ℕ) → 2 < length word → get_or word 0 0 ≡ 48 → (get_or word 1 0 ≡ 120) ⊎ (get_or word 1 0 ≡ 88) → AllDigits 16 (drop 2 word) → value ≡ digits_value 16 (drop 2 word) → IsNumber word value
hexadecimal_word (a ∷ b ∷ d ∷ word) value some first second digits is = hexadecimal (first, second, digits) is
hexadecimal_word _ value some first second digits is = absurd (omega arith)

-- a word that begins as a hexadecimal number is one only if its digits are hexadecimal, and of the digits' value
hexadecimal_only : (word : List ℕ) (value : ℕ) → 2 < length word → get_or word 0 0 ≡ 48 → IsNumber word value → AllDigits 16 (drop 2 word) × (value ≡ digits_value 16 (drop 2 word))
hexadecimal_only (a ∷ b ∷ d ∷ word) value some first (null is zero) = absurd (cc)
hexadecimal_only (a ∷ b ∷ d ∷ word) value some first (decimal is worth) = absurd (is.0 first)
hexadecimal_only (a ∷ b ∷ d ∷ word) value some first (hexadecimal is worth) = (is.2, worth)
hexadecimal_only _ value some first number = absurd (omega arith)

-- what the value of the digits says of the word
pub decimal_some : (word : List ℕ) (answer : Option ℕ) → 0 < length word → get_or word 0 0 ≢ 48 → IfSome answer (λ _. AllDigits 10 word) → IfSome answer (λ value. value ≡ digits_value 10 word) → IfSome answer (IsNumber word)
decimal_some word None some first digits is = tt
decimal_some word (Some value) some first digits is = decimal_word word value some first digits is

pub hexadecimal_some : (word : List ℕ) (answer : Option ℕ) → 2 < length word → get_or word 0 0 ≡ 48 → (get_or word 1 0 ≡ 120) ⊎ (get_or word 1 0 ≡ 88) → IfSome answer (λ _. AllDigits 16 (drop 2 word)) → IfSome answer (λ value. value ≡ digits_value 16 (drop 2 word)) → IfSome answer (IsNumber word)
hexadecimal_some word None some first second digits is = tt
hexadecimal_some word (Some value) some first second digits is = hexadecimal_word word value some first second digits is

pub hexadecimal_none : (word : List ℕ) (answer : Option ℕ) → 2 < length word → get_or word 0 0 ≡ 48 → IfNone answer (AllDigits 16 (drop 2 word) → 2 ^ 32 ≤ digits_value 16 (drop 2 word)) → IfNone answer ((value : ℕ) → value < 2 ^ 32 → ¬ IsNumber word value)
hexadecimal_none word None some first large = λ value small number. let only = hexadecimal_only word value some first number in omega (arith, large only.0, only.1)
hexadecimal_none word (Some value) some first large = tt
