-- The word at the front of a text: it is a token, or no number.
use Rattle.decisions.proofs.Common.{ℕ, ◌≡◌, ◌<◌, ◌^◌, ◌⊎◌, inl, inr, true, false, IsTrue, List, [], ◌∷◌, length, get_or, take, drop, refl, sym, subst, arith, codes, decided_by, both_decided, either_decided, denied, number_same, bool_same, Below, below_decided, text_same, Keyword, TokenKind, LexError, BadNumber, is_word_byte, IsWord, IsOfKind, BeginsNone, IsFirstGap, IsFirstToken, Decided, IsWordFront, IsWordFront-word, word_token, bad_number, false_from_ne_true}
use Rattle.std.specs.Char.{digit_value, is_ascii_digit}
use Rattle.std.specs.Str.Parse.{AllDigits, digits_value}
use Rattle.c_lex.specs.declared.tokens.TokenKind.TheVariants as kinds
use Rattle.c_lex.specs.Keywords.{keyword_text}
use Rattle.c_lex.specs.Numbers.{IsDecimal, IsHexadecimal, IsNumber}
use Rattle.decisions.proofs.Decisions.{first_without, IsFirstWithout, lt_decided}
use Rattle.decisions.proofs.Tables.{some_keyword}
use Rattle.c_lex.proofs.TakenLemmas.{IsIdentifier-from}

-- what a text begins with: part of a gap, a token, or what is none
pub data First (at : ℕ) (text : List ℕ) : Type 0 where
  Gap : (size : ℕ) → IsFirstGap text size → First at text
  Token : (kind : TokenKind) (size : ℕ) → IsFirstToken text kind size → First at text
  Neither : (error : LexError) → BeginsNone at text error → First at text

-- ---- numbers

digits_decided : (radix : ℕ) (text : List ℕ) → Decided (AllDigits radix text)
digits_decided radix [] = inl tt
digits_decided radix (b ∷ text) = both_decided (lt_decided (digit_value b) radix) (digits_decided radix text)

decimal_decided : (word : List ℕ) → Decided (IsDecimal word)
decimal_decided [] = inr (λ is. is)
decimal_decided (first ∷ digits) = both_decided (denied (number_same first 48)) (digits_decided 10 (first ∷ digits))

abbrev HexadecimalParts : ℕ → ℕ → List ℕ → Type 0
HexadecimalParts a x digits = (a ≡ 48) × (((x ≡ 120) ⊎ (x ≡ 88)) × AllDigits 16 digits)

hexadecimal_decided : (word : List ℕ) → Decided (IsHexadecimal word)
hexadecimal_decided (a ∷ x ∷ digit ∷ digits) =
    decided_by (λ (h : HexadecimalParts a x (digit ∷ digits)). (h.0, h.1.0, h.1.1)) (λ h. (h.0, (h.1, h.2)))
    (both_decided (number_same a 48) (both_decided (either_decided (number_same x 120) (number_same x 88)) (digits_decided 16 (digit ∷ digits))))
hexadecimal_decided _ = inr (λ is. is)

abbrev NumberWays : List ℕ → ℕ → Type 0
NumberWays word value = ((word ≡ codes "0") × (value ≡ 0)) ⊎ ((IsDecimal word × (value ≡ digits_value 10 word)) ⊎ (IsHexadecimal word × (value ≡ digits_value 16 (drop 2 word))))

by_ways : (word : List ℕ) (value : ℕ) → NumberWays word value → IsNumber word value
by_ways word value (inl h) = IsNumber.null h.0 h.1
by_ways word value (inr (inl h)) = IsNumber.decimal h.0 h.1
by_ways word value (inr (inr h)) = IsNumber.hexadecimal h.0 h.1

ways_of : (word : List ℕ) (value : ℕ) → IsNumber word value → NumberWays word value
ways_of word value (IsNumber.null a b) = inl (a, b)
ways_of word value (IsNumber.decimal a b) = inr (inl (a, b))
ways_of word value (IsNumber.hexadecimal a b) = inr (inr (a, b))

number_decided : (word : List ℕ) (value : ℕ) → Decided (IsNumber word value)
number_decided word value = decided_by (by_ways word value) (ways_of word value)
    (either_decided (both_decided (text_same word (codes "0")) (number_same value 0))
    (either_decided (both_decided (decimal_decided word) (number_same value (digits_value 10 word))) (both_decided (hexadecimal_decided word) (number_same value (digits_value 16 (drop 2 word))))))

-- ---- the word

-- how long the word at the front is
word_front : (text : List ℕ) → 0 < length text → IsTrue (is_word_byte (get_or text 0 0)) → (n : ℕ) × IsWordFront text n
word_front text some first = by (first_without (λ k. IsTrue (is_word_byte (get_or text k 0))) (λ k. bool_same (is_word_byte (get_or text k 0)) true) (length text)) where
  by : ((k : ℕ) → k < length text → IsTrue (is_word_byte (get_or text k 0))) ⊎ ((k : ℕ) × ((k < length text) × IsFirstWithout (λ n. IsTrue (is_word_byte (get_or text n 0))) k)) → (n : ℕ) × IsWordFront text n
  by (inl all) = (length text, record { some = some; first = first; within = omega arith; each = all; ends = λ h. absurd (omega (arith, h)) })
  by (inr w) = (w.0, record { some = some; first = first; within = (let h = w.1.0 in omega arith); each = w.1.1.lower; ends = λ h. w.1.1.fails })

-- the kind of a word that begins with no digit
plain_kind : (word : List ℕ) → IsWord word → is_ascii_digit (get_or word 0 0) ≡ false → Decided ((keyword : Keyword) × (word ≡ keyword_text keyword)) → (kind : TokenKind) × IsOfKind word kind
plain_kind word is no_digit (inl k) = (kinds.Keyword k.0, k.1)
plain_kind word is no_digit (inr none) = (kinds.Name, (IsIdentifier-from word is no_digit, λ keyword e. none (keyword, e)))

pub word_first : (at : ℕ) (text : List ℕ) → 0 < length text → IsTrue (is_word_byte (get_or text 0 0)) → First at text
word_first at text some first = with_front (word_front text some first) where
  number : (n : ℕ) → IsWordFront text n → IsTrue (is_ascii_digit (get_or (take n text) 0 0)) → (bound : ℕ) → bound ≡ 2 ^ 32 → Decided (Below (IsNumber (take n text)) bound) → First at text
  number n front digit bound b (inl v) = Token (kinds.Number v.0) n (word_token text n (kinds.Number v.0) front (v.1.1, subst (λ (m : ℕ). v.0 < m) b v.1.0))
  number n front digit bound b (inr none) = Neither (BadNumber at) (refl, bad_number text n front digit (λ value small is. none (value, (subst (λ (m : ℕ). value < m) (sym b) small, is))))

  searched : (n : ℕ) → IsWordFront text n → IsTrue (is_ascii_digit (get_or (take n text) 0 0)) → (bound : ℕ) → bound ≡ 2 ^ 32 → First at text
  searched n front digit bound b = number n front digit bound b (below_decided (IsNumber (take n text)) (number_decided (take n text)) bound)

  by_digit : (n : ℕ) → IsWordFront text n → Decided (is_ascii_digit (get_or (take n text) 0 0) ≡ true) → First at text
  by_digit n front (inl digit) = searched n front digit (2 ^ 32) refl
  by_digit n front (inr none) =
      let k = plain_kind (take n text) (IsWordFront-word text n front) (false_from_ne_true _ none) (some_keyword (λ keyword. take n text ≡ keyword_text keyword) (λ keyword. text_same (take n text) (keyword_text keyword))) in
      Token k.0 n (word_token text n k.0 front k.1)

  with_front : (n : ℕ) × IsWordFront text n → First at text
  with_front f = by_digit f.0 f.1 (bool_same (is_ascii_digit (get_or (take f.0 text) 0 0)) true)
