-- What is taken at the front of a text is one lexeme, and of one kind.
use Rattle.c_lex.proofs.Common.{ℕ, ◌≡◌, ◌<◌, ◌^◌, inl, inr, ⊎_elim, List, [], ◌∷◌, ◌++◌, length, get_or, codes, true, false, IsTrue, refl, sym, ap, ◌∙◌, subst, arith, digit_value, is_ascii_digit, both_ways, or_right, or_left, nat_tests, append-nil, get_or_append_left, TokenKind, is_white_space, is_letter, is_word_byte, mark_text, IsDecimal, IsHexadecimal, IsNumber, null, decimal, hexadecimal, IsIdentifier, IsLexeme, BeginsComment, IsTaken, IsOfKind}
use Rattle.c_lex.specs.declared.tokens.TokenKind.TheVariants as kinds
use Rattle.c_lex.proofs.GapUnique.{BeginsNoGap, comment_begins}
use Rattle.c_lex.proofs.KeywordTable.{keyword_first, keyword_text-injective}
use Rattle.c_lex.proofs.MarkTable.{mark_text-some, mark_no_word, mark_no_space, mark_text-injective}
use Rattle.c_lex.proofs.Lists.{cuts_compare, same_heads}
use Rattle.c_lex.proofs.TakenLemmas.{IsWord-first, IsWord-some}

-- no byte is of two classes
pub word_no_space : (b : ℕ) → is_word_byte b ≡ true → is_white_space b ≡ false
word_no_space b word = grind (arith, nat_tests)

pub letter_no_digit : (b : ℕ) → is_letter b ≡ true → is_ascii_digit b ≡ false
letter_no_digit b letter = grind (arith, nat_tests)

-- a digit is of a word
pub digit_word : (b : ℕ) → is_ascii_digit b ≡ true → is_word_byte b ≡ true
digit_word b digit = or_right (is_letter b) (is_ascii_digit b) digit

letter_word : (b : ℕ) → is_letter b ≡ true → is_word_byte b ≡ true
letter_word b letter = or_left (is_letter b) (is_ascii_digit b) letter

-- a decimal digit, by its value
decimal_digit : (b : ℕ) → digit_value b < 10 → is_ascii_digit b ≡ true
decimal_digit b small = grind (arith, nat_tests)

-- the value of a number is one
no_null_decimal : (word : List ℕ) → word ≡ codes "0" → IsDecimal word → ⊥
no_null_decimal [] same is = is
no_null_decimal (b ∷ word) same is = is.0 (same_heads same)

no_null_hexadecimal : (word : List ℕ) → word ≡ codes "0" → IsHexadecimal word → ⊥
no_null_hexadecimal (a ∷ b ∷ d ∷ word) same is = let long = ap length same in omega arith
no_null_hexadecimal _ same is = is

no_decimal_hexadecimal : (word : List ℕ) → IsDecimal word → IsHexadecimal word → ⊥
no_decimal_hexadecimal [] is is' = is
no_decimal_hexadecimal (a ∷ b ∷ d ∷ word) is is' = is.0 is'.0
no_decimal_hexadecimal _ is is' = is'

pub number_unique : (word : List ℕ) (m n : ℕ) → IsNumber word m → IsNumber word n → m ≡ n
number_unique word m n (null is worth) (null is' worth') = worth ∙ sym worth'
number_unique word m n (null is worth) (decimal is' worth') = absurd (no_null_decimal word is is')
number_unique word m n (null is worth) (hexadecimal is' worth') = absurd (no_null_hexadecimal word is is')
number_unique word m n (decimal is worth) (null is' worth') = absurd (no_null_decimal word is' is)
number_unique word m n (decimal is worth) (decimal is' worth') = worth ∙ sym worth'
number_unique word m n (decimal is worth) (hexadecimal is' worth') = absurd (no_decimal_hexadecimal word is is')
number_unique word m n (hexadecimal is worth) (null is' worth') = absurd (no_null_hexadecimal word is' is)
number_unique word m n (hexadecimal is worth) (decimal is' worth') = absurd (no_decimal_hexadecimal word is' is)
number_unique word m n (hexadecimal is worth) (hexadecimal is' worth') = worth ∙ sym worth'

-- a number begins with a digit
decimal_first : (word : List ℕ) → IsDecimal word → is_ascii_digit (get_or word 0 0) ≡ true
decimal_first [] is = absurd is
decimal_first (b ∷ word) is = decimal_digit b is.1.0

hexadecimal_first : (word : List ℕ) → IsHexadecimal word → is_ascii_digit (get_or word 0 0) ≡ true
hexadecimal_first (a ∷ b ∷ d ∷ word) is = ap is_ascii_digit is.0
hexadecimal_first _ is = absurd is

pub number_first : (word : List ℕ) (n : ℕ) → IsNumber word n → is_ascii_digit (get_or word 0 0) ≡ true
number_first word n (null is worth) = ap (λ l. is_ascii_digit (get_or l 0 0)) is
number_first word n (decimal is worth) = decimal_first word is
number_first word n (hexadecimal is worth) = hexadecimal_first word is

identifier_first : (word : List ℕ) → IsIdentifier word → is_letter (get_or word 0 0) ≡ true
identifier_first [] is = absurd is
identifier_first (b ∷ word) is = is.0

-- what a lexeme of a kind begins with
BeginsAs : ℕ → TokenKind → Type 0
BeginsAs b (kinds.Number n) = is_ascii_digit b ≡ true
BeginsAs b (kinds.Mark mark) = is_word_byte b ≡ false
BeginsAs b _ = is_letter b ≡ true

kind_first : (lexeme : List ℕ) (kind : TokenKind) → IsOfKind lexeme kind → BeginsAs (get_or lexeme 0 0) kind
unfolding BeginsAs
kind_first lexeme kinds.Name is = identifier_first lexeme is.0
kind_first lexeme (kinds.Number n) is = number_first lexeme n is.0
kind_first lexeme (kinds.Keyword keyword) is = ap (λ l. is_letter (get_or l 0 0)) is ∙ keyword_first keyword
kind_first lexeme (kinds.Mark mark) is = ap (λ l. is_word_byte (get_or l 0 0)) is ∙ mark_no_word mark

-- a lexeme that begins with a digit is a number
pub digit_kind : (lexeme : List ℕ) (kind : TokenKind) → is_ascii_digit (get_or lexeme 0 0) ≡ true → IsOfKind lexeme kind → (n : ℕ) × (n < 2 ^ 32) × IsNumber lexeme n
unfolding BeginsAs
digit_kind lexeme kinds.Name digit is = absurd (both_ways _ (letter_no_digit (get_or lexeme 0 0) (kind_first lexeme kinds.Name is)) digit)
digit_kind lexeme (kinds.Number n) digit is = (n, is.1, is.0)
digit_kind lexeme (kinds.Keyword keyword) digit is = absurd (both_ways _ (letter_no_digit (get_or lexeme 0 0) (kind_first lexeme (kinds.Keyword keyword) is)) digit)
digit_kind lexeme (kinds.Mark mark) digit is = absurd (both_ways _ (kind_first lexeme (kinds.Mark mark) is) (digit_word (get_or lexeme 0 0) digit))

pub kind_unique : (lexeme : List ℕ) (kind other : TokenKind) → IsOfKind lexeme kind → IsOfKind lexeme other → kind ≡ other
unfolding BeginsAs
kind_unique lexeme kinds.Name kinds.Name is is' = refl
kind_unique lexeme kinds.Name (kinds.Number n) is is' = absurd (both_ways _ (letter_no_digit (get_or lexeme 0 0) (kind_first lexeme kinds.Name is)) (kind_first lexeme (kinds.Number n) is'))
kind_unique lexeme kinds.Name (kinds.Keyword keyword) is is' = absurd (is.1 keyword is')
kind_unique lexeme kinds.Name (kinds.Mark mark) is is' = absurd (both_ways _ (kind_first lexeme (kinds.Mark mark) is') (letter_word (get_or lexeme 0 0) (kind_first lexeme kinds.Name is)))
kind_unique lexeme (kinds.Number n) kinds.Name is is' = absurd (both_ways _ (letter_no_digit (get_or lexeme 0 0) (kind_first lexeme kinds.Name is')) (kind_first lexeme (kinds.Number n) is))
kind_unique lexeme (kinds.Number n) (kinds.Number m) is is' = ap kinds.Number (number_unique lexeme n m is.0 is'.0)
kind_unique lexeme (kinds.Number n) (kinds.Keyword keyword) is is' = absurd (both_ways _ (letter_no_digit (get_or lexeme 0 0) (kind_first lexeme (kinds.Keyword keyword) is')) (kind_first lexeme (kinds.Number n) is))
kind_unique lexeme (kinds.Number n) (kinds.Mark mark) is is' = absurd (both_ways _ (kind_first lexeme (kinds.Mark mark) is') (digit_word (get_or lexeme 0 0) (kind_first lexeme (kinds.Number n) is)))
kind_unique lexeme (kinds.Keyword keyword) kinds.Name is is' = absurd (is'.1 keyword is)
kind_unique lexeme (kinds.Keyword keyword) (kinds.Number n) is is' = absurd (both_ways _ (letter_no_digit (get_or lexeme 0 0) (kind_first lexeme (kinds.Keyword keyword) is)) (kind_first lexeme (kinds.Number n) is'))
kind_unique lexeme (kinds.Keyword keyword) (kinds.Keyword other) is is' = ap kinds.Keyword (keyword_text-injective keyword other (sym is ∙ is'))
kind_unique lexeme (kinds.Keyword keyword) (kinds.Mark mark) is is' = absurd (both_ways _ (kind_first lexeme (kinds.Mark mark) is') (letter_word (get_or lexeme 0 0) (kind_first lexeme (kinds.Keyword keyword) is)))
kind_unique lexeme (kinds.Mark mark) kinds.Name is is' = absurd (both_ways _ (kind_first lexeme (kinds.Mark mark) is) (letter_word (get_or lexeme 0 0) (kind_first lexeme kinds.Name is')))
kind_unique lexeme (kinds.Mark mark) (kinds.Number n) is is' = absurd (both_ways _ (kind_first lexeme (kinds.Mark mark) is) (digit_word (get_or lexeme 0 0) (kind_first lexeme (kinds.Number n) is')))
kind_unique lexeme (kinds.Mark mark) (kinds.Keyword keyword) is is' = absurd (both_ways _ (kind_first lexeme (kinds.Mark mark) is) (letter_word (get_or lexeme 0 0) (kind_first lexeme (kinds.Keyword keyword) is')))
kind_unique lexeme (kinds.Mark mark) (kinds.Mark other) is is' = ap kinds.Mark (mark_text-injective mark other (sym is ∙ is'))

-- of two lexemes that are taken at one place neither is longer
pub taken_unique : (lexeme other after rest : List ℕ) → IsTaken lexeme after → IsTaken other rest → lexeme ++ after ≡ other ++ rest → (lexeme ≡ other) × (after ≡ rest)
taken_unique lexeme other after rest taken taken' same =
    ⊎_elim
    (λ w. let none = taken.longest w.more rest w.back (subst IsLexeme w.front taken'.whole) in
    (sym (append-nil lexeme) ∙ ap (λ l. lexeme ++ l) (sym none) ∙ sym w.front, w.back ∙ ap (λ l. l ++ rest) none))
    (λ w. let none = taken'.longest w.more after w.back (subst IsLexeme w.front taken.whole) in
    (w.front ∙ ap (λ l. other ++ l) none ∙ append-nil other, sym (w.back ∙ ap (λ l. l ++ after) none)))
    (cuts_compare lexeme other after rest same)

-- where a lexeme is taken, no gap begins
lexeme_no_space : (lexeme after : List ℕ) → IsLexeme lexeme → (b : ℕ) (more : List ℕ) → lexeme ++ after ≡ b ∷ more → ¬ IsTrue (is_white_space b)
lexeme_no_space lexeme after (inl word) b more same white =
    let first : get_or lexeme 0 0 ≡ b = sym (get_or_append_left lexeme after 0 0 (IsWord-some lexeme word)) ∙ ap (λ l. get_or l 0 0) same in
    both_ways _ (word_no_space b (sym (ap is_word_byte first) ∙ IsWord-first lexeme word)) white
lexeme_no_space lexeme after (inr mark) b more same white =
    let first : get_or (mark_text mark.0) 0 0 ≡ b = sym (get_or_append_left (mark_text mark.0) after 0 0 (mark_text-some mark.0)) ∙ ap (λ l. get_or (l ++ after) 0 0) (sym mark.1) ∙ ap (λ l. get_or l 0 0) same in
    both_ways _ (sym (ap is_white_space first) ∙ mark_no_space mark.0) white

pub taken_no_gap : (lexeme after : List ℕ) → IsTaken lexeme after → BeginsNoGap (lexeme ++ after)
taken_no_gap lexeme after taken = record {
  no_space = lexeme_no_space lexeme after taken.whole;
  no_comment = λ text rest same is. taken.no_comment (subst BeginsComment (sym same) (comment_begins text rest is));
}
