-- Words as they are written: keywords, names and numbers, each in front of a byte of no word.
use Rattle.workload.proofs.Common.{ℕ, ◌≡◌, ◌≢◌, ◌<◌, ◌≤◌, ◌^◌, inl, inr, ⊎_elim, List, [], ◌∷◌, ◌++◌, length, get_or, Bool, true, false, refl, sym, ap, ◌∙◌, subst, arith, IsTrue, codes, nat_eq, ◌&&◌, ◌||◌, list_any, bytes_eq, both_ways, and_parts, nat_tests, canonical_decimal, decimal_digits, decimal_value, length_decimal, first_of_decimal, Keyword, is_white_space, is_letter, is_word_byte, IsGap, nothing, space, keyword_text, IsNumber, IsDecimal, AllWordBytes, IsWord, IsIdentifier, IsLexeme, IsTaken, IsOfKind, AllWordBytes-inside}
use Rattle.std.specs.Char.{is_ascii_digit, digit_value}
use Rattle.std.specs.Str.Parse.{AllDigits}
use Rattle.std.proofs.lemmas.Str.Parse.{digit_from_value}
use Rattle.c_lex.specs.declared.keywords.Keyword.TheVariants as keywords
use Rattle.workload.proofs.Spelling.{Written, IsWritten, keyword, name, number}
use Rattle.c_lex.proofs.MarkTable.{mark_no_word}

-- white space alone
abbrev pub AllWhite : List ℕ → Type 0
AllWhite [] = Unit {0}
AllWhite (b ∷ bytes) = IsTrue (is_white_space b) × AllWhite bytes

pub gap_of : (bytes after : List ℕ) → AllWhite bytes → IsGap bytes after
gap_of [] after white = nothing
gap_of (b ∷ bytes) after white = space white.0 (gap_of bytes after white.1)

-- no word goes on here
abbrev pub EndsWord : List ℕ → Type 0
EndsWord [] = Unit {0}
EndsWord (b ∷ rest) = is_word_byte b ≡ false

ends_at : (b : ℕ) (rest after : List ℕ) → after ≡ b ∷ rest → EndsWord after → is_word_byte b ≡ false
ends_at b rest after same ends = subst EndsWord same ends

-- a word is taken where no byte of a word follows
pub word_taken : (first : ℕ) (lexeme after : List ℕ) → AllWordBytes (first ∷ lexeme) → EndsWord after → IsTaken (first ∷ lexeme) after
word_taken first lexeme after all ends = record {
  whole = inl all;
  longest = longer;
  no_comment = λ begun. let slash : first ≡ 47 = ⊎_elim (λ begins. let e = begins.1 in cc) (λ begins. let e = begins.1 in cc) begun in both_ways (is_word_byte 47) refl (sym (ap is_word_byte slash) ∙ all.0);
} where
  longer : (more rest : List ℕ) → after ≡ more ++ rest → IsLexeme ((first ∷ lexeme) ++ more) → more ≡ []
  longer [] rest same whole = refl
  longer (b ∷ more) rest same (inl word) = absurd (both_ways _ (ends_at b (more ++ rest) after same ends) (AllWordBytes-inside (first ∷ lexeme) b more word))
  longer (b ∷ more) rest same (inr mark) = absurd (both_ways _ (mark_no_word mark.0) (sym (ap (λ text. is_word_byte (get_or text 0 0)) mark.1) ∙ all.0))

-- a word as it is written
pub word_written : (w : Written) (after : List ℕ) → AllWhite w.gap → IsWord w.lexeme → EndsWord after → IsOfKind w.lexeme w.kind → IsWritten w after
word_written w after white word ends kind = record { gap = gap_of w.gap (w.lexeme ++ after) white; taken = taken w.lexeme word; kind = kind } where
  taken : (lexeme : List ℕ) → IsWord lexeme → IsTaken lexeme after
  taken [] none = absurd none
  taken (first ∷ lexeme) all = word_taken first lexeme after all ends

abbrev all_word : List ℕ → Bool
all_word [] = true
all_word (b ∷ bytes) = is_word_byte b && all_word bytes

all_word_bytes : (bytes : List ℕ) → all_word bytes ≡ true → AllWordBytes bytes
all_word_bytes [] all = tt
all_word_bytes (b ∷ bytes) all = let both = and_parts (is_word_byte b) (all_word bytes) all in (both.0, all_word_bytes bytes both.1)

keyword_is_word : (k : Keyword) → IsWord (keyword_text k)
keyword_is_word keywords.Auto = all_word_bytes (codes "auto") refl
keyword_is_word other = all_word_bytes (keyword_text other) refl

pub keyword_written : (gap : List ℕ) (k : Keyword) (after : List ℕ) → AllWhite gap → EndsWord after → IsWritten (keyword gap k) after
keyword_written gap k after white ends = word_written (keyword gap k) after white (keyword_is_word k) ends refl

letter_is_word : (b : ℕ) → IsTrue (is_letter b) → IsTrue (is_word_byte b)
letter_is_word b letter = ap (λ t. t || is_ascii_digit b) letter

identifier_is_word : (text : List ℕ) → IsIdentifier text → IsWord text
identifier_is_word [] none = none
identifier_is_word (b ∷ text) is = (letter_is_word b is.0, is.1)

pub name_written : (gap text after : List ℕ) → AllWhite gap → IsIdentifier text × ((k : Keyword) → text ≢ keyword_text k) → EndsWord after → IsWritten (name gap text) after
name_written gap text after white is ends = word_written (name gap text) after white (identifier_is_word text is.0) ends is

pub number_written : (gap text : List ℕ) (value : ℕ) (after : List ℕ) → AllWhite gap → IsWord text → IsNumber text value × (value < 2 ^ 32) → EndsWord after → IsWritten (number gap text value) after
number_written gap text value after white word is ends = word_written (number gap text value) after white word ends is

-- the digits of a decimal are bytes of a word, and its first is a digit
digit_is_word : (b : ℕ) → digit_value b < 10 → IsTrue (is_word_byte b)
digit_is_word b small = let range = digit_from_value b small in grind (arith, nat_tests)

digits_are_word : (bytes : List ℕ) → AllDigits 10 bytes → AllWordBytes bytes
digits_are_word [] all = tt
digits_are_word (b ∷ bytes) all = (digit_is_word b all.0, digits_are_word bytes all.1)

pub decimal_word_bytes : (n : ℕ) → AllWordBytes (canonical_decimal n)
decimal_word_bytes n = digits_are_word (canonical_decimal n) (decimal_digits n)

word_of_some : (bytes : List ℕ) → 0 < length bytes → AllWordBytes bytes → IsWord bytes
word_of_some [] some all = absurd (omega arith)
word_of_some (b ∷ bytes) some all = all

pub decimal_word : (n : ℕ) → IsWord (canonical_decimal n)
decimal_word n = word_of_some (canonical_decimal n) (length_decimal n) (decimal_word_bytes n)

-- a decimal of a number from 1 on is a number
is_decimal : (bytes : List ℕ) → 0 < length bytes → 48 < get_or bytes 0 0 → AllDigits 10 bytes → IsDecimal bytes
is_decimal [] some first all = absurd (omega arith)
is_decimal (b ∷ bytes) some first all = (λ e. omega arith, all)

pub decimal_number : (n : ℕ) → 1 ≤ n → n ≤ 1000 → IsNumber (canonical_decimal n) n × (n < 2 ^ 32)
decimal_number n low high =
    (IsNumber.decimal (is_decimal (canonical_decimal n) (length_decimal n) (first_of_decimal n low) (decimal_digits n)) (sym (decimal_value n)), omega arith)

-- `f` and a decimal is a name: of the keywords that begin with `f`, none goes on with a digit
abbrev begins_with_f : List ℕ → Bool
begins_with_f [] = false
begins_with_f (b ∷ bytes) = nat_eq b 102

other_first : (keyword : Keyword) (b : ℕ) (bytes : List ℕ) → begins_with_f (keyword_text keyword) ≡ false → 102 ∷ b ∷ bytes ≢ keyword_text keyword
other_first keyword b bytes other = λ e. both_ways (begins_with_f (keyword_text keyword)) other (sym (ap begins_with_f e))

second_is : (b c : ℕ) (bytes rest : List ℕ) → 102 ∷ b ∷ bytes ≡ 102 ∷ c ∷ rest → b ≡ c
second_is b c bytes rest e = ap (λ l. get_or l 1 0) e

no_keyword_f : (keyword : Keyword) (b : ℕ) (bytes : List ℕ) → digit_value b < 10 → 102 ∷ b ∷ bytes ≢ keyword_text keyword
no_keyword_f keywords.Float b bytes digit = λ e. let range = digit_from_value b digit in let same : b ≡ 108 = second_is b 108 bytes _ e in omega arith
no_keyword_f keywords.For b bytes digit = λ e. let range = digit_from_value b digit in let same : b ≡ 111 = second_is b 111 bytes _ e in omega arith
no_keyword_f keywords.Auto b bytes digit = other_first keywords.Auto b bytes refl
no_keyword_f other b bytes digit = other_first other b bytes refl

no_keyword_digits : (keyword : Keyword) (bytes : List ℕ) → 0 < length bytes → AllDigits 10 bytes → 102 ∷ bytes ≢ keyword_text keyword
no_keyword_digits keyword [] some all = absurd (omega arith)
no_keyword_digits keyword (b ∷ bytes) some all = no_keyword_f keyword b bytes all.0

pub chain_is_name : (i : ℕ) → IsIdentifier (102 ∷ canonical_decimal i) × ((keyword : Keyword) → 102 ∷ canonical_decimal i ≢ keyword_text keyword)
chain_is_name i = ((refl, decimal_word_bytes i), λ keyword. no_keyword_digits keyword (canonical_decimal i) (length_decimal i) (decimal_digits i))

-- the other names of the source are no keywords
abbrev is_name : List ℕ → Bool
is_name text =
    list_any (bytes_eq text)
    (codes "x" ∷ codes "r" ∷ codes "w" ∷ codes "n" ∷ codes "c" ∷ codes "v" ∷ codes "i" ∷ codes "main" ∷ codes "accept"
    ∷ codes "wait" ∷ codes "put" ∷ codes "spawn" ∷ [])

no_name : (keyword : Keyword) → is_name (keyword_text keyword) ≡ false
no_name keywords.Auto = refl
no_name _ = refl

no_keyword : (text : List ℕ) → is_name text ≡ true → (keyword : Keyword) → text ≢ keyword_text keyword
no_keyword text named keyword = λ e. both_ways (is_name (keyword_text keyword)) (no_name keyword) (sym (ap is_name e) ∙ named)

pub name_x : IsIdentifier (codes "x") × ((keyword : Keyword) → codes "x" ≢ keyword_text keyword)
name_x = ((refl, tt), no_keyword (codes "x") refl)

pub name_r : IsIdentifier (codes "r") × ((keyword : Keyword) → codes "r" ≢ keyword_text keyword)
name_r = ((refl, tt), no_keyword (codes "r") refl)

pub name_w : IsIdentifier (codes "w") × ((keyword : Keyword) → codes "w" ≢ keyword_text keyword)
name_w = ((refl, tt), no_keyword (codes "w") refl)

pub name_n : IsIdentifier (codes "n") × ((keyword : Keyword) → codes "n" ≢ keyword_text keyword)
name_n = ((refl, tt), no_keyword (codes "n") refl)

pub name_c : IsIdentifier (codes "c") × ((keyword : Keyword) → codes "c" ≢ keyword_text keyword)
name_c = ((refl, tt), no_keyword (codes "c") refl)

pub name_v : IsIdentifier (codes "v") × ((keyword : Keyword) → codes "v" ≢ keyword_text keyword)
name_v = ((refl, tt), no_keyword (codes "v") refl)

pub name_i : IsIdentifier (codes "i") × ((keyword : Keyword) → codes "i" ≢ keyword_text keyword)
name_i = ((refl, tt), no_keyword (codes "i") refl)

pub name_main : IsIdentifier (codes "main") × ((keyword : Keyword) → codes "main" ≢ keyword_text keyword)
name_main = ((refl, (refl, (refl, (refl, tt)))), no_keyword (codes "main") refl)

pub name_accept : IsIdentifier (codes "accept") × ((keyword : Keyword) → codes "accept" ≢ keyword_text keyword)
name_accept = ((refl, (refl, (refl, (refl, (refl, (refl, tt)))))), no_keyword (codes "accept") refl)

pub name_wait : IsIdentifier (codes "wait") × ((keyword : Keyword) → codes "wait" ≢ keyword_text keyword)
name_wait = ((refl, (refl, (refl, (refl, tt)))), no_keyword (codes "wait") refl)

pub name_put : IsIdentifier (codes "put") × ((keyword : Keyword) → codes "put" ≢ keyword_text keyword)
name_put = ((refl, (refl, (refl, tt))), no_keyword (codes "put") refl)

pub name_spawn : IsIdentifier (codes "spawn") × ((keyword : Keyword) → codes "spawn" ≢ keyword_text keyword)
name_spawn = ((refl, (refl, (refl, (refl, (refl, tt))))), no_keyword (codes "spawn") refl)
