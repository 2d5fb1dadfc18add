-- Words and marks that are taken whole.
use Rattle.c_lex.proofs.Common.{ℕ, suc, ◌≡◌, ◌<◌, ◌≤◌, ◌+◌, inl, inr, ⊎_elim, List, [], ◌∷◌, ◌++◌, length, get_or, false, IsTrue, refl, sym, ap, ◌∙◌, subst, arith, append_assoc, is_ascii_digit, both_ways, or_cases, length-append, get_or_append_left, nil_from_length, Mark, is_letter, is_word_byte, mark_text, BeginsWith, AllWordBytes, IsWord, IsIdentifier, IsLexeme, BeginsComment, IsTaken}
use Rattle.c_lex.proofs.MarkTable.{mark_text-some, mark_no_word}

pub AllWordBytes-from : (text : List ℕ) → ((k : ℕ) → k < length text → IsTrue (is_word_byte (get_or text k 0))) → AllWordBytes text
AllWordBytes-from [] each = tt
AllWordBytes-from (b ∷ text) each = (each 0 (omega arith), AllWordBytes-from text (λ k inside. each (suc k) (omega arith)))

-- a byte within a word
pub AllWordBytes-inside : (front : List ℕ) (b : ℕ) (back : List ℕ) → AllWordBytes (front ++ b ∷ back) → IsTrue (is_word_byte b)
AllWordBytes-inside [] b back all = all.0
AllWordBytes-inside (c ∷ front) b back all = AllWordBytes-inside front b back all.1

pub IsWord-some : (text : List ℕ) → IsWord text → 0 < length text
IsWord-some [] word = absurd word
IsWord-some (b ∷ text) word = omega arith

pub IsWord-first : (text : List ℕ) → IsWord text → IsTrue (is_word_byte (get_or text 0 0))
IsWord-first [] word = absurd word
IsWord-first (b ∷ text) word = word.0

-- a word that begins with no digit
pub IsIdentifier-from : (text : List ℕ) → IsWord text → is_ascii_digit (get_or text 0 0) ≡ false → IsIdentifier text
IsIdentifier-from [] word no_digit = word
IsIdentifier-from (b ∷ text) word no_digit = (⊎_elim (λ letter. letter) (λ digit. absurd (both_ways _ no_digit digit)) (or_cases (is_letter b) (is_ascii_digit b) word.0), word.1)

-- what begins with a mark is no word
pub mark_begins_no_word : (mark : Mark) (more : List ℕ) → ¬ IsWord (mark_text mark ++ more)
mark_begins_no_word mark more = λ word.
    both_ways _ (mark_no_word mark) (sym (ap is_word_byte (get_or_append_left (mark_text mark) more 0 0 (mark_text-some mark))) ∙ IsWord-first (mark_text mark ++ more) word)

-- a word is taken where no byte of a word follows
pub word_taken : (first : ℕ) (lexeme after : List ℕ) → AllWordBytes (first ∷ lexeme) → ((b : ℕ) (rest : List ℕ) → after ≡ b ∷ rest → ¬ IsTrue (is_word_byte b)) → IsTaken (first ∷ lexeme) after
word_taken first lexeme after all ends = record {
  whole = inl all;
  longest = longer;
  no_comment = λ comment. let slash : first ≡ 47 = ⊎_elim (λ begins. let e = begins.1 in cc) (λ begins. let e = begins.1 in cc) comment in both_ways (is_word_byte 47) refl (sym (ap is_word_byte slash) ∙ all.0);
} where
  longer : (more rest : List ℕ) → after ≡ more ++ rest → IsLexeme ((first ∷ lexeme) ++ more) → more ≡ []
  longer [] rest same whole = refl
  longer (b ∷ more) rest same (inl word) = absurd (ends b (more ++ rest) same (AllWordBytes-inside (first ∷ lexeme) b more word))
  longer (b ∷ more) rest same (inr mark) = absurd (both_ways _ (mark_no_word mark.0) (sym (ap (λ text. is_word_byte (get_or text 0 0)) mark.1) ∙ all.0))

-- a mark is taken where it is the longest one and no comment begins
pub mark_taken : (mark : Mark) (text after : List ℕ) → text ≡ mark_text mark ++ after → ((other : Mark) → BeginsWith text (mark_text other) → length (mark_text other) ≤ length (mark_text mark)) → ¬ BeginsComment text → IsTaken (mark_text mark) after
mark_taken mark text after split best no_comment = record {
  whole = inr (mark, refl);
  longest = λ more rest same whole. ⊎_elim
      (λ word. absurd (mark_begins_no_word mark more word))
      (λ other. let fits = best other.0 (rest, split ∙ ap (λ l. mark_text mark ++ l) same ∙ sym (append_assoc (mark_text mark) more rest) ∙ ap (λ l. l ++ rest) other.1) in
      let long : length (mark_text other.0) ≡ length (mark_text mark) + length more = ap length (sym other.1) ∙ length-append (mark_text mark) more in
      nil_from_length more (omega arith))
      whole;
  no_comment = subst (λ l. ¬ BeginsComment l) split no_comment;
}
