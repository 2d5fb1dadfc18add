-- Marks as they are written, each in front of a byte with which no longer mark begins.
use Rattle.workload.proofs.Common.{ℕ, ◌≡◌, ◌≢◌, inl, inr, ⊎_elim, List, [], ◌∷◌, ◌++◌, get_or, Bool, true, false, refl, sym, ap, ◌∙◌, subst, list_any, nat_eq, both_ways, Mark, is_word_byte, mark_text, IsWord, IsLexeme}
use Rattle.c_lex.specs.declared.marks.Mark.TheVariants as marks
use Rattle.workload.proofs.Spelling.{IsWritten, mark}
use Rattle.workload.proofs.Words.{AllWhite, gap_of}

-- the byte, and another behind it, begin no mark
abbrev pub NoLonger : ℕ → ℕ → Type 0
NoLonger a b = (other : Mark) (bytes : List ℕ) → a ∷ b ∷ bytes ≢ mark_text other

-- whether a text goes on behind one of these bytes, and whether a blank is behind its first byte
abbrev goes_on : List ℕ → Bool
goes_on (c ∷ d ∷ rest) = list_any (nat_eq c) (40 ∷ 41 ∷ 123 ∷ 125 ∷ 44 ∷ 59 ∷ [])
goes_on _ = false

abbrev has_blank : List ℕ → Bool
has_blank (c ∷ d ∷ rest) = nat_eq d 32
has_blank _ = false

none_on : (m : Mark) → goes_on (mark_text m) ≡ false
none_on marks.ShiftLeftAssign = refl
none_on _ = refl

none_blank : (m : Mark) → has_blank (mark_text m) ≡ false
none_blank marks.ShiftLeftAssign = refl
none_blank _ = refl

stays_one : (a b : ℕ) → goes_on (a ∷ b ∷ []) ≡ true → NoLonger a b
stays_one a b alone other bytes = λ e. both_ways (goes_on (mark_text other)) (none_on other) (sym (ap goes_on e) ∙ alone)

-- an operator in front of a blank
before_blank : (a : ℕ) → NoLonger a 32
before_blank a other bytes = λ e. both_ways (has_blank (mark_text other)) (none_blank other) (sym (ap has_blank e))

-- a mark of one byte as it is written, in front of a byte with which no longer mark begins
mark_written : (gap : List ℕ) (m : Mark) (a b : ℕ) (after : List ℕ) → AllWhite gap → mark_text m ≡ a ∷ [] → is_word_byte a ≡ false → nat_eq a 47 ≡ false → NoLonger a b → IsWritten (mark gap m) (b ∷ after)
mark_written gap m a b after white one no_word no_slash alone = record {
  gap = gap_of gap (mark_text m ++ b ∷ after) white;
  taken = record {
    whole = inr (m, refl);
    longest = longer;
    no_comment = λ begun. ⊎_elim
        (λ begins. let e = begins.1 in slash (sym (ap (λ l. l ++ b ∷ after) one) ∙ e))
        (λ begins. let e = begins.1 in slash (sym (ap (λ l. l ++ b ∷ after) one) ∙ e))
        begun;
  };
  kind = refl;
} where
  slash : {rest : List ℕ} → a ∷ b ∷ after ≡ 47 ∷ rest → ⊥
  slash e = both_ways (nat_eq a 47) no_slash (ap (λ l. nat_eq (get_or l 0 0) 47) e)

  longer : (more rest : List ℕ) → b ∷ after ≡ more ++ rest → IsLexeme (mark_text m ++ more) → more ≡ []
  longer [] rest same whole = refl
  longer (c ∷ more) rest same (inl word) = absurd (both_ways _ no_word (let P : List ℕ → Type 0 = λ l. IsWord (l ++ c ∷ more) in (subst P one word).0))
  longer (c ∷ more) rest same (inr other) =
      let next : b ≡ c = cc in
      absurd (alone other.0 more ((λ i. a ∷ next i ∷ more) ∙ sym (ap (λ l. l ++ c ∷ more) one) ∙ other.1))

pub left_parenthesis : (gap : List ℕ) (b : ℕ) (after : List ℕ) → AllWhite gap → IsWritten (mark gap marks.LeftParenthesis) (b ∷ after)
left_parenthesis gap b after white = mark_written gap marks.LeftParenthesis 40 b after white refl refl refl (stays_one 40 b refl)

pub right_parenthesis : (gap : List ℕ) (b : ℕ) (after : List ℕ) → AllWhite gap → IsWritten (mark gap marks.RightParenthesis) (b ∷ after)
right_parenthesis gap b after white = mark_written gap marks.RightParenthesis 41 b after white refl refl refl (stays_one 41 b refl)

pub left_brace : (gap : List ℕ) (b : ℕ) (after : List ℕ) → AllWhite gap → IsWritten (mark gap marks.LeftBrace) (b ∷ after)
left_brace gap b after white = mark_written gap marks.LeftBrace 123 b after white refl refl refl (stays_one 123 b refl)

pub right_brace : (gap : List ℕ) (b : ℕ) (after : List ℕ) → AllWhite gap → IsWritten (mark gap marks.RightBrace) (b ∷ after)
right_brace gap b after white = mark_written gap marks.RightBrace 125 b after white refl refl refl (stays_one 125 b refl)

pub comma : (gap : List ℕ) (b : ℕ) (after : List ℕ) → AllWhite gap → IsWritten (mark gap marks.Comma) (b ∷ after)
comma gap b after white = mark_written gap marks.Comma 44 b after white refl refl refl (stays_one 44 b refl)

pub semicolon : (gap : List ℕ) (b : ℕ) (after : List ℕ) → AllWhite gap → IsWritten (mark gap marks.Semicolon) (b ∷ after)
semicolon gap b after white = mark_written gap marks.Semicolon 59 b after white refl refl refl (stays_one 59 b refl)

pub assign : (gap after : List ℕ) → AllWhite gap → IsWritten (mark gap marks.Assign) (32 ∷ after)
assign gap after white = mark_written gap marks.Assign 61 32 after white refl refl refl (before_blank 61)

pub less : (gap after : List ℕ) → AllWhite gap → IsWritten (mark gap marks.Less) (32 ∷ after)
less gap after white = mark_written gap marks.Less 60 32 after white refl refl refl (before_blank 60)

pub plus : (gap after : List ℕ) → AllWhite gap → IsWritten (mark gap marks.Plus) (32 ∷ after)
plus gap after white = mark_written gap marks.Plus 43 32 after white refl refl refl (before_blank 43)
