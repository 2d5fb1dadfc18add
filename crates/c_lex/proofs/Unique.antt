-- A source has one list of tokens or one refusal, and never both.
use Rattle.c_lex.proofs.Common.{ℕ, ◌≡◌, ◌+◌, ◌⊎◌, inl, inr, ⊎_elim, List, [], ◌∷◌, ◌++◌, length, get_or, Option, Some, None, IsTrue, refl, sym, ap, ◌∙◌, subst, arith, is_ascii_digit, both_ways, Mark, Token, TokenKind, LexError, is_white_space, mark_text, IsNumber, IsWord, IsLexeme, BeginsComment, IsTaken, IsOfKind, LeadsTo, AreTokensOf, BeginsWithBadByte, IsOpenComment, BeginsWithBadNumber, BeginsNone, IsLexErrorOf}
use Rattle.c_lex.specs.declared.marks.Mark.TheVariants as marks
use Rattle.c_lex.specs.declared.tokens.LexError.TheVariants.{BadByte, OpenComment, BadNumber, Memory}
use Rattle.c_lex.proofs.GapUnique.{BeginsNoGap, gap_unique, comment_begins, open_no_comment}
use Rattle.c_lex.proofs.Lists.{same_heads}
use Rattle.c_lex.proofs.MarkTable.{mark_text-some}
use Rattle.c_lex.proofs.TokenUnique.{digit_kind, kind_unique, taken_unique, taken_no_gap}

-- a bad byte begins no comment
bad_byte_no_comment : (rest : List ℕ) → BeginsWithBadByte rest → ¬ BeginsComment rest
bad_byte_no_comment [] bad begun = bad
bad_byte_no_comment (b ∷ rest) bad begun =
    ⊎_elim (λ line. bad.2 marks.Slash (47 ∷ line.0, line.1)) (λ block. bad.2 marks.Slash (42 ∷ block.0, block.1)) begun

bad_byte_no_space : (rest : List ℕ) → BeginsWithBadByte rest → (b : ℕ) (more : List ℕ) → rest ≡ b ∷ more → ¬ IsTrue (is_white_space b)
bad_byte_no_space [] bad b more same white = bad
bad_byte_no_space (c ∷ rest) bad b more same white = bad.0 (subst (λ x. IsTrue (is_white_space x)) (sym (same_heads same)) white)

-- where no token begins, no gap begins
none_no_gap : (stop : ℕ) (rest : List ℕ) (error : LexError) → BeginsNone stop rest error → BeginsNoGap rest
none_no_gap stop rest (BadByte at) none = record {
  no_space = bad_byte_no_space rest none.1;
  no_comment = λ text after same is. bad_byte_no_comment rest none.1 (subst BeginsComment (sym same) (comment_begins text after is));
}
none_no_gap stop rest (OpenComment at) none =
    let open_at = none.1 in
    record {
      no_space = λ b more same white. both_ways (is_white_space 47) refl (ap is_white_space (same_heads (sym open_at.1 ∙ same)) ∙ white);
      no_comment = λ text after same is. open_no_comment open_at.0 text after open_at.2 is (sym open_at.1 ∙ same);
    }
none_no_gap stop rest (BadNumber at) none =
    let bad = none.1 in subst BeginsNoGap (sym bad.split) (taken_no_gap (bad.first ∷ bad.others) bad.after bad.taken)
none_no_gap stop rest Memory none = absurd none

-- a bad byte begins no lexeme
bad_byte_no_word : (word after : List ℕ) → IsWord word → ¬ BeginsWithBadByte (word ++ after)
bad_byte_no_word [] after is bad = is
bad_byte_no_word (b ∷ word) after is bad = bad.1 is.0

bad_byte_no_mark : (rest after : List ℕ) (mark : Mark) → rest ≡ mark_text mark ++ after → ¬ BeginsWithBadByte rest
bad_byte_no_mark [] after mark same bad = bad
bad_byte_no_mark (b ∷ rest) after mark same bad = bad.2 mark (after, same)

bad_byte_no_lexeme : (lexeme after : List ℕ) → IsLexeme lexeme → ¬ BeginsWithBadByte (lexeme ++ after)
bad_byte_no_lexeme lexeme after whole bad =
    ⊎_elim
    (λ word. bad_byte_no_word lexeme after word bad)
    (λ mark. bad_byte_no_mark (lexeme ++ after) after mark.0 (ap (λ l. l ++ after) mark.1) bad)
    whole

-- where a token is taken, none of the refusals stands
none_no_token : (stop : ℕ) (lexeme after : List ℕ) (kind : TokenKind) (error : LexError) → IsTaken lexeme after → IsOfKind lexeme kind → ¬ BeginsNone stop (lexeme ++ after) error
none_no_token stop lexeme after kind (BadByte at) taken is none = bad_byte_no_lexeme lexeme after taken.whole none.1
none_no_token stop lexeme after kind (OpenComment at) taken is none = taken.no_comment (inr (none.1.0, none.1.1))
none_no_token stop lexeme after kind (BadNumber at) taken is none =
    let bad = none.1 in
    let one = taken_unique lexeme (bad.first ∷ bad.others) after bad.after taken bad.taken bad.split in
    let number = digit_kind lexeme kind (ap (λ l. is_ascii_digit (get_or l 0 0)) one.0 ∙ bad.digit) is in
    bad.no_number number.0 number.1 (subst (λ word. IsNumber word number.0) one.0 number.2)
none_no_token stop lexeme after kind Memory taken is none = none

-- one refusal stands at one place
bad_byte_no_number : (rest : List ℕ) → BeginsWithBadByte rest → ¬ BeginsWithBadNumber rest
bad_byte_no_number rest byte number =
    bad_byte_no_lexeme (number.first ∷ number.others) number.after number.taken.whole (subst BeginsWithBadByte number.split byte)

open_no_number : (rest : List ℕ) → IsOpenComment rest → ¬ BeginsWithBadNumber rest
open_no_number rest open_at number = number.taken.no_comment (inr (open_at.0, sym number.split ∙ open_at.1))

open_no_byte : (rest : List ℕ) → IsOpenComment rest → ¬ BeginsWithBadByte rest
open_no_byte rest open_at bad = bad_byte_no_comment rest bad (inr (open_at.0, open_at.1))

none_unique : (stop : ℕ) (rest : List ℕ) (error other : LexError) → BeginsNone stop rest error → BeginsNone stop rest other → error ≡ other
none_unique stop rest (BadByte at) (BadByte at') none none' = ap BadByte (none.0 ∙ sym none'.0)
none_unique stop rest (BadByte at) (OpenComment at') none none' = absurd (open_no_byte rest none'.1 none.1)
none_unique stop rest (BadByte at) (BadNumber at') none none' = absurd (bad_byte_no_number rest none.1 none'.1)
none_unique stop rest (OpenComment at) (BadByte at') none none' = absurd (open_no_byte rest none.1 none'.1)
none_unique stop rest (OpenComment at) (OpenComment at') none none' = ap OpenComment (none.0 ∙ sym none'.0)
none_unique stop rest (OpenComment at) (BadNumber at') none none' = absurd (open_no_number rest none.1 none'.1)
none_unique stop rest (BadNumber at) (BadByte at') none none' = absurd (bad_byte_no_number rest none'.1 none.1)
none_unique stop rest (BadNumber at) (OpenComment at') none none' = absurd (open_no_number rest none'.1 none.1)
none_unique stop rest (BadNumber at) (BadNumber at') none none' = ap BadNumber (none.0 ∙ sym none'.0)
none_unique stop rest Memory other none none' = absurd none
none_unique stop rest _ Memory none none' = absurd none'

nothing_is_none : (stop : ℕ) (error : LexError) → ¬ BeginsNone stop [] error
nothing_is_none stop (BadByte at) none = none.1
nothing_is_none stop (OpenComment at) none = let nothing = none.1.1 in cc
nothing_is_none stop (BadNumber at) none = let nothing = none.1.split in cc
nothing_is_none stop Memory none = none

-- how a source ends: with its tokens, or where none begins
Ends : ℕ → List ℕ → Option LexError → Type 0
Ends stop rest None = rest ≡ []
Ends stop rest (Some error) = BeginsNone stop rest error

ends_no_gap : (stop : ℕ) (rest : List ℕ) (end : Option LexError) → Ends stop rest end → BeginsNoGap rest
unfolding Ends
ends_no_gap stop rest None ends = record {
  no_space = λ b more same white. absurd (let nothing : b ∷ more ≡ [] = sym same ∙ ends in cc);
  no_comment = λ text after same is. ⊎_elim
      (λ line. let nothing : 47 ∷ line.0 ≡ [] = sym line.1 ∙ ends in cc)
      (λ block. let nothing : 47 ∷ block.0 ≡ [] = sym block.1 ∙ ends in cc)
      (shorten (subst BeginsComment (sym same) (comment_begins text after is)));
} where
  shorten : BeginsComment rest → ((more : List ℕ) × (rest ≡ 47 ∷ more)) ⊎ ((more : List ℕ) × (rest ≡ 47 ∷ more))
  shorten begun = ⊎_elim (λ line. inl (47 ∷ line.0, line.1)) (λ block. inr (42 ∷ block.0, block.1)) begun
ends_no_gap stop rest (Some error) ends = none_no_gap stop rest error ends

ends_no_token : (stop : ℕ) (lexeme after : List ℕ) (kind : TokenKind) (end : Option LexError) → IsTaken lexeme after → IsOfKind lexeme kind → ¬ Ends stop (lexeme ++ after) end
unfolding Ends
ends_no_token stop [] after kind None taken is ends = ⊎_elim (λ word. word) (λ mark. let long = ap length mark.1 in let some = mark_text-some mark.0 in omega arith) taken.whole
ends_no_token stop (b ∷ lexeme) after kind None taken is ends = absurd (cc)
ends_no_token stop lexeme after kind (Some error) taken is ends = none_no_token stop lexeme after kind error taken is ends

ends_unique : (stop : ℕ) (rest : List ℕ) (end other : Option LexError) → Ends stop rest end → Ends stop rest other → end ≡ other
unfolding Ends
ends_unique stop rest None None ends ends' = refl
ends_unique stop rest None (Some error) ends ends' = absurd (nothing_is_none stop error (subst (λ l. BeginsNone stop l error) ends ends'))
ends_unique stop rest (Some error) None ends ends' = absurd (nothing_is_none stop error (subst (λ l. BeginsNone stop l error) ends' ends))
ends_unique stop rest (Some error) (Some other) ends ends' = ap Some (none_unique stop rest error other ends ends')

-- tokens are equal by their fields
token_same : (token other : Token) → token.kind ≡ other.kind → token.at ≡ other.at → token.length ≡ other.length → token ≡ other
token_same token other kinds places sizes = λ i. record { kind = kinds i; at = places i; length = sizes i }

-- what a text leads to is determined
leads_unique : (at : ℕ) (text : List ℕ) (tokens others : List Token) (stop stop' : ℕ) (rest rest' : List ℕ) (end end' : Option LexError) → LeadsTo at text tokens stop rest → LeadsTo at text others stop' rest' → Ends stop rest end → Ends stop' rest' end' → (tokens ≡ others) × (end ≡ end')
leads_unique at text [] [] stop stop' rest rest' end end' leads leads' ends ends' =
    let one = gap_unique leads.gap leads'.gap rest rest' leads.between leads'.between (sym leads.split ∙ leads'.split) (ends_no_gap stop rest end ends) (ends_no_gap stop' rest' end' ends') in
    let places : stop' ≡ stop = leads'.place ∙ ap (λ gap. at + length gap) (sym one.0) ∙ sym leads.place in
    (refl, ends_unique stop rest end end' ends (subst (λ l. Ends stop l end') (sym one.1) (subst (λ s. Ends s rest' end') places ends')))
leads_unique at text [] (other ∷ others) stop stop' rest rest' end end' leads leads' ends ends' =
    let first = leads'.1 in
    let one = gap_unique leads.gap first.gap rest (first.lexeme ++ leads'.0) leads.between first.between (sym leads.split ∙ first.split) (ends_no_gap stop rest end ends) (taken_no_gap first.lexeme leads'.0 first.taken) in
    absurd (ends_no_token stop first.lexeme leads'.0 other.kind end first.taken first.kind (subst (λ l. Ends stop l end) one.1 ends))
leads_unique at text (token ∷ tokens) [] stop stop' rest rest' end end' leads leads' ends ends' =
    let first = leads.1 in
    let one = gap_unique leads'.gap first.gap rest' (first.lexeme ++ leads.0) leads'.between first.between (sym leads'.split ∙ first.split) (ends_no_gap stop' rest' end' ends') (taken_no_gap first.lexeme leads.0 first.taken) in
    absurd (ends_no_token stop' first.lexeme leads.0 token.kind end' first.taken first.kind (subst (λ l. Ends stop' l end') one.1 ends'))
leads_unique at text (token ∷ tokens) (other ∷ others) stop stop' rest rest' end end' leads leads' ends ends' =
    let a = leads.1 in
    let b = leads'.1 in
    let gaps = gap_unique a.gap b.gap (a.lexeme ++ leads.0) (b.lexeme ++ leads'.0) a.between b.between (sym a.split ∙ b.split) (taken_no_gap a.lexeme leads.0 a.taken) (taken_no_gap b.lexeme leads'.0 b.taken) in
    let lexemes = taken_unique a.lexeme b.lexeme leads.0 leads'.0 a.taken b.taken gaps.1 in
    let same_kind = kind_unique a.lexeme token.kind other.kind a.kind (subst (λ l. IsOfKind l other.kind) (sym lexemes.0) b.kind) in
    let same_place : token.at ≡ other.at = a.place ∙ ap (λ gap. at + length gap) gaps.0 ∙ sym b.place in
    let same_size : token.length ≡ other.length = a.extent ∙ ap length lexemes.0 ∙ sym b.extent in
    let same_token = token_same token other same_kind same_place same_size in
    let next : LeadsTo (token.at + token.length) leads.0 others stop' rest' = subst (λ l. LeadsTo (token.at + token.length) l others stop' rest') (sym lexemes.1) (subst (λ t. LeadsTo (t.at + t.length) leads'.0 others stop' rest') (sym same_token) leads'.2) in
    let more = leads_unique (token.at + token.length) leads.0 tokens others stop stop' rest rest' end end' leads.2 next ends ends' in
    ((λ i. same_token i ∷ more.0 i), more.1)

-- the three laws
pub one_list : (source : List ℕ) (tokens others : List Token) → AreTokensOf source tokens → AreTokensOf source others → tokens ≡ others
unfolding Ends
one_list source tokens others are are' = (leads_unique 0 source tokens others are.0 are'.0 [] [] None None are.1 are'.1 refl refl).0

pub never_both : (source : List ℕ) (tokens : List Token) (error : LexError) → AreTokensOf source tokens → ¬ IsLexErrorOf source error
unfolding Ends
never_both source tokens error are is = let ends = (leads_unique 0 source tokens is.tokens are.0 is.stop [] is.rest None (Some error) are.1 is.leads refl is.none).1 in cc

pub one_error : (source : List ℕ) (error other : LexError) → IsLexErrorOf source error → IsLexErrorOf source other → error ≡ other
unfolding Ends
one_error source error other is is' = let ends = (leads_unique 0 source is.tokens is'.tokens is.stop is'.stop is.rest is'.rest (Some error) (Some other) is.leads is'.leads is.none is'.none).1 in cc
