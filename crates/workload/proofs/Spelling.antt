-- Texts that are written token by token: the tokens that they have, and where these stand.
use Rattle.workload.proofs.Common.{ℕ, zero, suc, ◌≡◌, ◌+◌, List, [], ◌∷◌, ◌++◌, length, take, drop, refl, sym, ap, ◌∙◌, subst, arith, append_assoc, length-append, drop-drop, Token, Keyword, Mark, IsGap, keyword_text, mark_text, IsTaken, IsOfKind, LeadsTo}
use Rattle.std.proofs.Math.Seq.{drop-append_seam, take-append_seam}
use Rattle.c_lex.specs.declared.tokens.TokenKind.{TokenKind}
use Rattle.c_lex.specs.declared.tokens.TokenKind.TheVariants as kinds
use Rattle.c_lex.specs.Places.{lexeme_of}
use Rattle.c_lex.proofs.Leads.{IsGap-append}

-- a token as it is written: the white space before it, its bytes, and what it is
pub record Written : Type 0 where
  pub gap : List ℕ
  pub lexeme : List ℕ
  pub kind : TokenKind

-- written behind nothing, and behind a blank
abbrev pub close : List ℕ
close = []

abbrev pub blank : List ℕ
blank = 32 ∷ []

abbrev pub keyword : List ℕ → Keyword → Written
keyword gap k = record { gap = gap; lexeme = keyword_text k; kind = kinds.Keyword k }

abbrev pub mark : List ℕ → Mark → Written
mark gap m = record { gap = gap; lexeme = mark_text m; kind = kinds.Mark m }

abbrev pub name : List ℕ → List ℕ → Written
name gap text = record { gap = gap; lexeme = text; kind = kinds.Name }

abbrev pub number : List ℕ → List ℕ → ℕ → Written
number gap text value = record { gap = gap; lexeme = text; kind = kinds.Number value }

-- the text of tokens as they are written, with what comes after them
abbrev pub spell : List Written → List ℕ → List ℕ
spell [] after = after
spell (w ∷ ws) after = w.gap ++ (w.lexeme ++ spell ws after)

-- the place behind a token whose white space begins at this place, and behind several
abbrev pub past : ℕ → Written → ℕ
past at w = (at + length w.gap) + length w.lexeme

abbrev pub end_of : ℕ → List Written → ℕ
end_of at [] = at
end_of at (w ∷ ws) = end_of (past at w) ws

-- the token, and the tokens, with those that come after them
abbrev pub token_of : ℕ → Written → Token
token_of at w = record { kind = w.kind; at = at + length w.gap; length = length w.lexeme }

abbrev pub tokens_of : ℕ → List Written → List Token → List Token
tokens_of at [] more = more
tokens_of at (w ∷ ws) more = token_of at w ∷ tokens_of (past at w) ws more

-- the place where the white space of token k begins, the tokens from it on, and the place of the token itself
abbrev pub start_of : ℕ → ℕ → List Written → ℕ
start_of (suc k) at (w ∷ ws) = start_of k (past at w) ws
start_of _ at _ = at

abbrev pub from : ℕ → List Written → List Written
from zero ws = ws
from (suc k) [] = []
from (suc k) (w ∷ ws) = from k ws

abbrev pub place_of : ℕ → List Written → ℕ → ℕ
place_of at [] k = at
place_of at (w ∷ ws) zero = at + length w.gap
place_of at (w ∷ ws) (suc k) = place_of (past at w) ws k

-- in front of this text, white space is white space and the token is taken whole
pub record IsWritten (w : Written) (after : List ℕ) : Type 0 where
  pub gap : IsGap w.gap (w.lexeme ++ after)
  pub taken : IsTaken w.lexeme after
  pub kind : IsOfKind w.lexeme w.kind

abbrev pub AreWritten : List Written → List ℕ → Type 0
AreWritten [] after = Unit {0}
AreWritten (w ∷ ws) after = IsWritten w (spell ws after) × AreWritten ws after

-- the place behind all
pub end_is : (at : ℕ) (ws : List Written) (after : List ℕ) → at + length (spell ws after) ≡ end_of at ws + length after
end_is at [] after = refl
end_is at (w ∷ ws) after =
    let long = length-append w.gap (w.lexeme ++ spell ws after) in
    let more = length-append w.lexeme (spell ws after) in
    let rest = end_is (past at w) ws after in
    omega arith

-- what a rest leads to, the text leads to that has white space before it
pub leads_gap : (at : ℕ) (gap rest : List ℕ) (tokens : List Token) (stop : ℕ) (end : List ℕ) → IsGap gap rest → LeadsTo (at + length gap) rest tokens stop end → LeadsTo at (gap ++ rest) tokens stop end
leads_gap at gap rest [] stop end is last = record {
  gap = gap ++ last.gap;
  split = ap (λ l. gap ++ l) last.split ∙ sym (append_assoc gap last.gap end);
  between = IsGap-append gap last.gap end (subst (IsGap gap) last.split is) last.between;
  place = let long = length-append gap last.gap in omega (arith, last.place);
}
leads_gap at gap rest (token ∷ tokens) stop end is leads =
    let first = leads.1 in (
      leads.0,
      record {
        gap = gap ++ first.gap;
        lexeme = first.lexeme;
        split = ap (λ l. gap ++ l) first.split ∙ sym (append_assoc gap first.gap (first.lexeme ++ leads.0));
        between = IsGap-append gap first.gap (first.lexeme ++ leads.0) (subst (IsGap gap) first.split is) first.between;
        taken = first.taken;
        kind = first.kind;
        place = let long = length-append gap first.gap in omega (arith, first.place);
        extent = first.extent;
      },
      leads.2,
    )

-- tokens that are written one after another lead on to what comes after them
pub leads_on : (at : ℕ) (ws : List Written) (after : List ℕ) (more : List Token) (stop : ℕ) (end : List ℕ) → AreWritten ws after → LeadsTo (end_of at ws) after more stop end → LeadsTo at (spell ws after) (tokens_of at ws more) stop end
leads_on at [] after more stop end are leads = leads
leads_on at (w ∷ ws) after more stop end are leads = (
  spell ws after,
  record { gap = w.gap; lexeme = w.lexeme; split = refl; between = are.0.gap; taken = are.0.taken; kind = are.0.kind; place = refl; extent = refl },
  leads_on (past at w) ws after more stop end are.1 leads,
)

-- from this place on the source is these tokens as they are written, and what comes after them
pub record Stands (source : List ℕ) (at : ℕ) (ws : List Written) (after : List ℕ) : Type 0 where
  pub same : drop at source ≡ spell ws after

drop_past : (source : List ℕ) (at n : ℕ) (front back : List ℕ) → drop at source ≡ front ++ back → n ≡ length front → drop (at + n) source ≡ back
drop_past source at n front back same long =
    sym (drop-drop n at source) ∙ ap (drop n) same ∙ ap (λ k. drop k (front ++ back)) long ∙ drop-append_seam front back

pub stands_next : (source : List ℕ) (at : ℕ) (w : Written) (ws : List Written) (after : List ℕ) → Stands source at (w ∷ ws) after → Stands source (past at w) ws after
stands_next source at w ws after s = record {
  same = drop_past source (at + length w.gap) (length w.lexeme) w.lexeme (spell ws after) (drop_past source at (length w.gap) w.gap (w.lexeme ++ spell ws after) s.same refl) refl;
}

pub stands_from : (k : ℕ) (source : List ℕ) (at : ℕ) (ws : List Written) (after : List ℕ) → Stands source at ws after → Stands source (start_of k at ws) (from k ws) after
stands_from (suc k) source at (w ∷ ws) after s = stands_from k source (past at w) ws after (stands_next source at w ws after s)
stands_from _ source at _ after s = s

-- the bytes of the source at a token's place are those that were written
pub lexeme_is : (source : List ℕ) (at : ℕ) (w : Written) (ws : List Written) (after : List ℕ) → Stands source at (w ∷ ws) after → lexeme_of source (token_of at w) ≡ w.lexeme
lexeme_is source at w ws after s =
    ap (take (length w.lexeme)) (drop_past source at (length w.gap) w.gap (w.lexeme ++ spell ws after) s.same refl) ∙ take-append_seam w.lexeme (spell ws after)

-- a text in a source stands behind what is before it
pub stands_at : (source front : List ℕ) (ws : List Written) (after : List ℕ) → source ≡ front ++ spell ws after → Stands source (length front) ws after
stands_at source front ws after same = record { same = ap (drop (length front)) same ∙ drop-append_seam front (spell ws after) }
