-- One piece more leads on.
use Rattle.c_lex.proofs.Common.{ℕ, ◌≡◌, ◌≤◌, ◌+◌, List, [], ◌∷◌, ◌++◌, length, take, drop, refl, sym, ap, ◌∙◌, subst, arith, append_assoc, append-nil, length-append, length-take-le, take-append-drop, drop-drop, drop_all, Token, TokenKind, IsComment, IsGap, nothing, space, comment, IsTaken, LexError, LeadsTo, AreTokensOf, BeginsNone, IsLexErrorOf, IsFirstGap, IsFirstToken}

-- a gap and a gap are one
pub IsGap-append_at : (front whole gap after : List ℕ) → whole ≡ gap ++ after → IsGap front whole → IsGap gap after → IsGap (front ++ gap) after
IsGap-append_at [] whole gap after split nothing more = more
IsGap-append_at (b ∷ front) whole gap after split (space white rest) more = space white (IsGap-append_at front whole gap after split rest more)
IsGap-append_at front whole gap after split (comment text rest same is others) more =
    comment text (rest ++ gap)
    (ap (λ l. l ++ gap) same ∙ append_assoc text rest gap)
    (subst (IsComment text) (ap (λ l. rest ++ l) split ∙ sym (append_assoc rest gap after)) is)
    (IsGap-append_at rest whole gap after split others more)

pub IsGap-append : (front gap after : List ℕ) → IsGap front (gap ++ after) → IsGap gap after → IsGap (front ++ gap) after
IsGap-append front gap after is more = IsGap-append_at front (gap ++ after) gap after refl is more

-- what a rest leads to, the text leads to that has a gap before it
pub LeadsTo-gap : (at : ℕ) (text gap rest : List ℕ) (tokens : List Token) (stop : ℕ) (end : List ℕ) → text ≡ gap ++ rest → IsGap gap rest → LeadsTo (at + length gap) rest tokens stop end → LeadsTo at text tokens stop end
LeadsTo-gap at text gap rest [] stop end split is last = record {
  gap = gap ++ last.gap;
  split = split ∙ ap (λ l. gap ++ l) last.split ∙ sym (append_assoc gap last.gap end);
  between = IsGap-append gap last.gap end (subst (IsGap gap) last.split is) last.between;
  place = let long = length-append gap last.gap in omega (arith, last.place);
}
LeadsTo-gap at text gap rest (token ∷ tokens) stop end split is leads =
    let first = leads.1 in (
      leads.0,
      record {
        gap = gap ++ first.gap;
        lexeme = first.lexeme;
        split = split ∙ ap (λ l. gap ++ l) first.split ∙ sym (append_assoc gap first.gap (first.lexeme ++ leads.0));
        between = IsGap-append gap first.gap (first.lexeme ++ leads.0) (subst (IsGap gap) first.split is) first.between;
        taken = first.taken;
        kind = first.kind;
        place = let long = length-append gap first.gap in omega (arith, first.place);
        extent = first.extent;
      },
      leads.2,
    )

-- the text before a place, and after it
pub gap_step : (source : List ℕ) (at size : ℕ) (tokens : List Token) (stop : ℕ) (end : List ℕ) → IsFirstGap (drop at source) size → LeadsTo (at + size) (drop (at + size) source) tokens stop end → LeadsTo at (drop at source) tokens stop end
gap_step source at size tokens stop end first leads =
    let rest = drop-drop size at source in
    let long = length-take-le size (drop at source) first.within in
    LeadsTo-gap at (drop at source) (take size (drop at source)) (drop size (drop at source)) tokens stop end (sym (take-append-drop size (drop at source))) first.between (rw (long, rest) leads)

pub token_step : (source : List ℕ) (at size : ℕ) (kind : TokenKind) (tokens : List Token) (stop : ℕ) (end : List ℕ) → IsFirstToken (drop at source) kind size → LeadsTo (at + size) (drop (at + size) source) tokens stop end → LeadsTo at (drop at source) (record { kind = kind; at = at; length = size } ∷ tokens) stop end
token_step source at size kind tokens stop end first leads =
    let rest = drop-drop size at source in (
      drop (at + size) source,
      record {
        gap = [];
        lexeme = take size (drop at source);
        split = sym (take-append-drop size (drop at source)) ∙ ap (λ l. take size (drop at source) ++ l) rest;
        between = nothing;
        taken = subst (IsTaken (take size (drop at source))) rest first.taken;
        kind = first.of_kind;
        place = omega arith;
        extent = sym (length-take-le size (drop at source) first.within);
      },
      leads,
    )

-- where nothing is taken
pub LeadsTo-here : (at : ℕ) (text : List ℕ) → LeadsTo at text [] at text
LeadsTo-here at text = record { gap = []; split = refl; between = nothing; place = omega arith }

-- what stands where nothing more is taken
pub refused_at : (source : List ℕ) (tokens : List Token) (place : ℕ) (error : LexError) → ((more : List Token) (stop : ℕ) (end : List ℕ) → LeadsTo place (drop place source) more stop end → LeadsTo 0 source (tokens ++ more) stop end) → BeginsNone place (drop place source) error → IsLexErrorOf source error
refused_at source tokens place error leads none = record {
  tokens = tokens ++ [];
  stop = place;
  rest = drop place source;
  leads = leads [] place (drop place source) (LeadsTo-here place (drop place source));
  none = none;
}

pub all_taken : (source : List ℕ) (tokens : List Token) (place : ℕ) → ((more : List Token) (stop : ℕ) (end : List ℕ) → LeadsTo place (drop place source) more stop end → LeadsTo 0 source (tokens ++ more) stop end) → length source ≤ place → AreTokensOf source tokens
all_taken source tokens place leads past =
    let none : drop place source ≡ [] = drop_all place source past in
    (place, subst (λ items. LeadsTo 0 source items place []) (append-nil tokens) (leads [] place [] (subst (λ l. LeadsTo place l [] place []) (sym none) (LeadsTo-here place []))))
