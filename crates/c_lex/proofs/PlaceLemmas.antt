-- The tokens of a source stand in it, and their bytes spell them.
use Rattle.c_lex.proofs.Common.{ℕ, ◌≡◌, ◌<◌, ◌+◌, ⊎_elim, List, [], ◌∷◌, ◌++◌, length, take, drop, sym, ap, ◌∙◌, subst, arith, append_assoc, AllByRecursion, length-append, take_at, drop_at, Token, IsTaken, IsOfKind, BeginsWithToken, LeadsTo, AreTokensOf}
use Rattle.c_lex.specs.Places.{StandInOrder, lexeme_of}
use Rattle.c_lex.proofs.MarkTable.{mark_text-some}
use Rattle.c_lex.proofs.TakenLemmas.{IsWord-some}

taken_some : (lexeme after : List ℕ) → IsTaken lexeme after → 0 < length lexeme
taken_some lexeme after taken =
    ⊎_elim (λ word. IsWord-some lexeme word) (λ mark. let long = ap length mark.1 in let some = mark_text-some mark.0 in omega arith) taken.whole

-- what stands before a token, the token, and what comes after it
module _ (front text after : List ℕ) (token : Token) (first : BeginsWithToken (length front) text token after) where
  before : List ℕ
  before = front ++ first.gap

  place : token.at ≡ length before
  unfolding before
  place = first.place ∙ sym (length-append front first.gap)

  whole : front ++ text ≡ before ++ (first.lexeme ++ after)
  unfolding before
  whole = ap (λ l. front ++ l) first.split ∙ sym (append_assoc front first.gap (first.lexeme ++ after))

  pub bytes : lexeme_of (front ++ text) token ≡ first.lexeme
  bytes =
      ap (λ l. take token.length (drop token.at l)) whole
      ∙ ap (take token.length) (drop_at before (first.lexeme ++ after) token.at (sym place))
      ∙ take_at first.lexeme after token.length (sym first.extent)

  pub through : (l : List ℕ) × (l ++ after ≡ front ++ text) × (length l ≡ token.at + token.length)
  through = (before ++ first.lexeme, append_assoc before first.lexeme after ∙ sym whole, (let long = length-append before first.lexeme in omega (arith, place, first.extent)))

pub stand_from : (front text : List ℕ) (tokens : List Token) (stop : ℕ) (rest : List ℕ) → LeadsTo (length front) text tokens stop rest → StandInOrder (length front) tokens (length (front ++ text))
stand_from front text [] stop rest leads = let long = length-append front text in omega arith
stand_from front text (token ∷ tokens) stop rest leads =
    let next = through front text leads.0 token leads.1 in
    let more = stand_from next.0 leads.0 tokens stop rest (subst (λ n. LeadsTo n leads.0 tokens stop rest) (sym next.2) leads.2) in (
      omega (arith, leads.1.place),
      omega (arith, leads.1.extent, taken_some leads.1.lexeme leads.0 leads.1.taken),
      subst (λ n. StandInOrder n tokens (length (front ++ text))) next.2 (subst (λ l. StandInOrder (length next.0) tokens (length l)) next.1 more),
    )

pub spelled_from : (front text : List ℕ) (tokens : List Token) (stop : ℕ) (rest : List ℕ) → LeadsTo (length front) text tokens stop rest → AllByRecursion (λ token. IsOfKind (lexeme_of (front ++ text) token) token.kind) tokens
spelled_from front text [] stop rest leads = tt
spelled_from front text (token ∷ tokens) stop rest leads =
    let next = through front text leads.0 token leads.1 in
    let more = spelled_from next.0 leads.0 tokens stop rest (subst (λ n. LeadsTo n leads.0 tokens stop rest) (sym next.2) leads.2) in (
      subst (λ l. IsOfKind l token.kind) (sym (bytes front text leads.0 token leads.1)) leads.1.kind,
      subst (λ l. AllByRecursion (λ token. IsOfKind (lexeme_of l token) token.kind) tokens) next.1 more,
    )

pub tokens_stand : (source : List ℕ) (tokens : List Token) → AreTokensOf source tokens → StandInOrder 0 tokens (length source)
tokens_stand source tokens are = stand_from [] source tokens are.0 [] are.1

pub tokens_spelled : (source : List ℕ) (tokens : List Token) → AreTokensOf source tokens → AllByRecursion (λ token. IsOfKind (lexeme_of source token) token.kind) tokens
tokens_spelled source tokens are = spelled_from [] source tokens are.0 [] are.1
