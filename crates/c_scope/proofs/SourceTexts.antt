-- A source text is one program, or has one refusal.
use Rattle.std.proofs.Common.{ℕ, ◌≡◌, ◌≢◌, ◌⊎◌, inl, inr, refl, sym, ap, subst, ◌∙◌, List, Option, Result, Ok, Err}
use Rattle.std.specs.Prelude.{IfOk, IfErr, IsErrOf, MatchResult}
use Rattle.c_lex.specs.declared.tokens.Token.{Token}
use Rattle.c_lex.specs.declared.tokens.LexError.{LexError}
use Rattle.c_lex.specs.Tokens.{AreTokensOf, IsLexErrorOf}
use Rattle.c_lex.proofs.Unique.{one_list, never_both, one_error}
use Rattle.c_tree.specs.RawTrees.{RawItemTree}
use Rattle.c_tree.specs.Trees.{ProgramTree}
use Rattle.c_tree.specs.ProgramView.{program_tree}
use Rattle.c_tree.specs.declared.programs.Program.{Program}
use Rattle.c_grammar.specs.declared.errors.ParseError.{ParseError}
use Rattle.c_grammar.specs.Grammar.{IsProgram}
use Rattle.c_parse.specs.Parsed.{IsRefusedWhere}
use Rattle.c_parse.proofs.ParseRules as parsing
use Rattle.grammar_laws.proofs.TreeUnique.{program_unique}
use Rattle.scope_rules.specs.declared.errors.ScopeError.{ScopeError}
use Rattle.c_scope.specs.declared.source_errors.SourceError.{SourceError}
use Rattle.c_scope.specs.declared.source_errors.SourceError.TheVariants as refusals
use Rattle.scope_rules.specs.Outcomes.{IsNoMemory}
use Rattle.c_scope.specs.SourceText.{ReadsWhere, IsNoTreeWhere, IsNoProgramWhere, IsSourceErrorWhere, by_lex, by_parse, by_scope}

-- over the first call that is nested where it may not be, what a tree is resolved to and refused for, and a source
module _ (first_nested : List RawItemTree → Option ℕ) (Resolved : List RawItemTree → ProgramTree → Type 0) (Refused : List RawItemTree → ScopeError → Type 0)
    (one_resolved : (t : List RawItemTree) (p q : ProgramTree) → Resolved t p → Resolved t q → p ≡ q)
    (never_resolved : (t : List RawItemTree) (p : ProgramTree) (x : ScopeError) → Resolved t p → Refused t x → IsNoMemory x → ⊥)
    (one_refused : (t : List RawItemTree) (x y : ScopeError) → Refused t x → IsNoMemory x → Refused t y → IsNoMemory y → x ≡ y) (source : List ℕ) where
  abbrev Reads : ProgramTree → Type 0
  Reads p = ReadsWhere first_nested Resolved source p

  abbrev IsError : SourceError → Type 0
  IsError e = IsSourceErrorWhere first_nested Refused source e

  abbrev IsErrorOrMemory : SourceError → Type 0
  IsErrorOrMemory e = e ≢ refusals.Memory → IsError e

  -- which reader refuses
  data Stage (e : SourceError) : Type 0 where
    by_tokens : (x : LexError) → e ≡ by_lex x → IsLexErrorOf source x → Stage e
    by_tree : (x : ParseError) → e ≡ by_parse x → IsNoTreeWhere first_nested source x → Stage e
    by_rules : (x : ScopeError) → e ≡ by_scope x → IsNoProgramWhere first_nested Refused source x → IsNoMemory x → Stage e

  stage : (e : SourceError) → IsError e → Stage e
  stage (refusals.BadByte at) h = by_tokens (LexError.BadByte at) refl h
  stage (refusals.OpenComment at) h = by_tokens (LexError.OpenComment at) refl h
  stage (refusals.BadNumber at) h = by_tokens (LexError.BadNumber at) refl h
  stage (refusals.Unexpected at) h = by_tree (ParseError.Unexpected at) refl h
  stage (refusals.TooDeep at) h = by_tree (ParseError.TooDeep at) refl h
  stage (refusals.NestedCall at) h = by_tree (ParseError.NestedCall at) refl h
  stage (refusals.Unknown at) h = by_rules (ScopeError.Unknown at) refl h tt
  stage (refusals.Twice at) h = by_rules (ScopeError.Twice at) refl h tt
  stage (refusals.Arity at) h = by_rules (ScopeError.Arity at) refl h tt
  stage (refusals.Kind at) h = by_rules (ScopeError.Kind at) refl h tt
  stage refusals.NoMain h = by_rules ScopeError.NoMain refl h tt
  stage (refusals.Limit which) h = by_rules (ScopeError.Limit which) refl h tt
  stage refusals.Memory h = absurd h

  -- one list of tokens, and one tree
  refused_at : (ts : List Token) (x : ParseError) → AreTokensOf source ts → IsNoTreeWhere first_nested source x → IsRefusedWhere first_nested source ts x
  refused_at ts x l h = let P : List Token → Type 0 = λ us. IsRefusedWhere first_nested source us x in subst P (one_list source h.tokens ts h.lexed l) h.refused

  one_tree : (tokens others : List Token) (t u : List RawItemTree) → AreTokensOf source tokens → AreTokensOf source others
      → IsProgram source tokens t → IsProgram source others u → t ≡ u
  one_tree tokens others t u l m h k =
      let P : List Token → Type 0 = λ ts. IsProgram source ts t in
      program_unique source others t u (subst P (one_list source tokens others l m) h) k

  never_stage : (p : ProgramTree) (e : SourceError) → Reads p → Stage e → ⊥
  never_stage p e r (by_tokens x q h) = never_both source r.tokens x r.lexed h
  never_stage p e r (by_tree x q h) = parsing.no_error first_nested source r.tokens r.tree x r.parsed (refused_at r.tokens x r.lexed h)
  never_stage p e r (by_rules x q h n) =
      let P : List RawItemTree → Type 0 = λ t. Resolved t p in
      never_resolved h.tree p x (subst P (one_tree r.tokens h.tokens r.tree h.tree r.lexed h.lexed r.parsed.tree h.parsed.tree) r.resolved) h.refused n

  one_stage : (e d : SourceError) → Stage e → Stage d → e ≡ d
  one_stage e d (by_tokens x p h) (by_tokens y q k) = p ∙ (ap by_lex (one_error source x y h k) ∙ sym q)
  one_stage e d (by_tokens x p h) (by_tree y q k) = absurd (never_both source k.tokens x k.lexed h)
  one_stage e d (by_tokens x p h) (by_rules y q k n) = absurd (never_both source k.tokens x k.lexed h)
  one_stage e d (by_tree x p h) (by_tokens y q k) = absurd (never_both source h.tokens y h.lexed k)
  one_stage e d (by_tree x p h) (by_tree y q k) =
      p ∙ (ap by_parse (parsing.one_error first_nested source k.tokens x y (refused_at k.tokens x k.lexed h) k.refused) ∙ sym q)
  one_stage e d (by_tree x p h) (by_rules y q k n) = absurd (parsing.no_error first_nested source k.tokens k.tree x k.parsed (refused_at k.tokens x k.lexed h))
  one_stage e d (by_rules x p h n) (by_tokens y q k) = absurd (never_both source h.tokens y h.lexed k)
  one_stage e d (by_rules x p h n) (by_tree y q k) = absurd (parsing.no_error first_nested source h.tokens h.tree y h.parsed (refused_at h.tokens y h.lexed k))
  one_stage e d (by_rules x p h n) (by_rules y q k m) =
      let P : List RawItemTree → Type 0 = λ t. Refused t x in
      let t = subst P (one_tree h.tokens k.tokens h.tree k.tree h.lexed k.lexed h.parsed.tree k.parsed.tree) h.refused in
      p ∙ (ap by_scope (one_refused k.tree x y t n k.refused m) ∙ sym q)

  pub never : (p : ProgramTree) (e : SourceError) → Reads p → IsError e → ⊥
  never p e r h = never_stage p e r (stage e h)

  pub one_source_error : (e d : SourceError) → IsError e → IsError d → e ≡ d
  one_source_error e d h k = one_stage e d (stage e h) (stage d k)

  pub one_program : (p q : ProgramTree) → Reads p → Reads q → p ≡ q
  one_program p q r s =
      let P : List RawItemTree → Type 0 = λ t. Resolved t p in
      let t = subst P (one_tree r.tokens s.tokens r.tree s.tree r.lexed s.lexed r.parsed.tree s.parsed.tree) r.resolved in
      one_resolved s.tree p q t s.resolved

  pub only_program : (r : Result Program SourceError) → IfOk r (λ p. Reads (program_tree p)) → IfErr r IsErrorOrMemory
      → (p : ProgramTree) → Reads p → MatchResult r (λ q. program_tree q ≡ p) (λ e. e ≡ refusals.Memory)
  only_program (Ok q) h k p s = one_program (program_tree q) p h s
  only_program (Err refusals.Memory) h k p s = refl
  only_program (Err e) h k p s = absurd (never p e s (k (λ x. cc)))

  pub only_refusal : (r : Result Program SourceError) → IfOk r (λ p. Reads (program_tree p)) → IfErr r IsErrorOrMemory
      → (e : SourceError) → IsError e → IsErrOf r e ⊎ IsErrOf r refusals.Memory
  only_refusal (Ok p) h k e s = absurd (never (program_tree p) e h s)
  only_refusal (Err refusals.Memory) h k e s = inr refl
  only_refusal (Err d) h k e s = inl (ap Err (one_source_error d e (k (λ x. cc)) s))
