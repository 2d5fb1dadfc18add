-- What the machine's run from the start says of the tokens of a source, and that they have one tree or one refusal.
use Rattle.std.specs.Prelude.{IfOk, IfErr, IsErrOf, MatchResult}
use Rattle.c_lex.specs.declared.tokens.Token.{Token}
use Rattle.c_parse.proofs.Common.{ℕ, ◌≡◌, ◌≢◌, ◌⊎◌, inl, inr, refl, ap, subst, List, [], ◌∷◌, length, Option, Some, None, Result, Ok, Err, RawItemTree}
use Rattle.c_tree.specs.RawProgramView.{raw_program_tree}
use Rattle.c_tree.specs.declared.raw_programs.RawProgram.{RawProgram}
use Rattle.c_grammar.specs.declared.errors.ParseError.{ParseError}
use Rattle.c_grammar.specs.declared.errors.ParseError.TheVariants.{Unexpected, TooDeep, NestedCall, Memory}
use Rattle.c_grammar.specs.Machine as tasks
use Rattle.c_grammar.specs.Reading.{run}
use Rattle.c_grammar.specs.Refusals.{Verdict, IsWithin}
use Rattle.c_grammar.specs.Grammar.{IsProgram}
use Rattle.c_parse.specs.Parsed.{IsParsedWhere, IsNestedWhere, IsRefusedWhere}
use Rattle.grammar_laws.proofs.Outcome.{run_is_verdict, one_verdict}
use Rattle.grammar_laws.proofs.TreeUnique.{program_unique}

-- over the first call of a tree that is nested where it may not be, and the tokens of a source
module _ (first_nested : List RawItemTree → Option ℕ) (source : List ℕ) (tokens : List Token) where
  abbrev IsTree : List RawItemTree → Type 0
  IsTree items = IsParsedWhere first_nested source tokens items

  abbrev IsRefusal : ParseError → Type 0
  IsRefusal error = IsRefusedWhere first_nested source tokens error

  abbrev IsRefusalOrMemory : ParseError → Type 0
  IsRefusalOrMemory error = error ≢ Memory → IsRefusal error

  abbrev IsVerdict : Option ParseError → Type 0
  IsVerdict r = Verdict (length source) tokens r

  -- the machine's run from the start ends so
  abbrev Ends : Option ParseError → Type 0
  Ends r = run (length source) (tasks.Items ∷ []) tokens ≡ r

  verdict_at : (r : Option ParseError) → Ends r → IsVerdict r
  verdict_at r e = let V : Option ParseError → Type 0 = IsVerdict in subst V e (run_is_verdict (length source) tokens)

  pub parsed_tree : (items : List RawItemTree) → IsProgram source tokens items → Ends None → first_nested items ≡ None → IsTree items
  parsed_tree items tree e none = record { within = verdict_at None e; tree = tree; none_nested = none }

  pub parsed_nested : (items : List RawItemTree) (at : ℕ) → IsProgram source tokens items → Ends None → first_nested items ≡ Some at → IsRefusal (NestedCall at)
  parsed_nested items at tree e first = record { items = items; within = verdict_at None e; tree = tree; first = first }

  error_of : (error : ParseError) → IsVerdict (Some error) → IsRefusal error
  error_of (Unexpected at) v = v
  error_of (TooDeep at) v = v
  error_of _ v = absurd v

  pub parsed_refused : (error : ParseError) → (error ≢ Memory → Ends (Some error)) → IsRefusalOrMemory error
  parsed_refused error r other = error_of error (verdict_at (Some error) (r other))

  no_verdict : (error : ParseError) → IsVerdict (Some error) → IsWithin tokens → ⊥
  no_verdict error v w = let e = one_verdict (length source) tokens (Some error) None v w in cc

  pub no_error : (items : List RawItemTree) (error : ParseError) → IsTree items → IsRefusal error → ⊥
  no_error items (Unexpected at) p h = no_verdict (Unexpected at) h p.within
  no_error items (TooDeep at) p h = no_verdict (TooDeep at) h p.within
  no_error items (NestedCall at) p h =
      let e = program_unique source tokens items h.items p.tree h.tree in
      let f = p.none_nested in
      let g = ap first_nested e in
      let k = h.first in
      cc
  no_error items Memory p h = h

  one_nested : (at other : ℕ) → IsNestedWhere first_nested source tokens at → IsNestedWhere first_nested source tokens other → NestedCall at ≡ NestedCall other
  one_nested at other h k =
      let e = program_unique source tokens h.items k.items h.tree k.tree in
      let f = ap first_nested e in
      let l = h.first in
      let m = k.first in
      cc

  one_verdict_error : (error other : ParseError) → IsVerdict (Some error) → IsVerdict (Some other) → error ≡ other
  one_verdict_error error other v w = let e = one_verdict (length source) tokens (Some error) (Some other) v w in cc

  pub one_error : (error other : ParseError) → IsRefusal error → IsRefusal other → error ≡ other
  one_error (Unexpected at) (Unexpected b) h k = one_verdict_error (Unexpected at) (Unexpected b) h k
  one_error (Unexpected at) (TooDeep b) h k = one_verdict_error (Unexpected at) (TooDeep b) h k
  one_error (Unexpected at) (NestedCall b) h k = absurd (no_verdict (Unexpected at) h k.within)
  one_error (TooDeep at) (Unexpected b) h k = one_verdict_error (TooDeep at) (Unexpected b) h k
  one_error (TooDeep at) (TooDeep b) h k = one_verdict_error (TooDeep at) (TooDeep b) h k
  one_error (TooDeep at) (NestedCall b) h k = absurd (no_verdict (TooDeep at) h k.within)
  one_error (NestedCall at) (Unexpected b) h k = absurd (no_verdict (Unexpected b) k h.within)
  one_error (NestedCall at) (TooDeep b) h k = absurd (no_verdict (TooDeep b) k h.within)
  one_error (NestedCall at) (NestedCall b) h k = one_nested at b h k
  one_error Memory other h k = absurd h
  one_error _ Memory h k = absurd k

  pub only_tree : (r : Result RawProgram ParseError) → IfOk r (λ program. IsTree (raw_program_tree program)) → IfErr r IsRefusalOrMemory
      → (items : List RawItemTree) → IsTree items → MatchResult r (λ program. raw_program_tree program ≡ items) (λ error. error ≡ Memory)
  only_tree (Ok program) h k items p = program_unique source tokens (raw_program_tree program) items h.tree p.tree
  only_tree (Err Memory) h k items p = refl
  only_tree (Err error) h k items p = absurd (no_error items error p (k (λ e. cc)))

  pub only_refusal : (r : Result RawProgram ParseError) → IfOk r (λ program. IsTree (raw_program_tree program)) → IfErr r IsRefusalOrMemory
      → (error : ParseError) → IsRefusal error → IsErrOf r error ⊎ IsErrOf r Memory
  only_refusal (Ok program) h k error p = absurd (no_error (raw_program_tree program) error h p)
  only_refusal (Err Memory) h k error p = inr refl
  only_refusal (Err other) h k error p = inl (ap Err (one_error other error (k (λ e. cc)) p))
