-- The program of a source text, and the refusal of a text that has none.
use Rattle.std.specs.Prelude.{ℕ, List, Option}
use Rattle.c_lex.specs.declared.tokens.Token.{Token}
use Rattle.c_lex.specs.declared.tokens.LexError.{LexError}
use Rattle.c_lex.specs.Tokens.{AreTokensOf, IsLexErrorOf}
use Rattle.c_tree.specs.RawTrees.{RawItemTree}
use Rattle.c_tree.specs.Trees.{ProgramTree}
use Rattle.c_grammar.specs.declared.errors.ParseError.{ParseError}
use Rattle.c_parse.specs.NestedCalls.{nested_in_items}
use Rattle.c_parse.specs.Parsed.{IsParsedWhere, IsRefusedWhere}
use Rattle.scope_rules.specs.declared.errors.ScopeError.{ScopeError}
use Rattle.c_scope.specs.declared.source_errors.SourceError.{SourceError}
use Rattle.c_scope.specs.declared.source_errors.SourceError.TheVariants as refusals
use Rattle.scope_rules.specs.Outcomes.{IsResolved, IsRefused}

-- ---- by the first call that is nested where it may not be, and how a tree is resolved and refused

-- The bytes of the source split into these tokens, by maximal munch, with white space and comments between them; the
-- tokens are this tree of the grammar, in which nothing is too deep and `first_nested` finds no call; and the tree is
-- resolved to the program.
pub record ReadsWhere (first_nested : List RawItemTree → Option ℕ) (Resolved : List RawItemTree → ProgramTree → Type 0)
    (source : List ℕ) (program : ProgramTree) : Type 0 where
  pub tokens : List Token
  pub tree : List RawItemTree
  pub lexed : AreTokensOf source tokens
  pub parsed : IsParsedWhere first_nested source tokens tree
  pub resolved : Resolved tree program

-- the bytes split into tokens, which are refused as a tree
pub record IsNoTreeWhere (first_nested : List RawItemTree → Option ℕ) (source : List ℕ) (error : ParseError) : Type 0 where
  pub tokens : List Token
  pub lexed : AreTokensOf source tokens
  pub refused : IsRefusedWhere first_nested source tokens error

-- the bytes split into tokens, which are a tree that is refused
pub record IsNoProgramWhere (first_nested : List RawItemTree → Option ℕ) (Refused : List RawItemTree → ScopeError → Type 0)
    (source : List ℕ) (error : ScopeError) : Type 0 where
  pub tokens : List Token
  pub tree : List RawItemTree
  pub lexed : AreTokensOf source tokens
  pub parsed : IsParsedWhere first_nested source tokens tree
  pub refused : Refused tree error

-- The refusal of the source: that of the first of the three stages that has one.
abbrev pub IsSourceErrorWhere : (List RawItemTree → Option ℕ) → (List RawItemTree → ScopeError → Type 0) → List ℕ → SourceError → Type 0
IsSourceErrorWhere first_nested Refused source (refusals.BadByte at) = IsLexErrorOf source (LexError.BadByte at)
IsSourceErrorWhere first_nested Refused source (refusals.OpenComment at) = IsLexErrorOf source (LexError.OpenComment at)
IsSourceErrorWhere first_nested Refused source (refusals.BadNumber at) = IsLexErrorOf source (LexError.BadNumber at)
IsSourceErrorWhere first_nested Refused source (refusals.Unexpected at) = IsNoTreeWhere first_nested source (ParseError.Unexpected at)
IsSourceErrorWhere first_nested Refused source (refusals.TooDeep at) = IsNoTreeWhere first_nested source (ParseError.TooDeep at)
IsSourceErrorWhere first_nested Refused source (refusals.NestedCall at) = IsNoTreeWhere first_nested source (ParseError.NestedCall at)
IsSourceErrorWhere first_nested Refused source (refusals.Unknown at) = IsNoProgramWhere first_nested Refused source (ScopeError.Unknown at)
IsSourceErrorWhere first_nested Refused source (refusals.Twice at) = IsNoProgramWhere first_nested Refused source (ScopeError.Twice at)
IsSourceErrorWhere first_nested Refused source (refusals.Arity at) = IsNoProgramWhere first_nested Refused source (ScopeError.Arity at)
IsSourceErrorWhere first_nested Refused source (refusals.Kind at) = IsNoProgramWhere first_nested Refused source (ScopeError.Kind at)
IsSourceErrorWhere first_nested Refused source refusals.NoMain = IsNoProgramWhere first_nested Refused source ScopeError.NoMain
IsSourceErrorWhere first_nested Refused source (refusals.Limit which) = IsNoProgramWhere first_nested Refused source (ScopeError.Limit which)
IsSourceErrorWhere first_nested Refused source refusals.Memory = ⊥

-- ---- no call is nested

-- The source is read as this program: its tree has no nested call, breaks no rule of scope, defines `main`, exceeds no
-- limit, and is the program with numbers in place of names.
abbrev pub ReadsAs : List ℕ → ProgramTree → Type 0
ReadsAs source program = ReadsWhere nested_in_items IsResolved source program

abbrev pub IsSourceErrorOf : List ℕ → SourceError → Type 0
IsSourceErrorOf source error = IsSourceErrorWhere nested_in_items IsRefused source error

-- each stage's refusal as one of the source
abbrev pub by_lex : LexError → SourceError
by_lex (LexError.BadByte at) = refusals.BadByte at
by_lex (LexError.OpenComment at) = refusals.OpenComment at
by_lex (LexError.BadNumber at) = refusals.BadNumber at
by_lex LexError.Memory = refusals.Memory

abbrev pub by_parse : ParseError → SourceError
by_parse (ParseError.Unexpected at) = refusals.Unexpected at
by_parse (ParseError.TooDeep at) = refusals.TooDeep at
by_parse (ParseError.NestedCall at) = refusals.NestedCall at
by_parse ParseError.Memory = refusals.Memory

abbrev pub by_scope : ScopeError → SourceError
by_scope (ScopeError.Unknown at) = refusals.Unknown at
by_scope (ScopeError.Twice at) = refusals.Twice at
by_scope (ScopeError.Arity at) = refusals.Arity at
by_scope (ScopeError.Kind at) = refusals.Kind at
by_scope ScopeError.NoMain = refusals.NoMain
by_scope (ScopeError.Limit which) = refusals.Limit which
by_scope ScopeError.Memory = refusals.Memory
