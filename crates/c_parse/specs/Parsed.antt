-- The tree of the tokens of a source, and their refusal.
use Rattle.std.specs.Prelude.{ℕ, ◌≡◌, List, Option, Some, None, length}
use Rattle.c_lex.specs.declared.tokens.Token.{Token}
use Rattle.c_tree.specs.RawTrees.{RawItemTree}
use Rattle.c_grammar.specs.declared.errors.ParseError.{ParseError}
use Rattle.c_grammar.specs.declared.errors.ParseError.TheVariants.{Unexpected, TooDeep, NestedCall, Memory}
use Rattle.c_grammar.specs.Refusals.{IsWithin, IsUnexpected, IsTooDeep}
use Rattle.c_grammar.specs.Grammar.{IsProgram}
use Rattle.c_parse.specs.NestedCalls.{nested_in_items}
use Rattle.c_parse.specs.ForParts.{nested_in_fors}

-- ---- by the first call that is nested where it may not be, if a tree has one

-- the tokens are a program in which nothing is too deep and `first_nested` finds no call, and this is its tree
pub record IsParsedWhere (first_nested : List RawItemTree → Option ℕ) (source : List ℕ) (tokens : List Token) (items : List RawItemTree) : Type 0 where
  pub within : IsWithin tokens
  pub tree : IsProgram source tokens items
  pub none_nested : first_nested items ≡ None

-- the tokens are a program in which nothing is too deep, and the name of the call that `first_nested` finds is there
pub record IsNestedWhere (first_nested : List RawItemTree → Option ℕ) (source : List ℕ) (tokens : List Token) (at : ℕ) : Type 0 where
  pub items : List RawItemTree
  pub within : IsWithin tokens
  pub tree : IsProgram source tokens items
  pub first : first_nested items ≡ Some at

abbrev pub IsRefusedWhere : (List RawItemTree → Option ℕ) → List ℕ → List Token → ParseError → Type 0
IsRefusedWhere first_nested source tokens (Unexpected at) = IsUnexpected (length source) tokens at
IsRefusedWhere first_nested source tokens (TooDeep at) = IsTooDeep tokens at
IsRefusedWhere first_nested source tokens (NestedCall at) = IsNestedWhere first_nested source tokens at
IsRefusedWhere first_nested source tokens Memory = ⊥

-- ---- no call is nested

abbrev pub IsParsed : List ℕ → List Token → List RawItemTree → Type 0
IsParsed source tokens items = IsParsedWhere nested_in_items source tokens items

abbrev pub IsParseErrorOf : List ℕ → List Token → ParseError → Type 0
IsParseErrorOf source tokens error = IsRefusedWhere nested_in_items source tokens error

-- ---- no call in the parentheses of a `for` is nested

abbrev pub IsParsedNested : List ℕ → List Token → List RawItemTree → Type 0
IsParsedNested source tokens items = IsParsedWhere nested_in_fors source tokens items

abbrev pub IsNestedErrorOf : List ℕ → List Token → ParseError → Type 0
IsNestedErrorOf source tokens error = IsRefusedWhere nested_in_fors source tokens error
