-- A source is a program, or has a refusal.
use Rattle.decisions.proofs.Common.{ℕ, ◌⊎◌, inl, inr, List, Token, LexError, AreTokensOf, IsLexErrorOf, RawItemTree, AreWithinTemporaries, ProgramTree, IsWellScoped, ParseError, nested_in_fors, IsParsedWhere, IsRefusedWhere, for_parts_whole, ScopeError, program_of, numbered, items_hoisted, ReadsNested, IsNestedSourceErrorOf}
use Rattle.c_scope.specs.declared.source_errors.SourceError.{SourceError}
use Rattle.c_scope.specs.declared.source_errors.SourceError.TheVariants as refusals
use Rattle.hoist_parts.proofs.Whole.{items_hoisted_whole}
use Rattle.hoist_parts.proofs.Temporaries.{items_small}
use Rattle.grammar_laws.specs.Ranks.{site_numbers}
use Rattle.grammar_laws.proofs.RankLaws.{ranks_are_numbers}
use Rattle.hoist_meaning.proofs.TreeCounts.{each_call}
use Rattle.decisions.proofs.Lexing.{lex_decided}
use Rattle.decisions.proofs.Parsing.{ParsesOrNot, tokens_parse_nested}
use Rattle.decisions.proofs.Scoping.{IsFree, Refused, free_or_refused, resolved_by, free_numbered_scoped}

-- the source reads as this program, which is well scoped
pub record AProgram (source : List ℕ) : Type 0 where
  pub program : ProgramTree
  pub reads : ReadsNested source program
  pub scoped : IsWellScoped program

abbrev pub AnError : List ℕ → Type 0
AnError source = (error : SourceError) × IsNestedSourceErrorOf source error

-- ---- the refusals

no_tokens : (source : List ℕ) (error : LexError) → IsLexErrorOf source error → AnError source
no_tokens source (LexError.BadByte at) e = (refusals.BadByte at, e)
no_tokens source (LexError.OpenComment at) e = (refusals.OpenComment at, e)
no_tokens source (LexError.BadNumber at) e = (refusals.BadNumber at, e)
no_tokens source LexError.Memory e = absurd e.none

no_tree : (source : List ℕ) (tokens : List Token) → AreTokensOf source tokens → (error : ParseError) → IsRefusedWhere nested_in_fors source tokens error → AnError source
no_tree source tokens lexed (ParseError.Unexpected at) e = (refusals.Unexpected at, record { tokens = tokens; lexed = lexed; refused = e })
no_tree source tokens lexed (ParseError.TooDeep at) e = (refusals.TooDeep at, record { tokens = tokens; lexed = lexed; refused = e })
no_tree source tokens lexed (ParseError.NestedCall at) e = (refusals.NestedCall at, record { tokens = tokens; lexed = lexed; refused = e })
no_tree source tokens lexed ParseError.Memory e = absurd e

module _ (source : List ℕ) (tokens : List Token) (lexed : AreTokensOf source tokens) (tree : List RawItemTree)
    (parsed : IsParsedWhere nested_in_fors source tokens tree) where
  no_program : Refused (items_hoisted tree) → AnError source
  no_program (ScopeError.Unknown at, e) = (refusals.Unknown at, record { tokens = tokens; tree = tree; lexed = lexed; parsed = parsed; refused = e.1 })
  no_program (ScopeError.Twice at, e) = (refusals.Twice at, record { tokens = tokens; tree = tree; lexed = lexed; parsed = parsed; refused = e.1 })
  no_program (ScopeError.Arity at, e) = (refusals.Arity at, record { tokens = tokens; tree = tree; lexed = lexed; parsed = parsed; refused = e.1 })
  no_program (ScopeError.Kind at, e) = (refusals.Kind at, record { tokens = tokens; tree = tree; lexed = lexed; parsed = parsed; refused = e.1 })
  no_program (ScopeError.NoMain, e) = (refusals.NoMain, record { tokens = tokens; tree = tree; lexed = lexed; parsed = parsed; refused = e.1 })
  no_program (ScopeError.Limit which, e) = (refusals.Limit which, record { tokens = tokens; tree = tree; lexed = lexed; parsed = parsed; refused = e.1 })
  no_program (ScopeError.Memory, e) = absurd e.0

  -- ---- the program

  a_program : AreWithinTemporaries tree → IsFree (items_hoisted tree) → AProgram source
  a_program small free =
      let whole = items_hoisted_whole tree (for_parts_whole tree parsed.none_nested) in
      record {
        program = numbered (site_numbers (items_hoisted tree)) (program_of (items_hoisted tree));
        reads = record { tokens = tokens; tree = tree; lexed = lexed; parsed = parsed; resolved = resolved_by (site_numbers (items_hoisted tree)) (items_hoisted tree) free };
        scoped = free_numbered_scoped (site_numbers (items_hoisted tree)) (items_hoisted tree) free (items_small tree small) (ranks_are_numbers _) (each_call (items_hoisted tree) whole);
      }

  by_scope : AreWithinTemporaries tree → IsFree (items_hoisted tree) ⊎ Refused (items_hoisted tree) → AProgram source ⊎ AnError source
  by_scope small (inl free) = inl (a_program small free)
  by_scope small (inr refused) = inr (no_program refused)

by_tree : (source : List ℕ) (tokens : List Token) → AreTokensOf source tokens → ParsesOrNot nested_in_fors source tokens → AProgram source ⊎ AnError source
by_tree source tokens lexed (inl t) = by_scope source tokens lexed t.tree t.parsed t.small (free_or_refused (items_hoisted t.tree))
by_tree source tokens lexed (inr refused) = inr (no_tree source tokens lexed refused.0 refused.1)

by_tokens : (source : List ℕ) → ((tokens : List Token) × AreTokensOf source tokens) ⊎ ((error : LexError) × IsLexErrorOf source error) → AProgram source ⊎ AnError source
by_tokens source (inl t) = by_tree source t.0 t.1 (tokens_parse_nested source t.0)
by_tokens source (inr refused) = inr (no_tokens source refused.0 refused.1)

pub source_decided : (source : List ℕ) → AProgram source ⊎ AnError source
source_decided source = by_tokens source (lex_decided source)
