-- The names that this crate's proofs cite from other crates and from its definitions, passed on from one place. Declares nothing.
pub use Rattle.std.proofs.Common.{◌%◌, ◌++◌, ◌+◌, ◌-◌, ◌<◌, ◌^◌, ◌∙◌, ◌≢◌, ◌≤◌, ◌⊎◌, Bool, Option, Some, ap, append-nil, append_assoc, arith, eqb, false, if◌then◌else◌, inl, inr, length, lit<, lit≤, refl, subst, suc, sym, true, zero, ℕ, ⊎_elim}
pub use Rattle.std.proofs.lemmas.Bool.{cases_Bool, cases_lt}
pub use Rattle.std.specs.Prelude.{List, None, [], nat_le, nat_lt, slice_index_or, ◌∷◌, ◌≡◌}
pub use Rattle.c_grammar.proofs.OneToken.{number_passes, run_deep, run_end, run_refused, run_taken, run_unfinished}
pub use Rattle.c_grammar.specs.Grammar.{AreArguments, AreItem, AreItems, AreLocals, AreMoreArguments, AreMoreGlobals, AreMoreLocals, AreMoreMembers, AreMoreNamed, AreMoreParameters, AreNamed, AreParameters, AreStmts, IsBinary, IsBlock, IsBody, IsExpr, IsForInit, IsForStep, IsGlobal, IsIndex, IsLocal, IsNameOption, IsParenthesized, IsPrimary, IsProgram, IsRepeated, IsResult, IsSimple, IsSize, IsStart, IsUnary, IsUpToSemicolon, PassesInfix, PassesPrefix, declared_before}
pub use Rattle.c_grammar.specs.Machine.{Task, after_move, closes_task, open_tasks, step, token_move}
pub use Rattle.c_grammar.specs.Operators.{infix_operator_of, level_of_infix, unary_operator_of}
pub use Rattle.c_grammar.specs.Reading.{finishes, run, sign_at, signs_of}
pub use Rattle.c_grammar.specs.Refusals.{AreWhole, CanBeTaken, IsDeep, IsLeft, IsShallow, IsTooDeep, IsUnexpectedEnd, IsUnexpectedToken, IsWithin, Leave, Verdict}
pub use Rattle.c_grammar.specs.Rests.{Alternative, Any, CanBeNothing, MayLeaveOut, Nearest, Symbol, Takes, TakesAll, Way, closes, open_in}
pub use Rattle.c_grammar.specs.Signs.{IsOperator, IsPrefix, Level, Looser, Loosest, Tightest, sign_of_token}
pub use Rattle.c_grammar.specs.Tokens.{Passes, PassesName, PassesNumber, next_at, next_kind, next_name, next_sign, rest_of}
pub use Rattle.c_grammar.specs.declared.signs.Sign.{Sign}
pub use Rattle.c_lex.specs.Places.{StandInOrder}
pub use Rattle.c_lex.specs.declared.tokens.Token.{Token}
pub use Rattle.c_tree.specs.RawTrees.{And, NameTree, RawBlock, RawBreak, RawCall, RawCalling, RawConditional, RawContinue, RawDeclareArray, RawDeclareScalar, RawDeclareWith, RawDo, RawElement, RawExprTree, RawExprTrees, RawFor, RawFunctionItem, RawGlobal, RawGlobalArray, RawIf, RawIfElse, RawItemTree, RawName, RawNumber, RawParenthesized, RawPrototypeItem, RawReturn, RawSet, RawSetElement, RawSimpleTree, RawStmtTree, RawStmtTrees, RawTableCall, RawTableCalling, RawTableItem, RawThen, RawUnary, RawWhile}
pub use Rattle.c_tree.specs.RawViews.{raw_joined}
pub use Rattle.c_tree.specs.declared.operators.Infix.{Infix}
pub use Rattle.c_tree.specs.declared.operators.UnaryOperator.{UnaryOperator}
pub use Rattle.grammar_laws.specs.Places.{Called, Declared, Keyword, Standing, Used, expr_places, exprs_places, item_places, items_places, names_places, optional_name_places, optional_places, parameters_places, placed, simple_places, simples_places, step_places, stmt_places, stmts_places}
pub use Rattle.grammar_laws.specs.Rising.{RiseWithin}
