-- The names that this crate's proofs cite from other crates and from its definitions, passed on from one place. Declares nothing.
pub use Rattle.std.proofs.Common.{[], ◌%◌, ◌*◌, ◌++◌, ◌+◌, ◌-◌, ◌<◌, ◌^◌, ◌∙◌, ◌∷◌, ◌≡◌, ◌≢◌, ◌≤◌, ◌⊎◌, Bool, Err, List, None, Ok, Option, Result, Some, ap, append-nil, append_assoc, arith, drop, false, inl, inr, length, length-append, lit<, map, nat_eq, refl, rules, subst, sym, true, vec_len, ℕ}
pub use Rattle.std.proofs.lemmas.List.{map-append}
pub use Rattle.std.proofs.lemmas.Result.{IfErr-at_err, IfErr-weaker, IfOk-at_ok, IfOk-weaker, err_from_is_err_and}
pub use Rattle.std.specs.Prelude.{Box, IfErr, IfOk, MatchResult, if◌then◌else◌, nat_le, option_map}
pub use denote.Enum.Bare.{same_false, same_true, sameb}
pub use Rattle.c_grammar.proofs.OneToken.{number_passes, run_deep, run_end, run_refused, run_taken, run_unfinished}
pub use Rattle.c_grammar.specs.Grammar.{AreArguments, AreItem, AreItems, AreLocals, AreMoreArguments, AreMoreGlobals, AreMoreLocals, AreMoreMembers, AreMoreNamed, AreMoreParameters, AreNamed, AreParameters, AreStmts, IsBinary, IsBlock, IsBody, IsExpr, IsForInit, IsForStep, IsGlobal, IsIndex, IsLocal, IsNameOption, IsParenthesized, IsPrimary, IsRepeated, IsResult, IsSimple, IsStart, IsUnary, IsUpToSemicolon, declared_before}
pub use Rattle.c_grammar.specs.Machine.{Body, Expr, Move, Parenthesized, Task, after_move, open_tasks, step}
pub use Rattle.c_grammar.specs.Operators.{infix_operator_of, level_of_infix, unary_operator_of}
pub use Rattle.c_grammar.specs.Reading.{finishes, sign_at}
unfoldable pub use Rattle.c_grammar.specs.Reading.{run}
pub use Rattle.c_grammar.specs.Signs.{sign_of_keyword, sign_of_mark, sign_of_token}
pub use Rattle.c_grammar.specs.Tokens.{IsNotOpened, Passes, PassesName, PassesNumber, next_at, next_kind, next_place, next_sign, rest_of}
pub use Rattle.c_grammar.specs.contracts.signs.Sign.{the_type}
pub use Rattle.c_grammar.specs.declared.errors.ParseError.{ParseError}
pub use Rattle.c_grammar.specs.declared.errors.ParseError.TheVariants.{Memory, TooDeep, Unexpected}
pub use Rattle.c_grammar.specs.declared.signs.Sign.{Sign}
pub use Rattle.c_lex.specs.declared.keywords.Keyword.{Keyword}
pub use Rattle.c_lex.specs.declared.marks.Mark.{Mark}
pub use Rattle.c_lex.specs.declared.tokens.Token.{Token}
pub use Rattle.c_lex.specs.declared.tokens.TokenKind.{TokenKind}
pub use Rattle.c_tree.proofs.RawExprEquations.{raw_expr_tree-Call, raw_expr_tree-Chain, raw_expr_tree-Conditional, raw_expr_tree-Element, raw_expr_tree-Name, raw_expr_tree-Number, raw_expr_tree-Parenthesized, raw_expr_tree-TableCall, raw_expr_tree-Unary, raw_operand_tree}
pub use Rattle.c_tree.proofs.RawStmtEquations.{raw_stmt_tree-Block, raw_stmt_tree-Break, raw_stmt_tree-Continue, raw_stmt_tree-Empty, raw_stmt_tree-For, raw_stmt_tree-If, raw_stmt_tree-IfElse, raw_stmt_tree-Return, raw_stmt_tree-Simple, raw_stmt_tree-While}
pub use Rattle.c_tree.specs.RawTemporaries.{AreWithinTemporaries, raw_arguments_temporaries, raw_simple_temporaries, raw_simples_temporaries, raw_stmt_temporaries, raw_temporaries}
pub use Rattle.c_tree.specs.RawTrees.{And, NameTree, NoExprs, NoRawStmts, RawBlock, RawBreak, RawCall, RawCalling, RawConditional, RawContinue, RawDeclareArray, RawDeclareScalar, RawDeclareWith, RawDo, RawElement, RawEmpty, RawExprTree, RawExprTrees, RawFor, RawFunctionItem, RawGlobal, RawGlobalArray, RawIf, RawIfElse, RawItemTree, RawName, RawNumber, RawParenthesized, RawPrototypeItem, RawReturn, RawSet, RawSetElement, RawSimpleTree, RawStmtTree, RawStmtTrees, RawTableCall, RawTableCalling, RawTableItem, RawThen, RawUnary, RawWhile}
pub use Rattle.c_tree.specs.RawViews.{name_tree, raw_arguments, raw_chained, raw_expr_tree, raw_expr_trees, raw_in_order, raw_item_tree, raw_joined, raw_simple_tree, raw_stmt_tree}
pub use Rattle.c_tree.specs.declared.operators.Infix.{Infix}
pub use Rattle.c_tree.specs.declared.raw_expressions.RawExpr.{RawExpr}
pub use Rattle.c_tree.specs.declared.raw_items.RawItem.{RawItem}
pub use Rattle.grammar_reader.specs.BodySteps.{AreSmall, LeadsInside, NoStatement, ReadingBlock, ReadsBlock, ReadsBlockItem, ReadsBody, ReadsForInit, ReadsForParts, ReadsForStep, ReadsUpToSemicolon, RefusedBlock, RefusedInside, stmts_before}
pub use Rattle.grammar_reader.specs.ItemSteps.{Listed, ReadingGlobals, ReadingItems, ReadingMembers, ReadingParameters, ReadsAfterInt, ReadsAfterVoid, ReadsDeclared, ReadsFunction, ReadsGlobal, ReadsGlobals, ReadsItem, ReadsItems, ReadsMembers, ReadsParameter, ReadsParameterList, ReadsParameters, ReadsStart, ReadsTable, ReadsTableParameter, RefusedItems, RefusedListed, RefusedParameter, after_task, all_have_names, more_task, name_task, named_with, names_in}
pub use Rattle.grammar_reader.specs.Steps.{IsNextOperator, IsNoNextOperator, Leads, NoPrefix, NoneFrom, ReadingArguments, ReadingRepeated, ReadsArguments, ReadsBinary, ReadsConditional, ReadsElement, ReadsExpr, ReadsIndex, ReadsNamed, ReadsParenthesized, ReadsPrimary, ReadsRepeated, ReadsUnary, Refused, followed_by}
pub use Rattle.grammar_reader.specs.StmtSteps.{ReadingLocals, ReadsIndexed, ReadsLocal, ReadsLocals, ReadsSimple, ReadsSize, RefusedSimple, RefusedSize, Sized}
