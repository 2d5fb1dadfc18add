-- The names that this crate's proofs cite from other crates and from its definitions, passed on from one place. Declares nothing.
pub use Rattle.std.proofs.Common.{[], ◌∙◌, ◌∷◌, ◌≡◌, ◌≢◌, ◌⊎◌, Bool, Err, List, None, Ok, Option, Result, Some, ap, arith, drop, false, inl, inr, length, map, nat_eq, refl, subst, sym, vec_len, ℕ}
pub use Rattle.c_tree.proofs.RawExprEquations.{raw_expr_tree-Chain, raw_operand_tree}
pub use Rattle.c_tree.specs.RawTrees.{And, NoExprs, NoRawStmts, RawBinary, RawBlock, RawCall, RawCalling, RawConditional, RawDeclareWith, RawDo, RawElement, RawExprTree, RawExprTrees, RawFor, RawFunctionItem, RawIf, RawIfElse, RawItemTree, RawLogicalAnd, RawLogicalOr, RawParenthesized, RawReturn, RawSet, RawSetElement, RawSimpleTree, RawStmtTree, RawStmtTrees, RawTableCall, RawTableCalling, RawThen, RawUnary, RawWhile}
pub use Rattle.c_tree.specs.RawViews.{raw_chained, raw_expr_tree, raw_expr_trees, raw_item_trees, raw_joined, raw_simple_tree, raw_stmt_trees}
pub use Rattle.c_tree.specs.WholeCalls.{AreCallsWhole, AreSimplesWhole, AreStmtsWhole, HasNoCall, HaveNoCall, IsConditionWhole, IsItemWhole, IsReturnWhole, IsSimpleWhole, IsStepWhole, IsStmtWhole, IsValueWhole}
pub use Rattle.c_tree.specs.WholeForParts.{AreForPartsWhole, AreForsWhole, IsForWhole, IsItemForWhole}
pub use Rattle.grammar_reader.proofs.Paths.{exit}
pub use Rattle.c_parse.specs.ForParts.{nested_in_all_for, nested_in_for, nested_in_fors, nested_in_item_for}
pub use Rattle.c_parse.specs.NestedCalls.{earlier, first_call, first_call_of, nested_in_condition, nested_in_item, nested_in_items, nested_in_return, nested_in_simple, nested_in_simples, nested_in_step, nested_in_stmt, nested_in_stmts, nested_in_value}
