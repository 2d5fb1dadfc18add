-- The names that this crate's proofs cite from other crates and from its definitions, passed on from one place. Declares nothing.
pub use Rattle.std.proofs.Common.{[], ◌++◌, ◌+◌, ◌<◌, ◌^◌, ◌||◌, ◌∙◌, ◌∷◌, ◌≡◌, ◌≢◌, ◌≤◌, Bool, FitsSigned, List, None, Option, Some, ap, arith, drop, false, if◌then◌else◌, length, map, nat_eq, of_z, pos, refl, subst, sym, to_z, true, vec_len, ℕ, ℤ}
pub use Rattle.c_tree.proofs.RawExprEquations.{raw_expr_tree-Chain, raw_operand_tree}
pub use Rattle.c_tree.specs.RawTrees.{And, NameTree, NoExprs, NoRawStmts, RawBinary, RawBlock, RawBreak, RawCall, RawCalling, RawConditional, RawDeclareWith, RawDo, RawElement, RawExprTree, RawExprTrees, RawFor, RawFunctionItem, RawIf, RawIfElse, RawItemTree, RawLogicalAnd, RawLogicalOr, RawName, RawNumber, RawParenthesized, RawReturn, RawSet, RawSetElement, RawSimpleTree, RawStmtTree, RawStmtTrees, RawTableCall, RawTableCalling, RawThen, RawUnary, RawWhile}
pub use Rattle.c_tree.specs.RawViews.{as_body, raw_chained, raw_expr_tree, raw_expr_trees, raw_in_order, raw_joined}
pub use Rattle.c_tree.specs.WholeCalls.{AreCallsWhole, AreStmtsWhole, HasNoCall, HaveNoCall, IsItemWhole, IsReturnWhole, IsSimpleWhole, IsStmtWhole, IsValueWhole}
pub use Rattle.c_tree.specs.declared.operators.Infix.{Infix}
pub use Rattle.cap_text.specs.Decimals.{canonical_decimal}
unfoldable pub use Rattle.cap_text.specs.Decimals.{canonical_integer}
pub use Rattle.hoist_parts.specs.Calls.{hold_call, holds_call, holds_nested, is_left_alone, is_named, is_spawn}
pub use Rattle.hoist_parts.specs.Expressions.{arguments_before, arguments_left, arguments_names, before, call_left, decided, in_block, is_false, is_true, left_of, names_in, part_after, part_named, part_or, table_call_left}
pub use Rattle.hoist_parts.specs.NewNames.{declared, declared_as, new_name, set_to, used}
pub use Rattle.hoist_parts.specs.Statements.{all_hoisted, hoisted, item_hoisted, items_hoisted, returned_before, returned_left, simple_before, simple_left, stmt_names, table_before, value_before, value_left, while_calling}
