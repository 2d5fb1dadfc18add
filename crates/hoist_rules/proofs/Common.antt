-- The names that this crate's proofs cite from other crates and from its definitions, passed on from one place. Declares nothing.
pub use Rattle.std.proofs.Common.{[], ◌&&◌, ◌++◌, ◌+◌, ◌-◌, ◌<◌, ◌||◌, ◌∙◌, ◌∷◌, ◌≡◌, ◌≤◌, Bool, List, Option, ap, append_assoc, arith, drop, false, length, map, not, refl, subst, sym, take, true, vec_len, ℕ}
pub use Rattle.std.proofs.lemmas.List.{append-nil, drop_all, map_push, take_all}
pub use Rattle.std.specs.Prelude.{IfOk, OnOk, if◌then◌else◌, nat_lt, option_map}
pub use Rattle.c_tree.proofs.Cuts.{drop_at}
pub use Rattle.c_tree.proofs.RawExprEquations.{raw_expr_tree-Call, raw_expr_tree-Chain, raw_expr_tree-Conditional, raw_expr_tree-Name, raw_expr_tree-Number, raw_expr_tree-TableCall, raw_operand_tree}
pub use Rattle.c_tree.specs.RawTrees.{And, NameTree, NoExprs, RawBinary, RawBlock, RawCall, RawConditional, RawDo, RawElement, RawExprTree, RawExprTrees, RawFor, RawIf, RawIfElse, RawLogicalAnd, RawLogicalOr, RawParenthesized, RawReturn, RawSimpleTree, RawStmtTree, RawStmtTrees, RawTableCall, RawThen, RawUnary, RawWhile}
pub use Rattle.c_tree.specs.RawViews.{as_body, name_tree, raw_arguments, raw_chained, raw_expr_tree, raw_expr_trees, raw_in_order, raw_joined, raw_simple_tree, raw_stmt_tree, raw_stmt_trees}
pub use Rattle.c_tree.specs.declared.operators.Infix.{Infix}
pub use Rattle.c_tree.specs.declared.raw_expressions.RawExpr.{RawExpr}
pub use Rattle.grammar_laws.specs.Nested.{is_call}
pub use Rattle.grammar_laws.specs.Places.{expr_places, stmt_places, stmts_places}
pub use Rattle.hoist_parts.proofs.HeldChains.{joined_alone, some_chain, some_mapped}
pub use Rattle.hoist_parts.proofs.NoCalls.{no_before, no_left, no_names, or_left, or_right}
pub use Rattle.hoist_parts.specs.Arguments.{calls_among, passed_after, passed_before, passed_left}
pub use Rattle.hoist_parts.specs.Calls.{hold_call, holds_call, is_left_alone, is_named, is_spawn}
pub use Rattle.hoist_parts.specs.Chains.{branches, chain_tree, operand_after, operand_before, operand_left, operand_trees, operands_after, operands_before, operands_left}
pub use Rattle.hoist_parts.specs.Expressions.{argument_left, arguments_before, arguments_left, arguments_names, before, call_left, in_block, index_left, left_of, names_in, one_if, part_after, part_named, part_or, table_call_left}
pub use Rattle.hoist_parts.specs.NewNames.{declared, declared_as, set_to}
pub use Rattle.hoist_parts.specs.Statements.{all_hoisted, hoisted, returned_before, simple_before, stmt_names, stmts_names, table_before, value_before, value_left, value_names}
pub use Rattle.scope_rules.specs.Openings.{OpenBlock, OpenFor, OpenIf, OpenWhile, OpeningTree, opening_tree, whole}
pub use Rattle.hoist_rules.specs.Receivers.{Kept, Received, Resolved, kept_statements, opening_places}
unfoldable pub use Rattle.hoist_rules.specs.Receivers.{then_all, then_close, then_else, then_open}
pub use Rattle.hoist_rules.specs.Singles.{are_many, are_some}
