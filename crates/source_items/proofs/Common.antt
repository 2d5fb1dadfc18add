-- The names that this crate's proofs cite from other crates and from its definitions, passed on from one place. Declares nothing.
pub use Rattle.std.proofs.Common.{[], ◌++◌, ◌+◌, ◌-◌, ◌<◌, ◌∙◌, ◌∷◌, ◌≡◌, ◌≤◌, Bor, List, add-one, ap, arith, drop, get_or, length, map, refl, rules, subst, suc, sym, take, vec_len, zero, ℕ}
pub use Rattle.std.proofs.lemmas.List.{get_or-map, length-map}
pub use Rattle.std.proofs.lemmas.Result.{on_ok_weaker}
pub use Rattle.std.specs.Prelude.{Bool, Err, IfSome, MatchOption, None, Ok, OnOk, Option, Result, Some, false, option_map, slice_get, slice_index_or, true}
pub use Rattle.c_mean.proofs.ChainLemmas.{OperandsInRange, chain_in_range, chained_is, first_trap, first_value, later_trap}
pub use Rattle.c_mean.proofs.LayoutLemmas.{element_beyond, element_is, scalar_is}
pub use Rattle.c_mean.specs.Chains.{chain_value, joined_value}
pub use Rattle.c_mean.specs.Layout.{IsInRange, rows_of}
pub use Rattle.c_mean.specs.Values.{value}
pub use Rattle.c_tree.proofs.Cuts.{drop_at}
pub use Rattle.c_tree.proofs.ExprEquations.{expr_tree-Chain, operand_tree}
pub use Rattle.c_tree.proofs.StmtEquations.{stmt_tree-For}
pub use Rattle.c_tree.specs.Trees.{Block, Break, Continue, DeclareScalar, Do, Empty, ExprTree, For, If, IfElse, Return, SimpleTree, StmtTree, While}
pub use Rattle.c_tree.specs.Views.{chained, expr_tree, in_order, simple_tree, stmt_tree, stmt_trees}
pub use Rattle.c_tree.specs.WellScoped.{AreStmtsScoped, Context, scope_after, scope_after_all}
pub use Rattle.c_tree.specs.declared.expressions.Expr.{Expr}
pub use Rattle.c_tree.specs.declared.operators.Infix.{Infix}
pub use Rattle.c_tree.specs.declared.statements.Stmt.{Stmt}
pub use Rattle.source_items.specs.Items.{AreItems, HasPart, IsGiven, IsItem, IsLoop, IsPassing, IsScoped, IsTaken, IsWhole, body_of, condition_of, entered, is_for, item_of, loop_of, part_item, stacked, start_of, step_item, step_of, test_item, to_do, whole_item}
pub use Rattle.source_items.specs.Rows.{rows_in}
pub use Rattle.source_items.specs.declared.items.Item.{Item}
pub use Rattle.source_items.specs.declared.items.Part.{Part}
