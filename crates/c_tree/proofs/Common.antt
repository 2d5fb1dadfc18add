-- The names that this crate's proofs cite from other crates and from its definitions, passed on from one place. Declares nothing.
pub use Rattle.std.proofs.Common.{[], ◌++◌, ◌+◌, ◌<◌, ◌∙◌, ◌∷◌, ◌≡◌, ◌≤◌, Bool, List, None, Some, add-zero, ap, arith, drop, eqb, false, length, length-append, map, max, refl, subst, suc, sym, true, ℕ}
pub use Rattle.std.specs.Prelude.{Box, Option, Vec, option_map, slice_index}
pub use Rattle.std.specs.declared.alloc.Global.{Global}
pub use Rattle.c_tree.specs.RawTrees.{NoRawStmts, RawBlock, RawBreak, RawCall, RawConditional, RawContinue, RawDo, RawElement, RawEmpty, RawExprTree, RawFor, RawFunctionItem, RawIf, RawIfElse, RawItemTree, RawName, RawNumber, RawParenthesized, RawReturn, RawStmtTree, RawStmtTrees, RawTableCall, RawThen, RawUnary, RawWhile}
pub use Rattle.c_tree.specs.RawViews.{name_tree, raw_chained, raw_expr_step, raw_expr_tree, raw_expr_trees, raw_simple_tree, raw_stmt_step, raw_stmt_tree, raw_stmt_trees}
pub use Rattle.c_tree.specs.Temporaries.{arguments_temporaries, capped, expr_temporaries, operand_temporaries, simples_temporaries, stmts_temporaries}
pub use Rattle.c_tree.specs.TextOrder.{counting, functions_sites, simple_names, simples_sites, stmts_sites}
pub use Rattle.c_tree.specs.Trees.{Binary, Block, CallFunction, CallModelled, CallSpawn, CallTable, CallTree, Called, Calling, Computed, Conditional, DeclareArray, DeclareScalar, DeclareWith, Do, Empty, ExprTree, For, GlobalElement, If, IfElse, Local, LocalElement, LogicalAnd, LogicalOr, NoStmts, Parenthesized, Return, RightTree, SetGlobal, SetGlobalElement, SetLocal, SetLocalElement, SimpleTree, StmtTree, StmtTrees, Then, Unary, While}
pub use Rattle.c_tree.specs.Views.{chained, expr_step, expr_tree, function_tree, joined, right_tree, simple_tree, stmt_step, stmt_tree, stmt_trees}
pub use Rattle.c_tree.specs.WellScoped.{AreExprsScoped, AreSimplesScoped, AreSiteNumbers, AreStmtsScoped, Context, IsCallScoped, IsConditionScoped, IsExprScoped, IsReturnScoped, IsRightScoped, IsSimpleScoped, IsStepScoped, IsStmtScoped, scope_after, scope_after_all, with_names}
pub use Rattle.c_tree.specs.declared.expressions.Expr.{Expr}
pub use Rattle.c_tree.specs.declared.operators.Infix.{Infix}
pub use Rattle.c_tree.specs.declared.operators.UnaryOperator.{UnaryOperator}
pub use Rattle.c_tree.specs.declared.raw_expressions.RawExpr.{RawExpr}
