-- The names that this crate's proofs cite from other crates and from its definitions, passed on from one place. Declares nothing.
pub use Rattle.std.proofs.Common.{[], ◌++◌, ◌+◌, ◌<◌, ◌^◌, ◌∙◌, ◌∷◌, ◌≡◌, ◌≤◌, Bool, List, ap, append_assoc, arith, drop, eqb, get_or, length, length-append, lit<, map, max, refl, rules, subst, suc, sym, take, true, zero, ℕ}
pub use Rattle.std.proofs.ByRecursion.{All-append}
pub use Rattle.std.proofs.Math.ListN.{get_or-append, set}
pub use Rattle.std.proofs.lemmas.List.{append-nil, length-set, map-append}
pub use Rattle.std.proofs.lemmas.List.Sums.{sum_by-append, sum_by-cons}
pub use Rattle.std.proofs.lemmas.Result.{on_ok_weaker}
pub use Rattle.std.specs.List.{AllByRecursion, IsDistinct, filter_map, flat_map}
pub use Rattle.std.specs.Prelude.{IsTrue, None, Option, Some, false, if◌then◌else◌, option_map, replicate, slice_index, sum, unwrap_or}
pub use Rattle.c_tree.proofs.Cuts.{drop_at}
pub use Rattle.c_tree.proofs.ExprEquations.{expr_tree-Chain, expr_tree-Conditional, expr_tree-GlobalElement, expr_tree-LocalElement, expr_tree-Unary, operand_tree}
pub use Rattle.c_tree.specs.Sizes.{below, declared_words, scalars}
pub use Rattle.c_tree.specs.Temporaries.{arguments_temporaries, call_temporaries, condition_temporaries, expr_temporaries, function_temporaries, held_temporaries, operand_temporaries, returned_temporaries, right_temporaries, simple_temporaries, simples_temporaries, step_temporaries, stmt_temporaries, stmts_temporaries}
pub use Rattle.c_tree.specs.TextOrder.{Declared, call_site, functions_sites, program_sites, returned_sites, right_sites, simple_names, simple_sites, simples_names, simples_sites, step_names, step_sites, stmt_names, stmt_sites, stmts_names, stmts_sites}
pub use Rattle.c_tree.specs.Trees.{Binary, Block, Break, CallFunction, CallModelled, CallSpawn, CallTable, CallTree, Called, Calling, Computed, Conditional, Continue, DeclareArray, DeclareScalar, DeclareWith, Do, Empty, ExprTree, For, FunctionTree, Global, GlobalElement, If, IfElse, Local, LocalElement, LogicalAnd, LogicalOr, NoStmts, Number, Parenthesized, ProgramTree, Return, RightTree, SetGlobal, SetGlobalElement, SetLocal, SetLocalElement, SimpleTree, StmtTree, StmtTrees, Then, Unary, While}
pub use Rattle.c_tree.specs.Views.{chained, expr_tree, function_tree, joined, right_tree, simple_tree, stmt_tree, stmt_trees, table_row}
pub use Rattle.c_tree.specs.WellScoped.{AreExprsScoped, AreFunctionsScoped, AreSimplesScoped, AreStmtsScoped, Context, IsCallScoped, IsConditionScoped, IsExprScoped, IsFunctionScoped, IsReturnScoped, IsRightScoped, IsSimpleScoped, IsStepScoped, IsStmtScoped, IsWellScoped, call_gives, scope_after, scope_after_all, with_names}
pub use Rattle.c_tree.specs.declared.operators.Infix.{Infix}
pub use Rattle.c_tree.specs.declared.operators.UnaryOperator.{UnaryOperator}
pub use Rattle.flat_code.specs.Codes.{code_of, site_of}
pub use Rattle.flat_code.specs.WellFormed.{IsFunction, IsGlobalScalar, IsOperation, IsResultPlace, IsScalar, IsWellFormed, site_numbers}
pub use Rattle.flat_code.specs.declared.functions.FlatFunction.{FlatFunction}
pub use Rattle.flat_code.specs.declared.operations.Op.{Op}
pub use Rattle.c_lower.specs.CallCode.{arguments_code, arguments_in, arguments_size, call_code, call_size, held_code, held_size, set_code, set_size}
pub use Rattle.c_lower.specs.Chains.{infix_size, operand_code, operands_code, operands_size, truth_code}
pub use Rattle.c_lower.specs.ExprCode.{expr_code, expr_size}
pub use Rattle.c_lower.specs.Operations.{unary_code, unary_size}
pub use Rattle.c_lower.specs.ProgramCode.{closing_code, first_temporary, function_ops, function_sizes, lowered, lowered_function, lowered_global}
pub use Rattle.c_lower.specs.StmtCode.{return_code, return_size, simple_code, simple_size, simples_code, simples_size, step_code, step_size, stmt_code, stmt_size, stmts_code, stmts_size, test_code, test_size}
pub use Rattle.c_lower.specs.StmtSizes.{stmt_sizes, stmts_sizes}
