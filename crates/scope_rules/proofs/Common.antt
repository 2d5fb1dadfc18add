-- The names that this crate's proofs cite from other crates and from its definitions, passed on from one place. Declares nothing.
pub use Rattle.std.proofs.Common.{[], ◌%◌, ◌*◌, ◌++◌, ◌+◌, ◌-◌, ◌<◌, ◌^◌, ◌∙◌, ◌∷◌, ◌≡◌, ◌≢◌, ◌≤◌, Bool, Err, List, None, Ok, Option, Ordering, Result, Some, add-zero, ap, append_assoc, arith, drop, get_or, length, length-append, map, max, nat_cmp, not, refl, reverse, rules, subst, suc, sym, take, true, zero, ℕ, ⊎_elim}
pub use Rattle.c_tree.proofs.Cuts.{drop_at}
pub use Rattle.std.proofs.ByRecursion.{All-push}
pub use Rattle.std.proofs.Math.ListN.{drop_of_length-le, get_or-append, set}
pub use Rattle.std.proofs.lemmas.Bool.{and_parts, not-false, or_parts}
pub use Rattle.std.proofs.lemmas.Bool.Decides.{nat_tests}
pub use Rattle.std.proofs.lemmas.List.{append-nil, get_or-map, get_or-set_other, get_or_default, length-map, length-reverse, length-set, map-append, map-set, reverse-append, take_all}
pub use Rattle.std.proofs.lemmas.List.Sums.{sum_by-cons}
pub use Rattle.std.proofs.lemmas.Map.Text.{is_eq-slice_cmp}
pub use Rattle.std.proofs.lemmas.Result.{IfErr-weaker, IfOk-weaker, on_ok_weaker}
pub use Rattle.std.specs.BTreeMap.{BTreeMap, UpdatesBy, get, get_by}
pub use Rattle.std.specs.Cmp.Lexicographic.{bytes_decides, nat_list_cmp_total, nat_list_eq_equiv, slice_cmp}
pub use Rattle.std.specs.Global.{Vec}
pub use Rattle.std.specs.List.{AllByRecursion}
pub use Rattle.std.specs.Prelude.{Box, IfErr, IfOk, IsTrue, MatchResult, OnOk, codes, eqb, false, if◌then◌else◌, nat_eq, nat_lt, option_map, slice_index, slice_index_or, sum, ◌&&◌, ◌||◌}
pub use Rattle.std.specs.Str.{bytes_eq}
pub use Rattle.std.specs.declared.alloc.Global.{Global}
pub use mathlib.Core.Logic.{inl, inr, ◌⊎◌}
pub use Rattle.c_tree.proofs.ExprEquations.{expr_tree-Chain, operand_tree}
pub use Rattle.c_tree.proofs.RawExprEquations.{raw_expr_tree-Chain, raw_expr_tree-Conditional, raw_operand_tree}
pub use Rattle.c_tree.proofs.SiteNumbers.{counting-append, counting_site_numbers}
pub use Rattle.c_tree.proofs.StmtEquations.{stmt_tree-For, stmt_tree-If, stmt_tree-IfElse, stmt_tree-While}
pub use Rattle.c_tree.specs.ProgramView.{program_tree}
pub use Rattle.c_tree.specs.RawProgramView.{raw_program_tree}
pub use Rattle.c_tree.specs.RawTemporaries.{AreWithinTemporaries, raw_arguments_temporaries, raw_item_temporaries, raw_optional_temporaries, raw_simple_temporaries, raw_simples_temporaries, raw_step_temporaries, raw_stmt_temporaries, raw_stmts_temporaries, raw_temporaries}
pub use Rattle.c_tree.specs.RawTrees.{And, NameTree, NoExprs, NoRawStmts, RawBinary, RawBlock, RawBreak, RawCall, RawCalling, RawConditional, RawContinue, RawDeclareArray, RawDeclareScalar, RawDeclareWith, RawDo, RawElement, RawEmpty, RawExprTree, RawExprTrees, RawFor, RawFunctionItem, RawGlobal, RawGlobalArray, RawIf, RawIfElse, RawItemTree, RawLogicalAnd, RawLogicalOr, RawName, RawNumber, RawParenthesized, RawPrototypeItem, RawReturn, RawSet, RawSetElement, RawSimpleTree, RawStmtTree, RawStmtTrees, RawTableCall, RawTableCalling, RawTableItem, RawThen, RawUnary, RawWhile}
pub use Rattle.c_tree.specs.RawViews.{as_body, name_tree, raw_arguments, raw_chained, raw_expr_tree, raw_in_order, raw_item_tree, raw_item_trees, raw_joined, raw_simple_tree, raw_stmt_tree, raw_stmt_trees}
pub use Rattle.c_tree.specs.Sizes.{below, declared_words, scalars}
pub use Rattle.c_tree.specs.Temporaries.{arguments_temporaries, call_temporaries, capped, condition_temporaries, expr_temporaries, held_temporaries, returned_temporaries, right_temporaries, simple_temporaries, simples_temporaries, step_temporaries, stmt_temporaries, stmts_temporaries}
pub use Rattle.c_tree.specs.TextOrder.{Declared, call_site, counting, functions_sites, program_sites, returned_sites, right_sites, simple_names, simple_sites, simples_names, simples_sites, step_names, step_sites, stmt_names, stmt_sites, stmts_names, stmts_sites}
pub use Rattle.c_tree.specs.Trees.{Block, CallFunction, CallTree, Called, Calling, Computed, DeclareScalar, DeclareWith, Do, Empty, ExprTree, For, FunctionTree, If, IfElse, NoStmts, ProgramTree, Return, RightTree, SetGlobal, SetGlobalElement, SetLocal, SetLocalElement, SimpleTree, StmtTree, StmtTrees, Then, While}
pub use Rattle.c_tree.specs.Views.{chained, expr_tree, function_tree, in_order, joined, simple_tree, stmt_tree, stmt_trees, table_row}
pub use Rattle.c_tree.specs.WellScoped.{AreExprsScoped, AreFunctionsScoped, AreSimplesScoped, AreSiteNumbers, AreStmtsScoped, Context, IsCallScoped, IsConditionScoped, IsExprScoped, IsFunctionScoped, IsReturnScoped, IsRightScoped, IsSimpleScoped, IsStepScoped, IsStmtScoped, IsWellScoped, call_gives, context_of, scope_after, scope_after_all, signature_of, visible, with_names}
pub use Rattle.c_tree.specs.declared.expressions.Expr.{Expr}
pub use Rattle.c_tree.specs.declared.facts.GlobalFact.{GlobalFact}
pub use Rattle.c_tree.specs.declared.facts.Site.{Site}
pub use Rattle.c_tree.specs.declared.operators.Infix.{Infix}
pub use Rattle.c_tree.specs.declared.statements.ForParts.{ForParts}
pub use Rattle.c_tree.specs.declared.statements.Stmt.{Stmt}
pub use Rattle.cap_word.specs.ModelledCalls.{all_calls, gives_result, name_of, parameters_of}
pub use Rattle.cap_word.specs.Signatures.{IsMember, IsTable, Signature, signature_at}
pub use Rattle.cap_word.specs.declared.limits.Which.{Which}
pub use Rattle.cap_word.specs.declared.modelled_calls.ModelledCall.{ModelledCall}
pub use Rattle.scope_rules.specs.Calls.{arguments_faults, call_by, call_faults, call_name_faults, call_of, right_after, right_faults, right_of, spawn_faults, spawn_of, spawned_faults, spawned_function, table_call_faults, table_call_of, table_name_faults}
pub use Rattle.scope_rules.specs.Expressions.{array_faults, element_value, expr_faults, expr_of, exprs_faults, exprs_of, listed, scalar_faults, scalar_value, use_faults}
pub use Rattle.scope_rules.specs.Faults.{broken, fault, is_before, least_of, lesser, rank}
pub use Rattle.scope_rules.specs.Heads.{head_faults}
pub use Rattle.scope_rules.specs.ItemViews.{IsCounted, exceeded_with, sofar_of}
pub use Rattle.scope_rules.specs.Items.{Sofar, at_start, body_spot, definitions, differ, faults_of, function_faults, function_left, function_tree_of, has_main, is_defined, is_missing, item_after, item_faults, items_after, items_faults, main_faults, members_faults, members_of, outer_faults, outer_in, param_bound, param_faults, params_after, params_faults, params_spot, parts_of, program_of, prototype_faults, repeated_faults, unsized, with_calls, with_definition, with_definitions, with_function}
pub use Rattle.scope_rules.specs.Kept.{kept_with}
pub use Rattle.scope_rules.specs.Limits.{exceeded, most_locals, most_params}
pub use Rattle.scope_rules.specs.Making.{IsMaking, Making, all_closed, back, body_start, closed, closed_each, items_read, making_of, opened, stmts_list, switched, with_statement, with_statements}
pub use Rattle.scope_rules.specs.Meanings.{callee_in, callee_of, function_in, function_of, is_array, is_callable, is_member, is_modelled, is_scalar, is_spawnable, is_table, is_void, is_wrong_count, table_in, table_of, takes, variable_in, variable_of}
pub use Rattle.scope_rules.specs.Names.{AreLinked, Binding, Changes, Finds, binding_of, bound, find, is_fixed}
pub use Rattle.scope_rules.specs.Numbered.{IsResolvedBy, call_numbered, function_numbered, number_at, numbered, right_numbered, simple_numbered, stmt_numbered, stmts_numbered}
pub use Rattle.scope_rules.specs.Operands.{operand_trees, operands_faults, operands_of}
pub use Rattle.scope_rules.specs.Outcomes.{IsLeast, IsNoMemory, IsOneOf, IsRefused, IsResolved, further, here, refusal_by}
pub use Rattle.scope_rules.specs.Places.{Spot, called, spot_of}
pub use Rattle.scope_rules.specs.Reading.{Agrees, HaveRead}
pub use Rattle.scope_rules.specs.Simples.{declare_faults, next_variable, set_element, set_scalar, simple_after, simple_faults, simple_of, simples_after, simples_faults, simples_of, size_faults, with_variable}
pub use Rattle.scope_rules.specs.Statements.{condition_faults, inside, left, parts_faults, return_faults, returned_after, returned_of, step_after, step_faults, step_kind, stmt_after, stmt_faults, stmt_of, stmts_after, stmts_faults, stmts_of}
pub use Rattle.scope_rules.specs.declared.errors.ScopeError.{ScopeError}
pub use Rattle.scope_rules.specs.declared.faults.Fault.{Fault}
pub use Rattle.scope_rules.specs.declared.faults.Rule.{Rule}
pub use Rattle.scope_rules.specs.declared.items.Items.{Items}
pub use Rattle.scope_rules.specs.declared.meanings.Found.{Found}
pub use Rattle.scope_rules.specs.declared.meanings.Meaning.{Meaning}
pub use Rattle.scope_rules.specs.declared.meanings.Variable.{Variable}
