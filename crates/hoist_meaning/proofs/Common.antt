-- The names that this crate's proofs cite from other crates and from its definitions, passed on from one place. Declares nothing.
pub use Rattle.scope_rules.proofs.LeastFaults.{less}
pub use Rattle.scope_rules.proofs.Programs.{params_site, scalars_length}
pub use Rattle.std.proofs.Common.{[], ◌++◌, ◌+◌, ◌-◌, ◌<◌, ◌∙◌, ◌∷◌, ◌≡◌, ◌≢◌, ◌≤◌, ◌⊎◌, Bool, List, None, Option, Some, ap, append_assoc, arith, drop, false, inl, inr, length-append, length-set, refl, set, subst, suc, sym, true, zero, ℕ, ⊎_elim}
pub use Rattle.std.proofs.lemmas.Bool.{cases_eq, cases_lt, not-false, or_parts}
pub use Rattle.std.proofs.lemmas.Bool.Decides.{nat_tests}
pub use Rattle.std.proofs.lemmas.List.{append-nil, get_or-set_other, length-map, length-replicate}
pub use Rattle.std.proofs.lemmas.Slice.Eq.{bytes_eq-Decides}
pub use Rattle.std.specs.List.{AllByRecursion, Contains}
pub use Rattle.std.specs.Prelude.{Err, Ok, Result, codes, if◌then◌else◌, length, map, nat_eq, nat_lt, not, option_map, replicate, slice_get, slice_index, slice_index_or, slice_set, sum, take, ◌%◌, ◌^◌, ◌||◌}
pub use Rattle.std.specs.Str.{bytes_eq}
pub use Rattle.c_mean.proofs.StandLemmas.{MoveStands, Stands, resume_stands, started_stands, step_stands}
pub use Rattle.c_mean.specs.Frames.{InGlobal, InGlobalElement, InLocal, InLocalElement, Nowhere, Place, Returned, Running, Waiting, WaitingFrame, function_at, key_of}
pub use Rattle.c_mean.specs.ModelledCalls.{Delivery, Exchange, ImmediateRow, blocking_row, immediate_row, with_delivery}
pub use Rattle.c_mean.specs.Operators.{binary_value, unary_value}
pub use Rattle.c_mean.specs.Sites.{CallInText, Target, ToCaller, ToGlobal, ToGlobalElement, ToLocal, ToLocalElement, ToNowhere, WaitsInText, function_calls, returned_calls, right_calls, simple_calls, simples_calls, step_calls, stmt_calls, stmts_calls}
pub use Rattle.c_mean.specs.Steps.{SourceMove, all_valued, asks, asks_if, assigned, assigns, branched, called, delivered, does, entered, entered_by, entered_where, gives_back, on_value, performs_first, returned, source_machine, source_step, started, stored, stored_where, to_do, trapped, valued}
pub use Rattle.c_mean.specs.ToDo.{Back, Choose, Enter, Fail, ForLoop, GiveBack, GiveBackWord, Item, Leave, Loop, Simply, Skip, Test, WhileLoop, all_before, step_item, turn_before}
pub use Rattle.c_mean.specs.Values.{Value, choice, element, in_range, on_both, on_one, truth, value, values, with_first}
pub use Rattle.c_mean.specs.World.{Deliver, Entry, Rest, Rested, Run, Segment, World, empty_exchange, with_printed}
pub use Rattle.c_tree.specs.RawTrees.{And, NameTree, NoExprs, NoRawStmts, RawBinary, RawBlock, RawBreak, RawCall, RawCalling, RawConditional, RawContinue, RawDeclareArray, RawDeclareScalar, RawDeclareWith, RawDo, RawElement, RawEmpty, RawExprTree, RawExprTrees, RawFor, RawFunctionItem, RawGlobal, RawGlobalArray, RawIf, RawIfElse, RawItemTree, RawLogicalAnd, RawLogicalOr, RawName, RawNumber, RawParenthesized, RawPrototypeItem, RawReturn, RawSet, RawSetElement, RawSimpleTree, RawStmtTree, RawStmtTrees, RawTableCall, RawTableCalling, RawTableItem, RawThen, RawUnary, RawWhile}
pub use Rattle.c_tree.specs.RawViews.{as_body, raw_in_order, raw_joined}
pub use Rattle.c_tree.specs.Temporaries.{capped}
pub use Rattle.c_tree.specs.TextOrder.{functions_sites, program_sites, returned_sites, right_sites, simple_names, simple_sites, simples_sites, step_sites, stmt_sites, stmts_sites}
pub use Rattle.c_tree.specs.Trees.{Block, CallFunction, CallModelled, CallSpawn, CallTable, CallTree, Called, Calling, Computed, DeclareScalar, DeclareWith, Do, Empty, ExprTree, For, FunctionTree, If, IfElse, NoStmts, Number, ProgramTree, Return, RightTree, SetGlobal, SetGlobalElement, SetLocal, SetLocalElement, SimpleTree, StmtTree, StmtTrees, Then, Unary, While}
pub use Rattle.c_tree.specs.WellScoped.{AreFunctionsScoped, AreSimplesScoped, AreStmtsScoped, Context, IsCallScoped, IsFunctionScoped, IsReturnScoped, IsRightScoped, IsSimpleScoped, IsStepScoped, IsStmtScoped, IsWellScoped, context_of, scope_after, scope_after_all, signature_of, with_names}
pub use Rattle.c_tree.specs.WholeCalls.{AreCallsWhole, AreSimplesWhole, AreStmtsWhole, HasNoCall, HaveNoCall, IsConditionWhole, IsItemWhole, IsReturnWhole, IsSimpleWhole, IsStepWhole, IsStmtWhole, IsValueWhole}
pub use Rattle.c_tree.specs.WholeForParts.{AreForPartsWhole, AreForsWhole, IsForWhole, IsItemForWhole}
pub use Rattle.c_tree.specs.declared.operators.BinaryOperator.{BinaryOperator}
pub use Rattle.c_tree.specs.declared.operators.UnaryOperator.{UnaryOperator}
pub use Rattle.cap_word.proofs.Following.{Came, Comes, RunComes, asks_at, came, comes, run_came, run_comes, stops_at}
pub use Rattle.cap_word.proofs.RunLemmas.{asks_stay, goes_on}
pub use Rattle.cap_word.specs.Calls.{Answer, Blocking, Call, Finish, Immediate, Question, call_of, call_with, spawn_of}
pub use Rattle.cap_word.specs.ModelledCalls.{all_calls, name_of, number_of}
pub use Rattle.cap_word.specs.Rows.{row, scalars, width, with_word, with_zeros, zeros}
pub use Rattle.cap_word.specs.Runs.{Asks, Follows, Goes, IsAnswered, Machine, Move, Over, Progress, Stops, Unfinished, and_then, moves, run, seen}
unfoldable pub use Rattle.cap_word.specs.Word.{flag}
pub use Rattle.cap_word.specs.declared.calls.Ask.{Ask}
pub use Rattle.cap_word.specs.declared.modelled_calls.ModelledCall.{ModelledCall}
pub use Rattle.cap_word.specs.declared.traps.TrapKind.{TrapKind}
pub use Rattle.deep_mean.specs.DeepFrames.{DeepRunning, DeepWaiting, DeepWaitingFrame}
pub use Rattle.deep_mean.specs.DeepSteps.{DeepMove, deep_machine, deep_step}
pub use Rattle.deep_mean.specs.DeepToDo.{Branches, IndexesGlobal, IndexesLocal, Returns, Stores, Tests, Use}
pub use Rattle.deep_mean.specs.DeepTrees.{Binary, Callee, Conditional, DeepExpr, DeepFunction, DeepProgram, DeepSimple, DeepStmt, Function, LogicalAnd, LogicalOr, Modelled, Spawned}
pub use Rattle.deep_mean.specs.DeepWorld.{DeepRest, DeepRested, DeepSegment, DeepWorld}
pub use Rattle.deep_mean.specs.Evaluation.{Around, Calls, Done, Evaluation, InParentheses, IndexOfGlobal, IndexOfLocal, OperandOf, Ready, ReadyCall, ReadyTableCall, Trapped, evaluate, evaluate_arguments, go_on, of_value}
pub use Rattle.deep_mean.specs.Naming.{DeepSofar, all_calls_in, callee_by, calls_in, counted, deep_program, deep_start, is_spawn_by}
pub use Rattle.grammar_laws.proofs.NoNames.{no_declared, no_parameters, no_used}
pub use Rattle.grammar_laws.proofs.RankLaws.{no_greater_both, rank_is, ranks_length}
pub use Rattle.grammar_laws.specs.Nested.{is_call}
pub use Rattle.grammar_laws.specs.Places.{Declared, Used, expr_places, exprs_places, item_places, items_places, names_places, optional_places, parameters_places, simple_places, simples_places, step_places, stmt_places, stmts_places}
pub use Rattle.grammar_laws.specs.Ranks.{lesser, no_greater, ranks, site_numbers}
pub use Rattle.grammar_laws.specs.Rising.{RiseWithin}
pub use Rattle.hoist_parts.proofs.Kept.{held_not, no_simple_before, simple_kept}
pub use Rattle.hoist_parts.proofs.Names.{BeginsWithDigit, new_begins, new_distinct}
pub use Rattle.hoist_parts.proofs.NoCalls.{no_before, no_left, no_names, or_left, or_right}
pub use Rattle.hoist_parts.proofs.Whole.{AllWhole, all_hoisted_whole, arguments_whole, in_order_whole, items_hoisted_whole, left_whole, not_held}
pub use Rattle.hoist_parts.specs.Calls.{hold_call, holds_call, holds_nested, is_named, is_spawn}
pub use Rattle.hoist_parts.specs.Expressions.{argument_left, arguments_before, arguments_left, arguments_names, before, call_left, decided, in_block, index_left, is_false, is_true, left_of, names_in, one_if, part_after, part_named, part_or, spawned_left, table_call_left}
pub use Rattle.hoist_parts.specs.NewNames.{declared, declared_as, new_name, set_to, used}
pub use Rattle.hoist_parts.specs.Statements.{all_hoisted, hoisted, item_hoisted, items_hoisted, returned_before, returned_left, simple_before, simple_left, stmt_names, table_before, turn_of, value_before, value_left, value_names, while_calling}
pub use Rattle.scope_rules.proofs.NoFaults.{both_none, not_broken, same_number}
pub use Rattle.scope_rules.specs.Calls.{arguments_faults, call_faults, call_name_faults, right_after, right_faults, right_of, spawned_faults, table_call_faults, table_name_faults}
pub use Rattle.scope_rules.specs.Expressions.{array_faults, element_value, expr_faults, expr_of, exprs_faults, exprs_of, listed, scalar_faults, scalar_value, use_faults}
pub use Rattle.scope_rules.specs.Faults.{broken}
pub use Rattle.scope_rules.specs.Items.{Sofar, at_start, body_spot, definitions, faults_of, function_faults, function_tree_of, is_defined, item_after, item_faults, items_after, items_faults, main_faults, members_of, modelled, modelled_names, params_after, params_faults, params_spot, program_of, with_calls, with_definition, with_definitions, with_function}
pub use Rattle.scope_rules.specs.Meanings.{callee_in, callee_of, function_in, function_of, is_array, is_modelled, is_scalar, is_wrong_count, table_in, table_of, takes, variable_in, variable_of}
pub use Rattle.scope_rules.specs.Names.{Binding, bound, find, is_fixed}
pub use Rattle.scope_rules.specs.Numbered.{IsResolvedBy, call_numbered, function_numbered, number_at, numbered, right_numbered, simple_numbered, stmt_numbered, stmts_numbered}
pub use Rattle.scope_rules.specs.Places.{Spot}
pub use Rattle.scope_rules.specs.Simples.{declare_faults, next_variable, set_element, set_scalar, simple_after, simple_faults, simple_of, simples_after, simples_faults, simples_of, with_variable}
pub use Rattle.scope_rules.specs.Statements.{condition_faults, inside, left, returned_after, returned_of, step_after, step_faults, step_kind, stmt_after, stmt_faults, stmt_of, stmts_after, stmts_faults, stmts_of}
pub use Rattle.scope_rules.specs.declared.faults.Rule.{Rule}
pub use Rattle.scope_rules.specs.declared.meanings.Found.{Found}
pub use Rattle.scope_rules.specs.declared.meanings.Meaning.{Meaning}
pub use Rattle.scope_rules.specs.declared.meanings.Variable.{Variable}
pub use Rattle.hoist_meaning.specs.CallPlaces.{StandsAt, times}
pub use Rattle.hoist_meaning.specs.SameRuns.{BothBlocked, BothEnded, BothFresh, FitsFunction, RestAlike, RestsAlike, RunsTheSame, ThreadStart, WorldsAlike, shown_by_program, shown_by_text}
pub use Rattle.hoist_meaning.specs.SourceNames.{AllSourceNames, AreItemsNamed, AreNamed, AreParamsNamed, AreSimplesNamed, AreSourceNames, AreStmtsNamed, IsItemNamed, IsOptionNamed, IsSimpleNamed, IsSourceName, IsStepNamed, IsStmtNamed}
pub use Rattle.hoist_meaning.specs.SpawnArguments.{AreItemsPlain, ArePlain, AreStmtsPlain, IsItemPlain, IsOptionPlain, IsPlain, IsSimplePlain, IsStmtPlain}
