-- The names that this crate's proofs cite from other crates and from its definitions, passed on from one place. Declares nothing.
pub use Rattle.std.proofs.Common.{[], ◌++◌, ◌+◌, ◌-◌, ◌<◌, ◌^◌, ◌∙◌, ◌∷◌, ◌≡◌, ◌≤◌, List, ap, append_assoc, arith, drop, get_or, length, map, refl, set, subst, suc, sym, take, vec_len, zero, ℕ, ⊎_elim}
pub use Rattle.std.proofs.lemmas.Bool.{cases_lt, le-ltb, lt-ltb}
pub use Rattle.std.proofs.lemmas.List.{drop-replicate, drop-set-add, drop-set-lt, drop_all, drop_at, get_or-map, get_or-reverse, get_or-set_same, get_or_append_left, get_or_push, get_or_read, length-append, length-map, length-replicate, length-reverse, length-set, length_push, map_more, map_push, reverse-append, set-set, take-replicate, take-set-le, take_all, take_at, take_more, take_more_set, with_items_is}
pub use Rattle.std.proofs.lemmas.List.Sums.{sum_by-cons}
pub use Rattle.std.proofs.lemmas.Result.{err_from_is_err_and, on_ok_weaker}
pub use Rattle.std.specs.List.{AllByRecursion}
pub use Rattle.std.specs.Prelude.{Bool, Err, IfOk, IfSome, MatchResult, None, Ok, OnOk, Option, Result, Some, Vec, false, nat_lt, option_map, option_to_list, replicate, reverse, slice_get, slice_index, slice_index_or, slice_set, sum, true}
pub use Rattle.c_mean.proofs.CallLemmas.{counted, each_made}
pub use Rattle.c_mean.proofs.LayoutLemmas.{sum-cons, sum-take-le, sum_next, sum_next-le, width_is, widths_length}
pub use Rattle.c_mean.proofs.WorldLemmas.{scoped_in_range}
pub use Rattle.c_mean.specs.Frames.{Running, function_at, pushed}
pub use Rattle.c_mean.specs.Layout.{IsInRange, rows_of, widths_of}
pub use Rattle.c_mean.specs.Steps.{SourceMove, all_valued, asks_if, delivered_or, entered, entered_by, entered_where, gives_back, on_value, performs, performs_first, returned, source_machine, source_step, stored, stored_where, trapped, waits_at, with_globals, with_names}
pub use Rattle.c_mean.specs.Values.{Value, value, values, with_first}
pub use Rattle.c_tree.specs.Sizes.{below, declared_words, scalars}
pub use Rattle.c_tree.specs.Trees.{Block, Break, Continue, DeclareScalar, Do, Empty, ExprTree, For, FunctionTree, If, IfElse, NoStmts, ProgramTree, Return, RightTree, SimpleTree, StmtTree, While}
pub use Rattle.c_tree.specs.Views.{expr_tree, function_tree, right_tree, simple_tree, stmt_tree, stmt_trees}
pub use Rattle.c_tree.specs.WellScoped.{AreExprsScoped, AreFunctionsScoped, AreStmtsScoped, Context, IsFunctionScoped, IsWellScoped, signature_of}
pub use Rattle.c_tree.specs.declared.expressions.Expr.{Expr}
pub use Rattle.c_tree.specs.declared.facts.GlobalFact.{GlobalFact}
pub use Rattle.c_tree.specs.declared.statements.Stmt.{Stmt}
pub use Rattle.cap_word.specs.Calls.{Blocking, Call, Immediate, call_of, call_with}
pub use Rattle.cap_word.specs.Rows.{width, with_word, with_zeros}
pub use Rattle.cap_word.specs.Runs.{Asks, Goes, Stops, and_then, moves}
pub use Rattle.cap_word.specs.Signatures.{IsMember, IsTable, Signature}
pub use Rattle.cap_word.specs.declared.traps.TrapKind.{TrapKind}
pub use Rattle.source_items.specs.Items.{AreItems, HasPart, IsLoop, IsScoped, condition_of, item_of, loop_of, start_of, step_of, to_do}
pub use Rattle.source_items.specs.Rows.{rows_in}
pub use Rattle.source_items.specs.declared.items.Item.{Item}
pub use Rattle.source_items.specs.declared.items.Part.{Part}
pub use Rattle.source_runs.specs.Layouts.{AreLayouts, AreSmall, InSomeScope, IsLayout, context_at, params_at, sizes_at, tree_of}
pub use Rattle.source_runs.specs.Steps.{HasHalted, HasStepped, IsAskThere, IsCalling, LeadsTo}
pub use Rattle.source_runs.specs.Threads.{IsFrame, IsPlace, IsThread, IsWaitingFrame, below_of, frame_of, globals_of, place_of, running_of, to_do_by, waiting_frame_of, waiting_of}
pub use Rattle.source_runs.specs.declared.frames.Place.{Place}
pub use Rattle.source_runs.specs.declared.frames.Thread.{Thread}
pub use Rattle.source_runs.specs.declared.frames.WaitingFrame.{WaitingFrame}
pub use Rattle.source_runs.specs.declared.halts.Halt.{Halt}
pub use Rattle.source_runs.specs.declared.interpreter.Move.{Move}
