-- The names that this crate's proofs cite from other crates and from its definitions, passed on from one place. Declares nothing.
pub use Rattle.std.proofs.Common.{[], ◌++◌, ◌+◌, ◌<◌, ◌∙◌, ◌∷◌, ◌≡◌, ◌≢◌, ◌≤◌, ◌⊎◌, Bool, List, ap, append-nil, append_assoc, arith, drop, get_or, inl, inr, length, length-append, length-set, map, nat_eq, option_map, refl, subst, suc, sym, take, zero, ℕ}
pub use Rattle.std.proofs.ByRecursion.{All-push}
pub use Rattle.std.proofs.lemmas.Bool.{cases_eq, cond-false, cond-true, eq-eqb, le-ltb, lt-ltb, ne_eqb}
pub use Rattle.std.proofs.lemmas.List.{get_or-drop, get_or-take, length-drop, length-map, length-take-le, map-append}
pub use Rattle.std.specs.List.{AllByRecursion, Contains}
pub use Rattle.std.specs.Prelude.{Err, IsSome, None, Ok, Option, Result, Some, false, nat_lt, option_and_then, slice_get, slice_index, slice_index_or, slice_set, sum, true}
pub use Rattle.c_tree.specs.TextOrder.{call_site, simple_names}
pub use Rattle.c_tree.specs.Trees.{Binary, CallFunction, CallModelled, CallSpawn, CallTable, CallTree, Called, Calling, Computed, Conditional, DeclareWith, ExprTree, Global, GlobalElement, Local, LocalElement, LogicalAnd, LogicalOr, Number, Parenthesized, ProgramTree, RightTree, SetGlobal, SetGlobalElement, SetLocal, SetLocalElement, SimpleTree, Unary}
pub use Rattle.c_tree.specs.WellScoped.{Context, IsExprScoped, scope_after, scope_after_all, with_names}
pub use Rattle.cap_word.specs.Calls.{Answer, Blocking, Call, Finish, Immediate, Question, call_of, call_on, call_with}
pub use Rattle.cap_word.specs.ModelledCalls.{call_numbered, number_of, parameters_of}
pub use Rattle.cap_word.specs.Runs.{Asks, Goes, Over, Progress, Stops, Unfinished, and_then, moves, on_from, played, run}
unfoldable pub use Rattle.cap_word.specs.Word.{add, div, flag, floor_div, mul, rem, signed, sll, sra, sub, word_of}
pub use Rattle.cap_word.specs.declared.calls.Block.{Block}
pub use Rattle.cap_word.specs.declared.traps.TrapKind.{TrapKind}
pub use Rattle.c_mean.specs.Frames.{InGlobal, InGlobalElement, InLocal, InLocalElement, Nowhere, Place, Returned, Running, Waiting, WaitingFrame, function_at}
pub use Rattle.c_mean.specs.Layout.{IsInRange, rows_of, widths_of}
pub use Rattle.c_mean.specs.ModelledCalls.{Exchange, ImmediateRow, blocking_row, immediate_row, wake_of, wakes_at}
pub use Rattle.c_mean.specs.Sites.{CallInText, Target, ToCaller, ToGlobal, ToGlobalElement, ToLocal, ToLocalElement, WaitsInText, function_calls, returned_calls, right_calls, simple_calls, simples_calls, step_calls, stmt_calls, stmts_calls, target_of}
pub use Rattle.c_mean.specs.Steps.{SourceMove, all_valued, asks_if, assigned, assigns, branched, called, delivered, delivered_or, does, entered, entered_where, gives_back, on_value, performs, performs_first, returned, source_machine, source_resume, source_step, started, stored, stored_where, to_do, valued, waits_at}
pub use Rattle.c_mean.specs.ToDo.{Back, Choose, Enter, Fail, ForLoop, GiveBack, GiveBackWord, Item, Leave, Loop, Simply, Skip, Test, WhileLoop, after_leave, after_skip, all_before, before, begun, body_before, skipped, step_item, turn_before}
pub use Rattle.c_mean.specs.Values.{Value, in_range, value, values, with_first}
pub use Rattle.c_mean.specs.World.{Blocked, Deliver, Ended, Entry, Fresh, IsAfter, IsAfterEntry, Rest, Run, Segment, SegmentMove, World, after_ask, begun_at, calls, rests, segment_machine, segment_move, segment_step, start_world, unless_trap, with_started}
