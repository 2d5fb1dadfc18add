-- The names that this crate's proofs cite from other crates and from its definitions, passed on from one place. Declares nothing.
pub use Rattle.c_mean.proofs.StandLemmas.{contains_seam}
pub use Rattle.std.proofs.Common.{◌*◌, ◌++◌, ◌-◌, ◌<◌, ◌^◌, ◌∙◌, ◌≢◌, ◌≤◌, ◌⊎◌, ap, append_assoc, arith, cond, drop, get_or, inl, inr, length-append, lit<, lit≤, ltb, map, not, refl, replicate, set, subst, suc, sym, take, zero, ⊎_elim}
pub use Rattle.c_lower.proofs.Formed.{expr_takes_one}
pub use Rattle.c_mean.proofs.WorldLemmas.{slice_get-set_other}
pub use Rattle.machine_world.proofs.CountedLaws.{first_with-number}
pub use Rattle.machine_world.proofs.LinkLaws.{read-write_same}
pub use Rattle.machine_world.proofs.OtherThreads.{first_with-append, first_with-replaced, first_with-without}
pub use Rattle.segment_laws.proofs.Passing.{kept}
pub use Rattle.std.proofs.ByRecursion.{All-append, All-weaker}
pub use Rattle.std.proofs.Math.Seq.{map-set_same}
pub use Rattle.std.proofs.lemmas.Bool.{cases_eq, cases_lt, cond-false, cond-true, cond_both, eq-eqb, eqb-false, le-ltb, lt-ltb, ltb-true, ne_eqb}
pub use Rattle.std.proofs.lemmas.List.{append-nil, get_or-map, get_or-set_other, get_or-set_same, get_or_append_left, length-drop, length-map, length-replicate, length-set, length-take-le, map-append, take-append-drop}
pub use Rattle.std.proofs.lemmas.List.Sums.{sum_by-cons}
pub use Rattle.std.proofs.lemmas.Map.Keys.{IsDistinct-head, IsDistinct-tail}
pub use Rattle.std.proofs.lemmas.Option.{slice_get_within}
pub use Rattle.std.specs.List.{AllByRecursion, Contains, cons_option, flat_map}
unfoldable pub use Rattle.std.specs.List.{IsDistinct}
pub use Rattle.std.specs.Prelude.{Bool, Err, IsSome, IsTrue, List, None, Ok, Option, Result, Some, [], bit_xor, eqb, false, is_none, length, max, nat_eq, nat_le, nat_lt, option_map, slice_get, slice_index, slice_index_or, slice_set, sum, sum_by, true, ℕ, ◌&&◌, ◌+◌, ◌||◌, ◌∷◌, ◌≡◌}
pub use Rattle.c_lower.proofs.CodeSizes.{arguments_length, expr_length, held_length, simple_length, simples_length, step_length, stmt_length, stmts_length, test_length}
pub use Rattle.c_lower.proofs.PlainCode.{ArePlain, IsPlain, arguments_plain, expr_plain, is_reset}
pub use Rattle.c_lower.proofs.Sites.{sites_distinct}
pub use Rattle.c_lower.specs.CallCode.{arguments_code, arguments_in, arguments_size, call_code, call_size, held_code, held_size, set_code, set_size}
pub use Rattle.c_lower.specs.ExprCode.{expr_code, expr_size}
pub use Rattle.c_lower.specs.Operations.{operator_of}
pub use Rattle.c_lower.specs.ProgramCode.{closing_code, first_temporary, function_ops, function_sizes, lowered, lowered_function, lowered_global}
pub use Rattle.c_lower.specs.StmtCode.{return_code, simple_code, simple_size, simples_code, simples_size, step_code, step_size, stmt_code, stmt_size, stmts_code, stmts_size, test_code, test_size}
pub use Rattle.c_mean.proofs.CallLemmas.{counted, known, made_of}
pub use Rattle.c_mean.proofs.TextLemmas.{AllIn, all_in_parts, loop_calls}
pub use Rattle.c_mean.specs.Frames.{InGlobal, InGlobalElement, InLocal, InLocalElement, Nowhere, Place, Returned, Running, Waiting, WaitingFrame, function_at, pushed}
pub use Rattle.c_mean.specs.ModelledCalls.{Delivery, Exchange, blocking_row, immediate_row, is_dropped, with_delivery}
pub use Rattle.c_mean.specs.Sites.{CallInText, Target, ToCaller, ToGlobal, ToGlobalElement, ToLocal, ToLocalElement, ToNowhere, WaitsAt, function_calls, returned_calls, right_calls, simple_calls, simples_calls, step_calls, stmt_calls, stmts_calls, target_of}
pub use Rattle.c_mean.specs.Steps.{SourceMove, all_valued, asks, asks_if, assigned, assigns, branched, called, delivered, delivered_or, does, entered, entered_by, entered_where, gives_back, on_value, performs, performs_first, returned, source_machine, source_resume, source_step, start_globals, started, stored, stored_where, to_do, valued, waits_at}
pub use Rattle.c_mean.specs.ToDo.{Back, Choose, Enter, Fail, ForLoop, GiveBack, GiveBackWord, Item, Leave, Loop, Simply, Skip, Test, WhileLoop, after_leave, after_skip, all_before, before, body_before, skipped, step_item, turn_before}
pub use Rattle.c_mean.specs.Values.{Value, choice, element, in_range, on_both, on_one, truth, value, with_first}
pub use Rattle.c_mean.specs.World.{Rest, Segment, begun, begun_at, segment_machine, thread_moves}
pub use Rattle.c_tree.specs.Sizes.{below, declared_words}
pub use Rattle.c_tree.specs.Temporaries.{arguments_temporaries, call_temporaries, condition_temporaries, expr_temporaries, function_temporaries, held_temporaries, returned_temporaries, right_temporaries, simple_temporaries, simples_temporaries, step_temporaries, stmt_temporaries, stmts_temporaries}
pub use Rattle.c_tree.specs.TextOrder.{Declared, call_site, scalar, simple_names}
pub use Rattle.c_tree.specs.Trees.{Binary, Block, Break, CallFunction, CallModelled, CallSpawn, CallTable, CallTree, Called, Calling, Computed, Conditional, Continue, DeclareArray, DeclareScalar, DeclareWith, Do, Empty, ExprTree, For, FunctionTree, GlobalElement, If, IfElse, LocalElement, LogicalAnd, LogicalOr, NoStmts, Parenthesized, ProgramTree, Return, RightTree, SetGlobal, SetGlobalElement, SetLocal, SetLocalElement, SimpleTree, StmtTree, StmtTrees, Then, Unary, While}
pub use Rattle.c_tree.specs.WellScoped.{AreExprsScoped, AreFunctionsScoped, AreSimplesScoped, AreStmtsScoped, Context, IsCallScoped, IsConditionScoped, IsExprScoped, IsFunctionScoped, IsReturnScoped, IsRightScoped, IsSimpleScoped, IsStepScoped, IsStmtScoped, IsWellScoped, context_of, scope_after, scope_after_all, signature_of, visible, with_names}
pub use Rattle.c_tree.specs.declared.operators.UnaryOperator.{UnaryOperator}
pub use Rattle.cap_word.proofs.RunLemmas.{goes_on, moves_add, stops_stay}
pub use Rattle.cap_word.specs.Calls.{Answer, Blocking, Call, Finish, Immediate, Question, call_of, call_with, most_threads, spawn_of}
pub use Rattle.cap_word.specs.ModelledCalls.{number_of}
pub use Rattle.cap_word.specs.Rows.{row, width, with_word, with_zeros, word_at}
pub use Rattle.cap_word.specs.Runs.{Asks, Follows, Goes, IsAnswered, Stops, and_then, moves}
pub use Rattle.cap_word.specs.Signatures.{IsMember, IsTable, Signature, signature_at}
pub use Rattle.cap_word.specs.declared.calls.Ask.{Ask}
pub use Rattle.cap_word.specs.declared.modelled_calls.ModelledCall.{ModelledCall}
pub use Rattle.cap_word.specs.declared.stops.Stop.{Stop}
pub use Rattle.cap_word.specs.declared.traps.TrapKind.{TrapKind}
pub use Rattle.certificate_rules.specs.Validity.{IsValid}
pub use Rattle.chunk_pool.specs.Pool.{Pool, Taken, all_free, chunk_of, taken_for}
pub use Rattle.flat_code.specs.Codes.{FlatCode, members_of, operation_at, result_place, site_of}
pub use Rattle.flat_code.specs.Frames.{End, Finished, FlatFrame, FlatThread, FlatWaiting, Lost, site_in, standing, variable, with_result}
pub use Rattle.flat_code.specs.Modelled.{modelled_gives}
pub use Rattle.flat_code.specs.Operators.{result_of}
pub use Rattle.flat_code.specs.Step.{FlatMove, answered, both, enters, enters_by, finishing, finishing_move, first, flat_machine, flat_resume, flat_step, goes_with, on, place_in, puts, returns, scalars, where_in, within}
pub use Rattle.flat_code.specs.declared.functions.FlatFunction.{FlatFunction}
pub use Rattle.flat_code.specs.declared.operations.Op.{Op}
pub use Rattle.machine_world.proofs.FormWorlds.{IsWellFormedIf-action, KeepsWellFormed-step}
pub use Rattle.machine_world.specs.Areas.{Areas}
pub use Rattle.machine_world.specs.Globals.{AreGlobals, global_widths}
pub use Rattle.machine_world.specs.Held.{KeepsShape, copies, copies_in}
pub use Rattle.machine_world.specs.InPlace.{Calls, Frame, FramesAt, HasFrames, IsInPlace, IsStack, ReturnsInto, chain_below}
pub use Rattle.machine_world.specs.Local.{Core, Ended, Local, LocalMove, NoRoom, Trapped, Wrong, local_machine, local_step, passed, with_header}
pub use Rattle.machine_world.specs.Numbered.{RiseBetween}
pub use Rattle.machine_world.specs.Places.{Checked, InOperation, InPrologue, row_of}
pub use Rattle.machine_world.specs.Rests.{AreFlatFrames, AreFlatPast, AtCall, AtStart, HoldsVariables, IsAtCall, IsFlatStart, IsPastCall, IsResting, IsShaped, PastCall, StandsForFlat, ecall_word, variable_word}
pub use Rattle.machine_world.specs.Runs.{Pick, after_action, is_between, may_run, picked, picked_at, picked_row, world_of}
pub use Rattle.machine_world.specs.StandsFor.{AreWaitingFrames, HoldsIndex, IsStartingFrame, IsWaitingFrame, SourceThread, StandAtCall, StandAtStart, StandsFor, StandsForFlatThread, StandsForThread, Starts, Waits, going_on}
pub use Rattle.machine_world.specs.StandsForWorld.{IsBlockedAt, IsFresh, IsPast, StandsForRest, StandsForWorld}
pub use Rattle.machine_world.specs.Stretches.{IsFramedNext, IsFramedStep, IsGoodStretch, IsSound, OnWorld}
pub use Rattle.machine_world.specs.Threads.{Blocked, Move, Setting, Thread, World, asked, first_with, local_in, moved, replaced, result_on, resumed, retired, spawned, start_core, starts, step_of, step_on, thread_of, with_thread, without}
unfoldable pub use Rattle.machine_world.specs.Threads.{step}
pub use Rattle.machine_world.specs.WellFormed.{AreWellFormed, IsCore, IsWellFormed, KeepsWellFormed}
pub use Rattle.rv_code.specs.declared.instructions.Instr.{Instr}
pub use Rattle.rv_machine.specs.Registers.{read}
pub use Rattle.rv_machine.specs.Step.{instruction_at}
pub use Rattle.segment_laws.proofs.Frames.{frames_law}
pub use Rattle.segment_laws.proofs.Needs.{NeedsFit-valid}
pub use Rattle.segment_laws.proofs.OnePlace.{before-front, one_place, same_function}
pub use Rattle.segment_laws.proofs.OtherThreads.{at_most_one, each_chunk, held_one, held_two, taken_free}
pub use Rattle.segment_laws.proofs.SameRest.{keeps_self, rests_law}
pub use Rattle.segment_laws.proofs.ValidFacts.{CodeFacts-valid, before_next}
pub use Rattle.segment_laws.specs.Alike.{FollowsAsks, MayRun}
pub use Rattle.segment_laws.specs.Facts.{CodeFacts}
pub use Rattle.segment_laws.specs.Kept.{KeepsChunks, KeepsStack}
pub use Rattle.segment_laws.specs.Ways.{HasForm, IsGoodState}
pub use Rattle.stack_certificate.specs.Certificates.{fact_at, need_of}
pub use Rattle.stack_certificate.specs.Registers.{a0, ra, sp, tp}
pub use Rattle.stack_certificate.specs.Templates.{begin, kind_of, size, words_before}
pub use Rattle.stack_certificate.specs.declared.certificates.Certificate.{Certificate}
pub use Rattle.stack_image.specs.declared.images.Image.{Image}
pub use Rattle.machine_meaning.specs.AsSource.{AsksCall, HoldsResult, HoldsWanted, IsAlongSource, IsStepAsSource, ReachesSource, RunsAsSource, WaitsAsSource}
pub use Rattle.machine_meaning.specs.Between.{AreBetween, FlatsStandFor, HasBetween, RestAlike, flat_going_on, resting_key}
pub use Rattle.machine_meaning.specs.Meaning.{MeansTheSame}
pub use Rattle.machine_meaning.specs.Reached.{IsFinished, IsReached, StepReaches, with_puts}
pub use Rattle.machine_meaning.specs.StandsFor.{FrameStandsFor, FrameStartsAs, FramesStandFor, IndexStands}
pub use Rattle.machine_meaning.specs.UnderWay.{IsBlockingCall, IsSettled, IsSettledIf, IsSettledThread, IsUnderWay, RestsSo, StandsSettled}
