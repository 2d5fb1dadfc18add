-- The names that this crate's proofs cite from other crates and from its definitions, passed on from one place. Declares nothing.
pub use Rattle.std.proofs.Common.{[], ◌&&◌, ◌*◌, ◌++◌, ◌+◌, ◌-ℤ◌, ◌-◌, ◌/◌, ◌<◌, ◌^◌, ◌||◌, ◌∙◌, ◌∷◌, ◌≡◌, ◌≢◌, ◌≤◌, ◌⊎◌, Bool, List, None, Some, ap, append-nil, append_assoc, arith, cond, count_by, drop, false, find, fold, get_or, inl, inr, length, length-append, map, nat_eq, not, pos, refl, rules, subst, suc, sym, take, true, unsigned_abs, zero, ℕ, ℤ, ⊎_elim}
pub use Rattle.lawful_log.proofs.Picked.{given_if}
pub use Rattle.log_laws.proofs.Words.{delivered_is, delivers_words}
pub use Rattle.std.proofs.ByRecursion.{All-append, All-weaker}
pub use Rattle.std.proofs.Math.Facts.{sfits_to_z}
pub use Rattle.std.proofs.lemmas.Bool.{cases_eq, cases_lt, cond-false, cond-true, cond_both, eq-eqb, eqb-true, ne_eqb}
pub use Rattle.std.proofs.lemmas.Bool.Decides.{nat_tests}
pub use Rattle.std.proofs.lemmas.Int.{fits_signed_from_abs, ints}
pub use Rattle.std.proofs.lemmas.List.{length-map, length-set, map-append}
pub use Rattle.std.proofs.lemmas.List.Elements.{All-contains, All-from_recursion, recursion_from_All}
pub use Rattle.std.proofs.lemmas.List.Sums.{sum_by-append, sum_by-cons}
pub use Rattle.std.proofs.lemmas.Option.{none-some, same_Some}
pub use Rattle.std.specs.Int.{w128, w32}
pub use Rattle.std.specs.List.{AllByRecursion, list_any, position_or_len, range_with_len}
pub use Rattle.std.specs.Prelude.{FitsSigned, IfSome, IsSome, IsTrue, Option, filter, filter_map, if◌then◌else◌, is_some, nat_le, option_map, slice_get, slice_index, slice_set}
pub use Rattle.blocking_graph.specs.Edges.{count_of, edges_of, edges_with, first_edge, is_before, is_of, next_edge}
pub use Rattle.blocking_graph.specs.Nodes.{keys_with, node_number, same_key}
pub use Rattle.blocking_graph.specs.declared.edges.EdgeLine.{EdgeLine}
pub use Rattle.blocking_graph.specs.declared.segments.SegmentRecord.{SegmentRecord}
pub use Rattle.c_hoist.proofs.Meaning.{program_means}
pub use Rattle.c_hoist.specs.NestedText.{ReadsNested}
pub use Rattle.c_lower.specs.ProgramCode.{lowered}
pub use Rattle.c_mean.specs.Frames.{Running, Waiting, WaitingFrame, function_at, key_of}
pub use Rattle.c_mean.specs.ModelledCalls.{Arrival, Delivery, Exchange, ImmediateRow, Message, blocking_row, cap_of, immediate_row, is_dropped, ticks_of, use_of, wakes_at, with_delivery, with_use}
pub use Rattle.c_mean.specs.Steps.{SourceMove, source_machine, source_resume, source_step}
pub use Rattle.c_mean.specs.World.{Blocked, Ended, Fresh, IsCutAt, Rest, Rested, RunsTo, SegmentMove, begun, begun_at, segment_machine, segment_step}
pub use Rattle.c_tree.specs.Trees.{Block, Called, Calling, Computed, DeclareWith, Do, For, FunctionTree, If, IfElse, NoStmts, ProgramTree, Return, RightTree, SetGlobal, SetGlobalElement, SetLocal, SetLocalElement, SimpleTree, StmtTree, StmtTrees, Then, While}
pub use Rattle.c_tree.specs.WellScoped.{IsWellScoped, scope_after, scope_after_all, with_names}
pub use Rattle.cap_word.proofs.RunLemmas.{goes_on, moves_add, stops_stay}
pub use Rattle.cap_word.proofs.WordLemmas.{to_z-signed}
pub use Rattle.cap_word.specs.Calls.{Blocking, Call, Immediate, Question, call_with, most_threads, spawn_of}
pub use Rattle.cap_word.specs.Runs.{Asks, Goes, Stops, and_then, moves}
pub use Rattle.cap_word.specs.Word.{signed}
pub use Rattle.cap_word.specs.declared.calls.Ask.{Ask}
pub use Rattle.cap_word.specs.declared.stops.Stop.{Stop}
pub use Rattle.cap_word.specs.declared.traps.TrapKind.{TrapKind}
pub use Rattle.certificate_rules.specs.Validity.{IsValid}
pub use Rattle.choice_rules.specs.Choice.{IsChoice, IsLawfulBy, goes_before_at, is_eligible, queue_at}
pub use Rattle.choice_rules.specs.Clock.{IsChoicePoint, IsClockBy, event_times, is_due}
pub use Rattle.choice_rules.specs.Deliveries.{IsDelivery, delivery_of, item_of, received}
pub use Rattle.choice_rules.specs.EdgeLines.{edge_entry, given, shown}
pub use Rattle.choice_rules.specs.Policy.{Policy, Rule, by_graph, by_stride}
pub use Rattle.choice_rules.specs.Readiness.{any_elsewhere, any_ready, at_accept, is_ready, is_ready_at, wakes, waking_times}
pub use Rattle.choice_rules.specs.Seen.{Past, Seen, Waiter, changes, end_node, last_choice, newcomers, no_past, uses_in, uses_of, with_segment}
pub use Rattle.choice_rules.specs.SourceRuns.{HasRun, IsCut, outputs_of}
pub use Rattle.choice_rules.specs.Stops.{IsBadTrace, IsDone, IsIdle}
pub use Rattle.choice_rules.specs.Trace.{IsNext, Trace, behind}
pub use Rattle.chunk_pool.proofs.FreeLaws.{copies-cons, free_bounded}
pub use Rattle.chunk_pool.specs.Pool.{Pool, Taken, all_free, free_count, start_pool, taken_for}
pub use Rattle.deep_mean.specs.DeepTrees.{DeepProgram}
pub use Rattle.deep_mean.specs.DeepWorld.{DeepRest, DeepWorld}
pub use Rattle.deep_mean.specs.Naming.{deep_program}
pub use Rattle.event_trace.specs.Lines.{FitsKind}
pub use Rattle.event_trace.specs.declared.events.Event.{Event}
pub use Rattle.event_trace.specs.declared.events.EventKind.{EventKind}
pub use Rattle.hoist_meaning.specs.SameRuns.{BothBlocked, BothEnded, BothFresh, RestAlike, RestsAlike, RunsTheSame, WorldsAlike}
pub use Rattle.lawful_log.specs.Good.{checked_of, delivered}
pub use Rattle.lawful_log.specs.Lawful.{IsLawfulLog, ending}
pub use Rattle.lawful_log.specs.Setup.{Setup, setting_of, start_areas, start_machine}
pub use Rattle.lawful_log.specs.State.{State, held_chunks}
pub use Rattle.lawful_reading.proofs.Moves.{not_both, not_put_and_rest, one_put, one_rest, same_end, same_next, silent_puts, silent_rests}
pub use Rattle.lawful_reading.specs.Choice.{IsComing, IsRun}
pub use Rattle.lawful_reading.specs.Ends.{IsCause, MayStop, StopsBy, edges_left}
pub use Rattle.lawful_reading.specs.Given.{Given, chunks_of}
pub use Rattle.lawful_reading.specs.Happenings.{ComesAt, IsCrowdedNext, PutsNext, RestsNext, live_in, lives}
pub use Rattle.lawful_reading.specs.Reading.{IsAllowed, IsBeyond, IsLawful, IsTooLong, IsUnlawful, Leads, Needs, by_line, nowhere}
pub use Rattle.lawful_reading.specs.Segments.{IsBlock, IsClosed, IsEnd, IsOut, rested}
pub use Rattle.lawful_reading.specs.State.{Edges, End, IsPossible, NotYet, Segment, Stopped, seen_of}
pub use Rattle.machine_meaning.proofs.BetweenSegments.{advanced_law, delivered_law, starts_law}
pub use Rattle.machine_meaning.proofs.WorldSteps.{step_is}
pub use Rattle.machine_meaning.specs.Reached.{IsFinishedIn, IsReached, StepReaches, with_puts}
pub use Rattle.machine_meaning.specs.UnderWay.{IsUnderWay, StandsSettled}
pub use Rattle.machine_world.proofs.FormWorlds.{IsWellFormedIf-action, IsWellFormedIf-start, KeepsWellFormed-step, RiseBetween-bound}
pub use Rattle.machine_world.proofs.StepCases.{Ways, on_printed, on_step, on_thread, row_for}
pub use Rattle.machine_world.specs.Areas.{Areas}
pub use Rattle.machine_world.specs.Local.{Local, LocalMove, local_step}
pub use Rattle.machine_world.specs.Places.{Checked}
pub use Rattle.machine_world.specs.Runs.{Action, Advance, Deliver, Pick, after_action, empty_world, started_on, world_of}
unfoldable pub use Rattle.machine_world.specs.Runs.{start_world}
pub use Rattle.machine_world.specs.Threads.{Move, Setting, Thread, World, first_with, local_in, step, thread_of, with_thread}
pub use Rattle.machine_world.specs.WellFormed.{AreWellFormed, AreWords, DeliversWords, IsWellFormed, IsWellFormedIf, KeepsWellFormed, most_fuel}
pub use Rattle.schedule_log.specs.EntryRanges.{FitsAverages, FitsEntry, FitsItem, FitsKey, FitsStop}
pub use Rattle.schedule_log.specs.EntryText.{entry_text}
unfoldable pub use Rattle.schedule_log.specs.EntryText.{log_text}
pub use Rattle.schedule_log.specs.declared.entries.Entry.{Entry}
pub use Rattle.schedule_log.specs.declared.entries.Item.{Item}
pub use Rattle.schedule_log.specs.declared.entries.StopLine.{StopLine}
pub use Rattle.audited_logs.specs.Audited.{AreCapsSmall, IsLawfulOrTooLong, given_of, read_policy}
pub use Rattle.audited_logs.specs.TextLog.{AreTextLines, ComesTo, ComesToCut, ComesToTrap, HasEnded, HaveAllEnded, IsBlockedAt, IsSomeLive, IsTextLog, StopsSo, lines_of}
