-- The names that this crate's proofs cite from other crates and from its definitions, passed on from one place. Declares nothing.
pub use Rattle.std.proofs.Common.{[], ◌&&◌, ◌++◌, ◌+◌, ◌-◌, ◌<◌, ◌^◌, ◌||◌, ◌∙◌, ◌∷◌, ◌≡◌, ◌≢◌, ◌≤◌, ◌⊎◌, Bool, Err, FitsSigned, IfOk, IsSome, List, None, Ok, Option, Result, Some, add-one, ap, append-nil, append_assoc, arith, cond, drop-cons, false, find, get_or, inl, inr, length, length-drop, length-set, nat_eq, not, of_z, option_map, refl, rules, subst, suc, sym, to_z, true, w32, zero, ℕ, ⊎_elim}
pub use Rattle.choice_rules.proofs.Strides.{both_left}
pub use Rattle.lawful_reading.proofs.Once.{same_segment}
pub use Rattle.ready_tree.proofs.NodeLaws.{same_or_not}
pub use Rattle.std.proofs.ByRecursion.{All-append}
pub use Rattle.std.proofs.lemmas.Bool.{cases_lt, cond-false, eq-eqb, eqb-true, ne_eqb, or_from, or_left, or_parts, or_right}
pub use Rattle.std.proofs.lemmas.Bool.Decides.{nat_tests}
pub use Rattle.std.proofs.lemmas.Int.{to_z-of_z}
pub use Rattle.std.proofs.lemmas.List.{length_push}
pub use Rattle.std.proofs.lemmas.Result.{IfOk-at_ok, err_from_is_err_and}
pub use Rattle.std.specs.List.{AllByRecursion, cons_option, list_any, range_with_len}
pub use Rattle.std.specs.Prelude.{All, Contains, IfSome, IsTrue, Vec, count_by, drop, filter_map, if◌then◌else◌, is_none, is_some, map, nat_le, option_to_list, pos, slice_get, slice_index, slice_index_or, slice_set, ℤ, ◌-ℤ◌, ◌↔◌}
pub use Rattle.blocking_graph.specs.Edges.{count_of, edges_of, edges_with}
pub use Rattle.blocking_graph.specs.Graph.{GraphState, IsSegment, empty_graph}
pub use Rattle.blocking_graph.specs.declared.edges.EdgeLine.{EdgeLine}
pub use Rattle.blocking_graph.specs.declared.segments.SegmentRecord.{SegmentRecord}
pub use Rattle.c_mean.specs.Frames.{Running}
pub use Rattle.c_mean.specs.ModelledCalls.{Arrival, Delivery, Exchange, ImmediateRow, Message, blocking_row, cap_of, immediate_row, is_dropped, resource_trap, use_of, wakes_at, with_delivery, with_use}
pub use Rattle.c_mean.specs.Steps.{SourceMove, source_machine, source_resume, source_step, start_globals, started}
pub use Rattle.c_mean.specs.World.{Blocked, Ended, Fresh, Segment, SegmentMove, after_ask, begun, begun_at, empty_exchange, rests, segment_machine, segment_move, segment_step, unless_trap, with_printed, with_started}
pub use Rattle.c_tree.specs.Trees.{ProgramTree}
pub use Rattle.c_tree.specs.WellScoped.{IsWellScoped, signature_of}
pub use Rattle.cap_word.proofs.RunLemmas.{goes_on, moves_add}
pub use Rattle.cap_word.proofs.WordLemmas.{to_z-signed}
pub use Rattle.cap_word.specs.Calls.{Blocking, Immediate, most_threads}
pub use Rattle.cap_word.specs.Runs.{Goes, Stops, and_then, moves}
pub use Rattle.cap_word.specs.Word.{signed}
pub use Rattle.cap_word.specs.declared.calls.Ask.{Ask}
pub use Rattle.cap_word.specs.declared.calls.Block.{Block}
pub use Rattle.cap_word.specs.declared.stops.Stop.{Stop}
pub use Rattle.cap_word.specs.declared.threads.ThreadId.{ThreadId}
pub use Rattle.cap_word.specs.declared.traps.TrapKind.{TrapKind}
pub use Rattle.choice_rules.proofs.Changes.{at_drop, changes_are, drop_long, same_eight, small_changes}
pub use Rattle.choice_rules.proofs.Clocks.{awake_by, clock_moves, clock_stays, later_by, past_not}
pub use Rattle.choice_rules.proofs.Points.{not_bad, not_done, not_idle, not_refused, one_choice, one_clock, one_refusal}
pub use Rattle.choice_rules.proofs.Queues.{all_at_node, queue_kept}
pub use Rattle.choice_rules.proofs.Waiters.{all_but, but, differ_all, newcomers_more, none_waits, once_append, once_but, waits_append, waits_but_other, waits_but_self, waits_one}
pub use Rattle.choice_rules.specs.Choice.{IsLawful, IsLawfulBy, is_open, monitor_of, observed, queue_at}
pub use Rattle.choice_rules.specs.Clock.{IsChoicePoint, IsLeastOf, event_times, is_due, latest}
pub use Rattle.choice_rules.specs.Deliveries.{coming_entry, delivery_of, item_of}
pub use Rattle.choice_rules.specs.EdgeLines.{edge_entry, given, shown}
pub use Rattle.choice_rules.specs.Policy.{Rule, all_caps}
pub use Rattle.choice_rules.specs.Readiness.{any_elsewhere, any_ready, at_accept, is_ready, waking_times}
pub use Rattle.choice_rules.specs.Seen.{Past, Seen, Waiter, changes, end_node, last_choice, newcomers, uses_in, uses_of}
pub use Rattle.choice_rules.specs.Stops.{IsBadTrace, IsDone, IsIdle}
pub use Rattle.choice_rules.specs.Trace.{IsNext, IsRefused, Trace, behind}
pub use Rattle.choice_rules.specs.Waiting.{AreQueued, IsPlaced, IsQueue, at_node, waits}
pub use Rattle.event_trace.specs.Reader.{ReaderState}
pub use Rattle.event_trace.specs.declared.events.Event.{Event}
pub use Rattle.lawful_reading.proofs.Moves.{not_put_and_rest, one_put, one_rest, same_next, silent_puts, silent_rests}
pub use Rattle.lawful_reading.specs.Choice.{IsComing, IsRun, chosen_from}
pub use Rattle.lawful_reading.specs.Ends.{IsCause, IsCut, StopsBy, edges_left}
pub use Rattle.lawful_reading.specs.Given.{Given, chunks_of}
pub use Rattle.lawful_reading.specs.Happenings.{ComesAt, IsCrowdedNext, IsSilent, PutsNext, RestsNext, lives}
pub use Rattle.lawful_reading.specs.Reading.{IsAllowed, IsBeyond, Needs, StopNeeds}
pub use Rattle.lawful_reading.specs.Segments.{IsBlock, IsClosed, IsOut, rested}
pub use Rattle.lawful_reading.specs.State.{State, seen_of, start_of}
pub use Rattle.ready_tree.specs.Needs.{is_arrival, is_met}
pub use Rattle.ready_tree.specs.declared.needs.Need.{Need}
pub use Rattle.resource_monitor.specs.Gate.{gate, gate_after}
pub use Rattle.resource_monitor.specs.Monitor.{MonitorState, NoneAbove}
pub use Rattle.resource_monitor.specs.Pressure.{pressures}
pub use Rattle.schedule_log.specs.declared.entries.Entry.{Entry}
pub use Rattle.schedule_log.specs.declared.entries.Item.{Item}
pub use Rattle.schedule_log.specs.declared.entries.StopLine.{StopLine}
pub use Rattle.scheduler.specs.LawfulChoice.{IsLawfulChoice, is_eligible}
pub use Rattle.scheduler.specs.Scores.{score}
pub use Rattle.scheduler.specs.State.{AreKnown, IsNoted, IsTaken, SchedulerState, entries_at, last_of, queue_of}
pub use Rattle.scheduler.specs.declared.choices.Choice.{Choice}
pub use Rattle.slab.specs.Slab.{Slab, get}
pub use Rattle.source_runs.specs.Layouts.{IsReady, tree_of}
pub use Rattle.source_runs.specs.Steps.{HasCome, LeadsTo, asks, ends, traps}
pub use Rattle.source_runs.specs.Threads.{IsFull, IsThread, globals_of, running_of, waiting_of}
pub use Rattle.source_runs.specs.declared.frames.Thread.{Thread}
pub use Rattle.source_runs.specs.declared.interpreter.Interpreter.{Interpreter}
pub use Rattle.thread_exchange.specs.Exchanges.{Exchanging, MayResume, after_delivery, row_of}
pub use Rattle.thread_waits.proofs.TimeLaws.{le_no}
pub use Rattle.thread_waits.specs.Counted.{wake_of}
pub use Rattle.thread_waits.specs.Needs.{need_for}
pub use Rattle.thread_waits.specs.Waiting.{IsUntrapped, IsWake, Waiting, sleeps_in, wait_at}
pub use Rattle.thread_waits.specs.declared.waits.Wait.{Wait}
pub use Rattle.schedule_reading.specs.Changes.{AreNone, AreVacant, GoesOn, HasAdded, HasBegun, HasBlocked, HasEnded, IsAway, KeepsAll, KeepsOthers, MayBegin, MayGo}
pub use Rattle.schedule_reading.specs.Closing.{AllowsWithin, HasClosed, HasProceeded, HasRested, IsClosing, IsWithin, MayClose, RulesWithin, closed, uses_after}
pub use Rattle.schedule_reading.specs.Coming.{Advances, Answers, CrowdsAt, CrowdsFirst, GoesTo, HasHappened, KeepsBut, MayAnswer, MayRun, NoneCrowded, Rests, RunsOn, RunsSomehow, TrapsAt}
pub use Rattle.schedule_reading.specs.Ending.{AreLeft, AreOver, Fits, MayStopHere, RulesCause, RulesCrowd, RulesCut, RulesEdge, RulesStop, RulesTrap, TellsStop, TrapsNext, entry_of, stop_line}
pub use Rattle.schedule_reading.specs.Kept.{Core, Kept}
pub use Rattle.schedule_reading.specs.Ruled.{ruled}
pub use Rattle.schedule_reading.specs.Rulings.{Allows, Chooses, Chosen, ChosenOther, Comes, ComesToChoice, CountsReads, GoesOnFrom, IsPoint, Knows, Refuses, Rules, RulesChoice, StandsBetween, StandsBetweenSomehow}
pub use Rattle.schedule_reading.specs.Shown.{Shows}
pub use Rattle.schedule_reading.specs.Stands.{AreBeside, AreLive, AreThreads, CanGo, HasPast, HasSlot, IsCounted, IsEnd, IsLooked, IsOf, IsRunning, IsScheduled, IsSince, IsSlot, IsTimely, IsTold, IsTraceIn, IsTraceOf, IsWaiter, RestsAs, Stands, StandsAt, StandsBy, StandsUnless, StandsWithin, numbers_of, waiting_with}
pub use Rattle.schedule_reading.specs.Starting.{HasFirst, HasSource}
pub use Rattle.schedule_reading.specs.Told.{AreUntrapped, ThreadsState, Vouches, VouchesIn, WaitsAs, any_elsewhere_in, any_ready_in, at_accept_in, at_place, is_ready_in, wait_of, waits_for, waits_in}
pub use Rattle.schedule_reading.specs.Uses.{cap_in, used_in}
pub use Rattle.schedule_reading.specs.declared.edges.Shown.{Shown}
pub use Rattle.schedule_reading.specs.declared.events.Happening.{Happening}
pub use Rattle.schedule_reading.specs.declared.points.Point.{Point}
pub use Rattle.schedule_reading.specs.declared.policy.AuditPolicy.{AuditPolicy}
pub use Rattle.schedule_reading.specs.declared.reading.End.{End}
pub use Rattle.schedule_reading.specs.declared.reading.Next.{Next}
pub use Rattle.schedule_reading.specs.declared.reading.Under.{Under}
pub use Rattle.schedule_reading.specs.declared.rulings.Failure.{Failure}
pub use Rattle.schedule_reading.specs.declared.rulings.Ruling.{Ruling}
pub use Rattle.schedule_reading.specs.declared.stops.Between.{Between}
pub use Rattle.schedule_reading.specs.declared.threads.Rest.{Rest}
pub use Rattle.schedule_reading.specs.declared.threads.Slot.{Slot}
