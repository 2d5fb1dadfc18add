-- The names that this crate's proofs cite from other crates and from its definitions, passed on from one place. Declares nothing.
pub use Rattle.std.proofs.Common.{[], ◌%◌, ◌&&◌, ◌*◌, ◌++◌, ◌+◌, ◌-◌, ◌/◌, ◌<◌, ◌^◌, ◌||◌, ◌∙◌, ◌∷◌, ◌≡◌, ◌≢◌, ◌≤◌, Bool, Err, FitsSigned, List, Ok, Option, Result, Some, add-one, ap, append-nil, append_assoc, arith, codes, cond, false, find, get_or, inl, inr, le_refl, length-append, length-set, map, nat_eq, negsuc, not, refl, rules, set, subst, suc, sym, take, true, zero, ℕ, ⊎_elim}
pub use Rattle.blocking_graph.proofs.PairLemmas.{by_test}
pub use Rattle.event_trace.proofs.LineTexts.{fields_visible}
pub use Rattle.ready_tree.proofs.NeedLaws.{eq_true}
pub use Rattle.std.proofs.ByRecursion.{All-append, All-more, All-push, All-weaker}
pub use Rattle.std.proofs.lemmas.Bool.{cases_eq, cond-false, cond-true, cond_both, eq-eqb, ne_eqb}
pub use Rattle.std.proofs.lemmas.Bool.Decides.{nat_tests}
pub use Rattle.std.proofs.lemmas.Int.{to_z-of_z}
pub use Rattle.std.proofs.lemmas.List.{drop_all, get_or_default, map-append, map_more, take-append-drop, take-append-le, take_all, take_more_set}
pub use Rattle.std.proofs.lemmas.Result.{err_from_is_err_and}
pub use Rattle.std.specs.Int.{cast_signed, w128, w32}
pub use Rattle.std.specs.List.{AllByRecursion, flat_map, list_any}
pub use Rattle.std.specs.Prelude.{IfErr, IfOk, IfSome, IsSome, IsTrue, None, OnOk, drop, if◌then◌else◌, is_none, length, nat_le, pos, slice_get, slice_index, slice_index_or, ℤ, ◌==◌}
pub use Rattle.accepted_pairs.specs.Accepting.{accepted_tree}
pub use Rattle.blocking_graph.specs.Edges.{count_of, edges_of, edges_with}
pub use Rattle.blocking_graph.specs.Graph.{GraphState, empty_graph}
pub use Rattle.blocking_graph.specs.Nodes.{keys_with, node_number}
pub use Rattle.blocking_graph.specs.declared.edges.EdgeLine.{EdgeLine}
pub use Rattle.blocking_graph.specs.declared.segments.SegmentRecord.{SegmentRecord}
pub use Rattle.c_lower.specs.ProgramCode.{lowered}
pub use Rattle.c_mean.specs.ModelledCalls.{Arrival, Delivery, Exchange, Message, cap_of, is_dropped, use_of, wakes_at, with_delivery}
pub use Rattle.c_tree.specs.Trees.{ProgramTree}
pub use Rattle.cap_word.specs.Word.{signed}
pub use Rattle.cap_word.specs.declared.stops.Stop.{Stop}
pub use Rattle.cap_word.specs.declared.threads.ThreadId.{ThreadId}
pub use Rattle.choice_rules.proofs.Changes.{at_drop, changes_are, same_eight, small_changes}
pub use Rattle.choice_rules.proofs.Past.{edges_more, gate_more}
pub use Rattle.choice_rules.proofs.Queues.{all_at_node, queue_kept}
pub use Rattle.choice_rules.proofs.Waiters.{differ_all}
pub use Rattle.choice_rules.specs.Choice.{monitor_of, observed}
pub use Rattle.choice_rules.specs.Clock.{is_due, latest}
pub use Rattle.choice_rules.specs.Deliveries.{delivery_of, item_of, received}
pub use Rattle.choice_rules.specs.Policy.{Rule, all_caps, by_graph, by_stride}
pub use Rattle.choice_rules.specs.Readiness.{any_elsewhere, any_ready}
pub use Rattle.choice_rules.specs.Seen.{Past, PastChoice, Waiter, changes, end_node, last_choice, newcomers, no_past, others_waiting, uses_in, uses_of, with_choice}
pub use Rattle.choice_rules.specs.Trace.{IsNext, IsRefused, Trace, behind}
pub use Rattle.choice_rules.specs.Waiting.{AreQueued, IsPlaced, IsQueue, at_node, waits}
pub use Rattle.chunk_pool.specs.Pool.{IsPool, Pool, Taken, free_count, start_pool, taken_for}
pub use Rattle.event_trace.specs.Lines.{FitsEvent, FitsKind, HasNoEvent, SpellsOnly, event_text, kind_fields, kind_word, line_of, rest_of, value_field}
pub use Rattle.event_trace.specs.Reader.{GivesEvent, NextAnswers, NextTold, ReaderState, RefusesLine, RefusesOrder}
pub use Rattle.event_trace.specs.declared.events.Event.{Event}
pub use Rattle.event_trace.specs.declared.events.EventKind.{EventKind}
pub use Rattle.event_trace.specs.declared.refusals.TraceError.{TraceError}
pub use Rattle.lawful_log.proofs.Between.{between_after, between_came, between_read, came, come_state, coming, drops, run_allowed, run_segment, run_state, within_run}
pub use Rattle.lawful_log.proofs.ClientsGoing.{chosen_client, clients_below, clients_first, clients_left, clients_placed, clients_rejoined, clients_started, clients_taken, may_start, none_by, others, runner_started, runner_taken}
pub use Rattle.lawful_log.proofs.Finding.{all_both, apart_at, none_at, none_waiting}
pub use Rattle.lawful_log.proofs.Own.{LeavesOwn, StandsFresh, found_below, own_step}
pub use Rattle.lawful_log.proofs.Picked.{is_picked}
pub use Rattle.lawful_log.proofs.Told.{any_told, choice_told, elsewhere_told}
pub use Rattle.lawful_log.proofs.Within.{RestsBlocked, Still, block_allowed, blocked_state, cost_is, cost_of, end_allowed, ended_state, formed_after_block, formed_after_end, out_allowed, over_block, over_end, put_segment, put_state, rests_blocked, still_waiting, threads_blocked, threads_ended, within_goes, within_puts, within_spawns}
pub use Rattle.lawful_log.specs.Beside.{IsChosen, IsChosenAs}
pub use Rattle.lawful_log.specs.Clients.{AreBoth, AreClients, waiter_of}
pub use Rattle.lawful_log.specs.Deliveries.{IsComing}
pub use Rattle.lawful_log.specs.Good.{checked_of}
pub use Rattle.lawful_log.specs.Lawful.{IsAllowed, by_entry, nowhere}
pub use Rattle.lawful_log.specs.Segments.{HasRun, IsBlock, IsCut, IsEnd, IsOut, after_quiet, quiet_world}
pub use Rattle.lawful_log.specs.Setup.{Setup, main_fact, setting_of, start_areas, start_machine}
pub use Rattle.lawful_log.specs.State.{Segment, State, held_chunks, seen_of, start_of}
pub use Rattle.lawful_log.specs.Waiting.{AreWaiting, IsWaiting}
pub use Rattle.lawful_log.specs.Within.{IsBetween, IsWithin}
pub use Rattle.machine_meaning.proofs.Sound.{settled_sound, under_way_sound}
pub use Rattle.machine_meaning.specs.Reached.{IsFinishedIn, IsReached, StepReaches}
pub use Rattle.machine_meaning.specs.UnderWay.{IsSettled}
pub use Rattle.machine_world.proofs.Counts.{Counts, IsOver, StartsOne, counts_step}
pub use Rattle.machine_world.proofs.OtherThreads.{KeepsThread-step}
pub use Rattle.machine_world.specs.Alone.{KeepsThread}
pub use Rattle.machine_world.specs.Areas.{Areas, new_areas}
pub use Rattle.machine_world.specs.Local.{Core}
pub use Rattle.machine_world.specs.Places.{Checked}
pub use Rattle.machine_world.specs.Runs.{Action, Advance, Deliver, Pick, Step, advanced, after_action, after_actions, and_then, delivered, empty_world, is_between, is_blocked_at_accept, may_run, picked, picked_at, started_on, world_of}
unfoldable pub use Rattle.machine_world.specs.Runs.{start_world}
pub use Rattle.machine_world.specs.StandsForWorld.{IsPast, StandsForWorld}
pub use Rattle.machine_world.specs.Stretches.{IsSound}
pub use Rattle.machine_world.specs.Threads.{Blocked, Blocks, Ends, Goes, Move, Puts, Setting, Spawns, Stops, Thread, World, first_with, replaced, result_of, resumed, retired, step, thread_of, with_thread, without}
pub use Rattle.machine_world.specs.WellFormed.{AreWellFormed, AreWords, DeliversWords, IsWellFormed, IsWellFormedIf, most_fuel}
pub use Rattle.ready_tree.specs.declared.needs.Need.{Need}
pub use Rattle.resource_monitor.specs.Gate.{gate_after}
pub use Rattle.resource_monitor.specs.Monitor.{MonitorState, NoneAbove}
pub use Rattle.resource_monitor.specs.Pressure.{pressures}
pub use Rattle.rule_state.specs.Rules.{AreKnownTo, HasLeft, HasNone, HasRejoined, HasStarted, HasTaken, IsLawfulOf, IsUnderWay, MayStart, noted_of}
pub use Rattle.rule_state.specs.Strides.{StridesState, stride_choice}
pub use Rattle.rule_state.specs.declared.rules.RuleState.{RuleState}
pub use Rattle.schedule_log.specs.EntryText.{entry_text}
unfoldable pub use Rattle.schedule_log.specs.EntryText.{log_text}
pub use Rattle.schedule_log.specs.declared.entries.Entry.{Entry}
pub use Rattle.scheduler.specs.LawfulChoice.{is_eligible}
pub use Rattle.scheduler.specs.Queues.{is_same, threads_of, without_entry}
pub use Rattle.scheduler.specs.Scores.{score}
pub use Rattle.scheduler.specs.State.{AreKnown, IsTaken, IsTold, SchedulerState, entries_at, last_of, queue_of, started}
pub use Rattle.scheduler.specs.declared.choices.Choice.{Choice}
pub use Rattle.segment_laws.specs.Silent.{GoesOn}
pub use Rattle.thread_core.specs.Making.{after_event, delivery_answer}
pub use Rattle.thread_core.specs.Needs.{IsWaitingIn, Vouches, need_of_blocked, waits_for_need}
pub use Rattle.thread_core.specs.Ready.{any_elsewhere_in, any_ready_in, is_at_accept_in, is_at_accept_thread, is_ready_in, is_ready_thread, is_same_number, passes, passes_at}
pub use Rattle.thread_core.specs.Turns.{Begins, HasKey, HasKeyOf, IsTurn, KeepsSetting, MayBegin, MayProceed, Proceeds, Tells}
pub use Rattle.thread_core.specs.Worlds.{Held, IsThread, KeepsPlaces, cap_in, segment_cost, used_in}
pub use Rattle.thread_core.specs.declared.turns.Turn.{Turn}
pub use Rattle.run_course.specs.Counts.{CountsPart}
pub use Rattle.run_course.specs.Kept.{Kept, known}
pub use Rattle.run_course.specs.Lines.{coming_line, edge_lines, end_lines}
pub use Rattle.run_course.specs.Needs.{AreNeeded, AreNeededByStrides, IsNeeded, IsNeededClient}
pub use Rattle.run_course.specs.Output.{Grows, IsFitText, Output, PutsText, TakesPart, joined, output_of}
pub use Rattle.run_course.specs.Ranks.{FallsTo, due_at, lines_rank, long_rank, next_rank, rank, stuck_rank, turn_rank, under_rank}
pub use Rattle.run_course.specs.Recorded.{HasSmallCaps, IsRecorded}
pub use Rattle.run_course.specs.Rest.{BackTo, HasBytes, Knows, Made, Rest, Told, Unasked, bytes_of}
pub use Rattle.run_course.specs.Rules.{AreKept, AreKeptBeside, AreTold, HasAccounts, HasNothing, rule_of}
pub use Rattle.run_course.specs.Stands.{FitsNext, HasPast, IsAtChoice, IsAtPoint, IsOf, IsRead, IsTraceIn, IsTraceOf, Stands, StandsBetween, StandsBy, StandsInside, StandsWithin, StepsAsSource}
pub use Rattle.run_course.specs.Starts.{IsAtStartBy, KeepsRun}
pub use Rattle.run_course.specs.Steps.{ActsTo, FailsIn, GoesTo, HaltsAt, PartEnds, StepEnds}
pub use Rattle.run_course.specs.Times.{IsTimely}
pub use Rattle.run_course.specs.Ways.{HasTicked, IsOnWay, has_run, has_told, has_waited}
pub use Rattle.run_course.specs.declared.course.Under.{Under}
pub use Rattle.run_course.specs.declared.ends.Failure.{Failure}
pub use Rattle.run_course.specs.declared.ends.Halt.{Halt}
pub use Rattle.run_course.specs.declared.looking.Next.{Next}
pub use Rattle.thread_waits.proofs.TimeLaws.{few_ticks, le_yes}
