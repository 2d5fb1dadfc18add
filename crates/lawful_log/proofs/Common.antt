-- The names that this crate's proofs cite from other crates and from its definitions, passed on from one place. Declares nothing.
pub use Rattle.std.proofs.Common.{[], ◌&&◌, ◌++◌, ◌+◌, ◌-◌, ◌<◌, ◌||◌, ◌∙◌, ◌∷◌, ◌≡◌, ◌≢◌, ◌≤◌, ◌⊎◌, Bool, List, None, Option, Some, ap, append-nil, append_assoc, arith, cond, false, find, inl, inr, length, map, not, option_map, refl, subst, suc, sym, true, zero, ℕ, ⊎_elim}
pub use Rattle.blocking_graph.proofs.PairLemmas.{by_test}
pub use Rattle.machine_world.proofs.CountedLaws.{first_with-number}
pub use Rattle.ready_tree.proofs.NeedLaws.{eq_true}
pub use Rattle.std.proofs.ByRecursion.{All-append, All-weaker}
pub use Rattle.std.proofs.lemmas.Bool.{cases_eq, cond-false, cond-true, cond_both, eq-eqb, eqb-true, ne_eqb, or_from, or_left, or_parts, or_right}
pub use Rattle.std.proofs.lemmas.Bool.Decides.{nat_tests}
pub use Rattle.std.specs.List.{AllByRecursion, cons_option, list_any, range_with_len}
pub use Rattle.std.specs.Prelude.{All, Contains, IsSome, IsTrue, filter, filter_map, if◌then◌else◌, is_none, is_some, nat_eq, nat_le, slice_get, slice_index, slice_index_or, ℤ}
pub use Rattle.blocking_graph.specs.Nodes.{keys_with, node_number}
pub use Rattle.c_mean.specs.Frames.{Waiting, key_of}
pub use Rattle.c_mean.specs.ModelledCalls.{Delivery, Exchange, blocking_row, is_dropped, wake_of, wakes_at, with_delivery}
pub use Rattle.cap_word.specs.Calls.{is_accept}
pub use Rattle.cap_word.specs.Word.{signed}
pub use Rattle.cap_word.specs.declared.calls.Block.{Block}
pub use Rattle.cap_word.specs.declared.stops.Stop.{Stop}
pub use Rattle.cap_word.specs.declared.threads.ThreadId.{ThreadId}
pub use Rattle.cap_word.specs.declared.traps.TrapKind.{TrapKind}
pub use Rattle.choice_rules.proofs.GraphChoices.{any_eligible, lawful_choice, some_choice}
pub use Rattle.choice_rules.proofs.Points.{not_bad, not_done, not_idle, not_refused, one_choice, one_clock, one_refusal}
pub use Rattle.choice_rules.proofs.Rules.{lawful_by_graph, lawful_by_stride}
pub use Rattle.choice_rules.proofs.Tests.{either}
pub use Rattle.choice_rules.proofs.Waiters.{but, differ_all, newcomers_more, once_append, once_but, waits_append, waits_but_other, waits_but_self, waits_one, waits_other}
pub use Rattle.choice_rules.specs.Choice.{IsLawful, is_open, monitor_of}
pub use Rattle.choice_rules.specs.Clock.{IsChoicePoint, IsClockBy, IsLeastOf, event_times, is_due}
pub use Rattle.choice_rules.specs.Deliveries.{coming_entry, delivery_of, item_of, received}
pub use Rattle.choice_rules.specs.Policy.{by_graph, by_stride}
pub use Rattle.choice_rules.specs.Readiness.{any_elsewhere, any_ready, at_accept, is_ready, is_ready_at, rest_of, waking_times}
pub use Rattle.choice_rules.specs.Seen.{PastChoice, Waiter, end_node, newcomers, uses_of}
pub use Rattle.choice_rules.specs.Strides.{latest_pass, pass_of}
pub use Rattle.choice_rules.specs.Trace.{IsNext, behind}
pub use Rattle.choice_rules.specs.Waiting.{AreQueued, IsOnce, IsPlaced, waits}
pub use Rattle.chunk_pool.specs.Pool.{Pool, Taken, free_count}
pub use Rattle.event_trace.specs.declared.events.Event.{Event}
pub use Rattle.machine_world.proofs.Counts.{Counts, IsOver, Retires, StartsOne, counts_step}
pub use Rattle.machine_world.proofs.FormWorlds.{IsWellFormedIf-action, KeepsWellFormed-step, RiseBetween-bound}
pub use Rattle.machine_world.proofs.OtherThreads.{KeepsThread-step, first_with-replaced}
pub use Rattle.machine_world.specs.Numbered.{IsNumbered, RiseBetween}
pub use Rattle.machine_world.specs.Runs.{Action, Advance, Deliver, Pick, advanced, after_action, after_actions, and_then, asleep_until, delivered, empty_world, is_between, is_blocked_at_accept, may_run, picked, picked_at}
pub use Rattle.machine_world.specs.StandsForWorld.{IsBlockedAt, StandsForRest, StandsForWorld}
pub use Rattle.machine_world.specs.Threads.{Blocked, Blocks, Ends, Goes, Move, Puts, Setting, Spawns, Stops, Thread, World, Wrong, first_with, replaced, resumed, step_of, step_on, thread_of, with_thread, without}
unfoldable pub use Rattle.machine_world.specs.Threads.{step}
pub use Rattle.machine_world.specs.WellFormed.{DeliversWords, IsWellFormed, IsWellFormedIf, KeepsWellFormed}
pub use Rattle.ready_tree.specs.declared.needs.Need.{Need}
pub use Rattle.rule_state.specs.Strides.{IsChoiceByStrides, IsFirstAtNode, IsRejoined, IsStarted, StridesState, stride_choice}
pub use Rattle.schedule_log.specs.declared.entries.Entry.{Entry}
pub use Rattle.schedule_log.specs.declared.entries.StopLine.{StopLine}
pub use Rattle.scheduler.specs.LawfulChoice.{IsLawfulChoice, is_eligible}
pub use Rattle.scheduler.specs.declared.choices.Choice.{Choice}
pub use Rattle.stride_rule.proofs.ClientLemmas.{once-append, once-grown, once-without, other_number}
pub use Rattle.stride_rule.proofs.NotingLemmas.{waiting-none}
pub use Rattle.stride_rule.specs.Clients.{IsAbsent, client_of, goes_before, grown, with_growth}
pub use Rattle.stride_rule.specs.State.{AreOnce, StrideState, after_choice, after_leaving, after_segment_for, new_rule, waiting_in, waiting_of, with_client}
pub use Rattle.stride_rule.specs.Tickets.{stride_of}
pub use Rattle.stride_rule.specs.declared.choices.StrideChoice.{StrideChoice}
pub use Rattle.stride_rule.specs.declared.clients.Client.{Client}
pub use Rattle.lawful_log.specs.Beside.{HasLasts, IsChosen, IsChosenAs}
pub use Rattle.lawful_log.specs.Choice.{IsRun, chosen_from}
pub use Rattle.lawful_log.specs.Clients.{AreBoth, AreClients, HasRunner, IsClientOf, waiter_of}
pub use Rattle.lawful_log.specs.Clocks.{IsClockOf, goes_on}
pub use Rattle.lawful_log.specs.Deliveries.{IsComing}
pub use Rattle.lawful_log.specs.Good.{checked_of}
pub use Rattle.lawful_log.specs.Passes.{HasPasses, IsAtPass, StartedBy}
pub use Rattle.lawful_log.specs.Segments.{HasRun, IsBlock, IsEnd, IsOnTheWay, IsOut, after_quiet, quiet_world, rested}
pub use Rattle.lawful_log.specs.Setup.{Setup, setting_of, start_machine}
pub use Rattle.lawful_log.specs.State.{Segment, State, seen_of, start_of}
pub use Rattle.lawful_log.specs.Stops.{IsCutBy, IsStop, IsStopped}
pub use Rattle.lawful_log.specs.Waking.{waking_time}
pub use Rattle.lawful_log.specs.Waiting.{AreWaiting, IsWaiting, SinceIs}
pub use Rattle.lawful_log.specs.Within.{IsBetween, IsWithin}
