-- The names that this crate's proofs cite from other crates and from its definitions, passed on from one place. Declares nothing.
pub use Rattle.std.proofs.Common.{[], ◌&&◌, ◌*◌, ◌++◌, ◌+◌, ◌-◌, ◌/◌, ◌<◌, ◌^◌, ◌||◌, ◌∙◌, ◌∷◌, ◌≡◌, ◌≢◌, ◌≤◌, ◌⊎◌, All, Bool, List, None, Some, ap, arith, cond, false, find, inl, inr, length, length-append, map, nat_lt, refl, rules, subst, suc, sym, true, zero, ℕ, ℤ, ⊎_elim}
pub use Rattle.c_mean.proofs.WorldStandLemmas.{all_set}
pub use Rattle.std.proofs.ByRecursion.{All-push, All-weaker}
pub use Rattle.std.proofs.lemmas.Bool.{cases_eq, cases_lt, cond-false, cond-true, cond_both, eq-eqb, le-leb, leb-true, lt-ltb, ne_eqb, or_parts}
pub use Rattle.std.proofs.lemmas.Bool.Decides.{nat_tests}
pub use Rattle.std.proofs.lemmas.List.{length-set, nil_from_length}
pub use Rattle.std.proofs.lemmas.List.Elements.{All-contains, All-from_recursion}
pub use Rattle.std.proofs.lemmas.Option.{none-some, same_Some}
pub use Rattle.std.specs.List.{AllByRecursion, list_any}
pub use Rattle.std.specs.Prelude.{Contains, IsSome, IsTrue, Option, if◌then◌else◌, is_none, is_some, nat_eq, nat_le, slice_get}
pub use Rattle.c_lower.specs.ProgramCode.{lowered}
pub use Rattle.c_mean.specs.Frames.{Waiting, key_of}
pub use Rattle.c_mean.specs.ModelledCalls.{Delivery, Exchange, blocking_row, immediate_row, is_dropped, with_delivery}
pub use Rattle.c_mean.specs.Steps.{source_machine}
pub use Rattle.c_tree.specs.WellScoped.{IsWellScoped}
pub use Rattle.call_graph.proofs.ListLemmas.{all-at, by_test}
pub use Rattle.cap_word.specs.Calls.{Blocking, Call, Immediate, Question, most_threads}
pub use Rattle.cap_word.specs.Word.{signed}
pub use Rattle.cap_word.specs.declared.stops.Stop.{Stop}
pub use Rattle.certificate_rules.specs.Validity.{IsValid}
pub use Rattle.choice_rules.specs.Clock.{IsLeastOf, event_times, is_due}
pub use Rattle.choice_rules.specs.Deliveries.{delivery_of, item_of}
pub use Rattle.choice_rules.specs.Readiness.{any_ready, is_ready, waking_times}
pub use Rattle.choice_rules.specs.Seen.{Waiter, last_choice}
pub use Rattle.choice_rules.specs.Trace.{IsNext, Trace}
pub use Rattle.chunk_budget.proofs.CoverLemmas.{HasMember, has_member}
pub use Rattle.chunk_budget.specs.Budgets.{AreCovered, IsBudget, IsCovered, IsRoot, chunks_added, height_of}
pub use Rattle.chunk_budget.specs.declared.budgets.Budget.{Budget}
pub use Rattle.chunk_pool.proofs.NeedLaws.{taken_for-none, taken_for-shape, taken_for-start}
pub use Rattle.chunk_pool.specs.Pool.{IsFree, IsPool, Pool, Taken, all_free, fits, free_count, payload_bytes_of, shape_of, taken_for, words_in}
pub use Rattle.chunk_pool.specs.declared.shape.Shape.{Shape}
pub use Rattle.event_trace.specs.Lines.{FitsKind, rest_of}
pub use Rattle.event_trace.specs.declared.events.Event.{Event}
pub use Rattle.event_trace.specs.declared.events.EventKind.{EventKind}
pub use Rattle.flat_code.specs.Codes.{FlatCode, members_of, operation_at}
pub use Rattle.flat_code.specs.declared.operations.Op.{Op}
pub use Rattle.lawful_log.proofs.Between.{between_after, between_came, between_moved, between_read, come_state, coming, run_allowed, run_segment, run_state, within_run}
pub use Rattle.lawful_log.proofs.Clocks.{contains_head, contains_later, gives_above, later_block, moved_goes_on}
pub use Rattle.lawful_log.specs.Choice.{IsRun}
pub use Rattle.lawful_log.specs.Clocks.{goes_on}
pub use Rattle.lawful_log.specs.Deliveries.{IsComing}
pub use Rattle.lawful_log.specs.Good.{IsGoodLog, checked_of, delivered, machine_entries, stop_turns}
pub use Rattle.lawful_log.specs.Lawful.{IsAllowed, IsLawfulLog, Leads, by_entry, ending, nowhere}
pub use Rattle.lawful_log.specs.Segments.{HasRun, IsBlock, IsEnd, IsOut, after_quiet, quiet_world}
pub use Rattle.lawful_log.specs.Setup.{Setup, main_fact, setting_of, start_areas, start_machine}
pub use Rattle.lawful_log.specs.State.{Segment, State, seen_of, start_of}
pub use Rattle.lawful_log.specs.Stops.{IsCutBy, IsStop}
pub use Rattle.machine_meaning.proofs.BetweenSegments.{advanced_law, delivered_law, starts_law}
pub use Rattle.machine_meaning.proofs.FirstLemmas.{asks-first, grown-either, rests-from, thread-on, under-way-from}
pub use Rattle.machine_meaning.proofs.Formed.{formed}
pub use Rattle.machine_meaning.proofs.Sound.{each_live, settled_sound, under_way_sound}
pub use Rattle.machine_meaning.specs.AsSource.{AsksCall, IsAlongSource, IsStepAsSource}
pub use Rattle.machine_meaning.specs.Firsts.{Began, IsFirst, IsGrown, IsUnderWayFrom, RestsFrom, first_of, first_waiting, last_function}
pub use Rattle.machine_meaning.specs.Reached.{IsFinishedIn, IsReached, StepReaches}
pub use Rattle.machine_meaning.specs.UnderWay.{IsSettled, StandsSettled}
pub use Rattle.machine_world.proofs.CountedLaws.{all_free-new}
pub use Rattle.machine_world.proofs.FormWorlds.{IsWellFormedIf-action, IsWellFormedIf-start, KeepsWellFormed-step}
pub use Rattle.machine_world.proofs.HeldLaws.{KeepsShape-step, copies-cons}
pub use Rattle.machine_world.proofs.StepCases.{Ways, on_printed, on_thread, row_for}
pub use Rattle.machine_world.specs.Areas.{Areas}
pub use Rattle.machine_world.specs.Held.{KeepsShape, copies}
pub use Rattle.machine_world.specs.InPlace.{Calls, Frame, FramesAt, HasFrames, IsStack, ReturnsInto, chain_below}
pub use Rattle.machine_world.specs.Keys.{called_at_links, chunk_ahead, is_linked, standing, stands_at_link}
pub use Rattle.machine_world.specs.Local.{Core, Ended, Local, LocalMove, NoRoom, Trapped, Wrong, local_step}
pub use Rattle.machine_world.specs.Places.{Checked, Empty, Fresh, InOperation, InPrologue, InStub, Linking, NoFrame, Place, Row, Whole, before_transfer, function_of, prologue_row, row_at, row_in, row_of, transfer_row}
pub use Rattle.machine_world.specs.Rests.{AtCall, AtStart, IsAtCall, IsResting, PastCall}
pub use Rattle.machine_world.specs.Runs.{Action, Advance, Deliver, Pick, Step, after_action, after_actions, after_steps, and_then, empty_world, is_between, started_on, world_of}
unfoldable pub use Rattle.machine_world.specs.Runs.{start_world}
pub use Rattle.machine_world.specs.StandsFor.{AreWaitingFrames, StandAtCall, StandAtStart, StandsFor, Starts, Waits}
pub use Rattle.machine_world.specs.Stretches.{IsFramedNext, IsGoodStretch, IsSound, OnWorld}
pub use Rattle.machine_world.specs.Threads.{Blocked, Blocks, Ends, Goes, Move, Puts, Setting, Spawns, Thread, World, first_with, local_in, moved, package_call, printed, spawned, step_of, step_on, thread_of, unless_trap, with_thread}
unfoldable pub use Rattle.machine_world.specs.Threads.{step}
pub use Rattle.machine_world.specs.WellFormed.{AreWellFormed, DeliversWords, IsWellFormed, IsWellFormedIf, KeepsWellFormed, most_fuel}
pub use Rattle.schedule_log.specs.declared.entries.Entry.{Entry}
pub use Rattle.schedule_log.specs.declared.entries.Item.{Item}
pub use Rattle.schedule_log.specs.declared.entries.StopLine.{StopLine}
pub use Rattle.segment_laws.proofs.ValidCalls.{CallFacts-valid}
pub use Rattle.stack_certificate.specs.Certificates.{fact_at, need_of}
pub use Rattle.stack_certificate.specs.Templates.{kind_of}
pub use Rattle.stack_certificate.specs.declared.sites.LinkKind.{LinkKind}
pub use Rattle.log_laws.specs.Lives.{live, starting, starting_by, starting_under}
pub use Rattle.log_laws.specs.Rooms.{all_held, roomy, roomy_below}
pub use Rattle.log_laws.specs.Roots.{StartsAtRoot, root_of}
