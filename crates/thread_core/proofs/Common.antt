-- The names that this crate's proofs cite from other crates and from its definitions, passed on from one place. Declares nothing.
pub use Rattle.std.proofs.Common.{[], ◌%◌, ◌&&◌, ◌*◌, ◌++◌, ◌+◌, ◌-ℤ◌, ◌-◌, ◌/◌, ◌<◌, ◌^◌, ◌||◌, ◌∙◌, ◌∷◌, ◌≡◌, ◌≢◌, ◌≤◌, ◌⊎◌, All, Bool, Contains, IfNone, IsTrue, List, None, Ok, Option, Some, add-zero, ap, arith, false, if◌then◌else◌, inl, inr, is_none, is_some, length, not, pos, refl, subst, suc, sym, true, zero, ℕ, ⊎_elim}
pub use Rattle.accepted_pairs.proofs.CodeListLemmas.{as_many}
pub use Rattle.choice_rules.proofs.Waiters.{self}
pub use Rattle.machine_world.proofs.CountedLaws.{first_with-number}
pub use Rattle.ready_tree.proofs.NodeLaws.{same_or_not}
pub use Rattle.std.proofs.lemmas.Bool.{and_from, cases_eq, cond-false, cond-true, cond_both, false≢true, ne_eqb, or_cases, or_right}
pub use Rattle.std.proofs.lemmas.Bool.Decides.{nat_tests}
pub use Rattle.std.proofs.lemmas.List.{get_or-map, get_or-set_other, get_or-set_same, get_or_past, length-append, length-map, length-set}
pub use Rattle.std.specs.List.{AllByRecursion, list_any}
pub use Rattle.std.specs.Prelude.{IsSome, map, nat_eq, nat_le, option_map, slice_get, slice_index, slice_index_or, slice_set}
pub use Rattle.accepted_pairs.specs.Acceptance.{Acceptance}
pub use Rattle.accepted_pairs.specs.Accepting.{accepted_tree}
pub use Rattle.c_lower.specs.ProgramCode.{lowered, lowered_function}
pub use Rattle.c_mean.specs.ModelledCalls.{BlockingRow, Delivery, Exchange, ImmediateRow, Message, blocking_row, cap_of, immediate_row, is_dropped, is_past, resource_trap, wake_of, with_delivery}
pub use Rattle.c_tree.specs.Trees.{ProgramTree}
pub use Rattle.c_tree.specs.WellScoped.{IsWellScoped}
pub use Rattle.cap_word.specs.Calls.{Blocking, Call, Immediate, most_threads}
pub use Rattle.cap_word.specs.declared.calls.Ask.{Ask}
pub use Rattle.cap_word.specs.declared.calls.Block.{Block}
pub use Rattle.cap_word.specs.declared.stops.Stop.{Stop}
pub use Rattle.cap_word.specs.declared.threads.ThreadId.{ThreadId}
pub use Rattle.cap_word.specs.declared.traps.TrapKind.{TrapKind}
pub use Rattle.certificate_rules.specs.Validity.{IsValid}
pub use Rattle.chunk_pool.proofs.NeedLaws.{taken_for-count, taken_for-none, taken_for-start}
pub use Rattle.chunk_pool.proofs.ShapeLaws.{chunk_at-same, count-same, first_bytes-start}
pub use Rattle.chunk_pool.specs.Pool.{FitsNone, IsPool, Pool, Taken, bytes_of, chunk_at, chunk_of, shape_of, start_pool, taken_for, words_of}
pub use Rattle.flat_code.specs.declared.operations.Op.{Op}
pub use Rattle.machine_meaning.proofs.Formed.{formed}
pub use Rattle.machine_meaning.proofs.Forms.{has_form}
pub use Rattle.machine_meaning.proofs.Zeroes.{program_zeroes}
pub use Rattle.machine_meaning.specs.Reached.{IsFinished, IsFinishedIn, IsReached, StepReaches}
pub use Rattle.machine_meaning.specs.Running.{IsRunning, KeepsRunning}
pub use Rattle.machine_meaning.specs.UnderWay.{IsSettled, IsSettledIf, IsSettledThread, RestsSo, StandsSettled}
pub use Rattle.machine_world.proofs.Counts.{Counts, counts_step}
pub use Rattle.machine_world.proofs.FormWorlds.{IsWellFormedIf-action, IsWellFormedIf-start, KeepsWellFormed-step}
pub use Rattle.machine_world.specs.Areas.{Areas}
pub use Rattle.machine_world.specs.InPlace.{Frame, IsInPlace}
pub use Rattle.machine_world.specs.Keys.{key_of}
pub use Rattle.machine_world.specs.Local.{Calls, Core, Ended, Local, LocalMove, Trapped, local_step, passed, with_header, with_result}
pub use Rattle.machine_world.specs.Places.{Checked, Place, size_in}
pub use Rattle.machine_world.specs.Rests.{AtCall, AtStart, IsPastCall, IsResting, PastCall}
pub use Rattle.machine_world.specs.Runs.{Advance, Deliver, Pick, advanced, after_action, asleep_until, delivered, empty_world, is_between, may_run, picked, picked_at, started_on, world_of}
unfoldable pub use Rattle.machine_world.specs.Runs.{start_world}
pub use Rattle.machine_world.specs.StandsForWorld.{IsPast, StandsForRest, StandsForWorld}
pub use Rattle.machine_world.specs.Stretches.{IsGoodStretch, IsSound, OnWorld}
pub use Rattle.machine_world.specs.Threads.{Blocked, Blocks, Ends, Goes, Move, Puts, Setting, Spawns, Stops, Thread, World, answered, asked, blocks, first_with, local_in, moved, package_call, printed, replaced, result_of, result_on, resumed, retired, spawned, start_core, starts, step_of, step_on, thread_of, unless_trap, with_thread, without}
unfoldable pub use Rattle.machine_world.specs.Threads.{step}
pub use Rattle.machine_world.specs.WellFormed.{AreWellFormed, AreWords, DeliversWords, IsWellFormed, IsWellFormedIf, KeepsWellFormed}
pub use Rattle.segment_laws.proofs.Changing.{all_same, record_added, record_removed, record_written, thread_found, thread_members}
pub use Rattle.segment_laws.proofs.Needs.{NeedsFit-valid}
pub use Rattle.segment_laws.proofs.OtherThreads.{replaced_gone, replaced_joined, segment_keeps}
pub use Rattle.segment_laws.proofs.Silent.{goes_on, step_fuel, step_moves, step_turns}
pub use Rattle.segment_laws.proofs.ValidFacts.{CodeFacts-valid}
pub use Rattle.segment_laws.specs.Facts.{CodeFacts}
pub use Rattle.segment_laws.specs.Found.{IsNumbered, IsOfRecord, KeepsRecords, at_place, threads_in}
pub use Rattle.segment_laws.specs.Silent.{GoesOn, after_silent}
pub use Rattle.segment_run.proofs.Owning.{IsOwned-owns}
pub use Rattle.segment_run.specs.Contexts.{AreOf, IsOwned, IsReady, chain_from, checked_of, chunk_below, code_of, core_of, local_of}
pub use Rattle.segment_run.specs.Passing.{IsAround, RestsAround, RestsBefore, RestsBehind}
pub use Rattle.segment_run.specs.Segments.{IsAtAsk, IsAtModel, IsAtSpawn, IsSegment, KeepsChunks}
pub use Rattle.segment_run.specs.Starting.{IsStarted}
pub use Rattle.segment_run.specs.declared.contexts.Context.{Context}
pub use Rattle.segment_run.specs.declared.contexts.Fuel.{Fuel}
pub use Rattle.segment_run.specs.declared.segments.Segment.{Segment}
pub use Rattle.slab.specs.Slab.{Slab, Updates, get}
pub use Rattle.stack_certificate.specs.Certificates.{fact_at, need_of}
pub use Rattle.stack_certificate.specs.Templates.{kind_of}
pub use Rattle.stack_certificate.specs.declared.certificates.Certificate.{Certificate}
pub use Rattle.stack_image.specs.declared.images.Image.{Image}
pub use Rattle.thread_exchange.specs.Exchanges.{Exchanging, MayResume, after_delivery, row_of}
pub use Rattle.thread_waits.proofs.BlockLaws.{past_or_not}
pub use Rattle.thread_waits.proofs.ReadyLaws.{get_or_any}
pub use Rattle.thread_waits.proofs.TimeLaws.{le_yes}
pub use Rattle.thread_waits.specs.Waiting.{IsBlockInRange, IsUntrapped, Waiting, wait_at}
pub use Rattle.thread_waits.specs.declared.waits.Wait.{Wait}
pub use Rattle.thread_core.specs.Inside.{held_of}
pub use Rattle.thread_core.specs.Kept.{AreAligned, HasCome, IsKept, IsRunningThere, RunsAt}
pub use Rattle.thread_core.specs.Making.{IsPolicy, start_areas}
pub use Rattle.thread_core.specs.Parts.{ContextIs, HasContext, answered_context, passed_context}
pub use Rattle.thread_core.specs.Ready.{is_at_accept_thread, is_ready_in, is_ready_thread, is_same_number, passes}
pub use Rattle.thread_core.specs.Sources.{AreFrom, HasEnded, IsBeside, IsDone, IsKeyOf, ProceedsAsSource, TellsSource}
pub use Rattle.thread_core.specs.States.{blocked_of, machine_of, number_in, number_of, numbers_of, setting_of, thread_of_record, threads_of}
pub use Rattle.thread_core.specs.Steps.{GoesIf, HasFuel, IsNext, KeepsRest, LocalIs, MayRun, OnTold, PlacesIf, Ran, RanOut, RanTo, Runs, SamePlaces, TellsIf, Told, held_in}
pub use Rattle.thread_core.specs.Turns.{HasKey, HasKeyOf, IsTurn, LeavesRun, MayBegin, Tells}
pub use Rattle.thread_core.specs.Waiting.{wait_of, waits_for_in}
pub use Rattle.thread_core.specs.Worlds.{Held, KeepsPlaces}
pub use Rattle.thread_core.specs.declared.records.Record.{Record}
pub use Rattle.thread_core.specs.declared.state.State.{State}
pub use Rattle.thread_core.specs.declared.turns.Turn.{Turn}
