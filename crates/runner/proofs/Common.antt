-- The names that this crate's proofs cite from other crates and from its definitions, passed on from one place. Declares nothing.
pub use Rattle.std.proofs.Common.{[], ◌*◌, ◌++◌, ◌+◌, ◌-◌, ◌<◌, ◌^◌, ◌||◌, ◌∙◌, ◌∷◌, ◌≡◌, ◌≢◌, ◌≤◌, Bool, Err, List, Ok, Option, Result, Some, ap, append-nil, append_assoc, arith, cond, drop, false, inl, inr, length, length-append, map, refl, subst, suc, sym, take, true, zero, ℕ, ⊎_elim}
pub use Rattle.std.proofs.lemmas.Bool.{cases_lt}
pub use Rattle.std.proofs.lemmas.Bool.Decides.{nat_tests}
pub use Rattle.std.proofs.lemmas.List.{append_cancel_left, length-take-le, nil_from_length, take-append-drop, take-append-le}
pub use Rattle.std.proofs.lemmas.Result.{err_from_is_err_and}
pub use Rattle.std.specs.Io.KnownBytes.{Appends, append_known}
pub use Rattle.std.specs.Prelude.{All, Contains, IfSome, None, if◌then◌else◌, is_some, nat_le}
pub use Rattle.blocking_graph.specs.Graph.{GraphState}
pub use Rattle.blocking_graph.specs.declared.edges.EdgeLine.{EdgeLine}
pub use Rattle.cap_io.specs.Writes.{Puts}
pub use Rattle.cap_word.specs.declared.stops.Stop.{Stop}
pub use Rattle.cap_word.specs.declared.threads.ThreadId.{ThreadId}
pub use Rattle.choice_rules.specs.Clock.{IsLeastOf, event_times, is_due, latest}
pub use Rattle.choice_rules.specs.Policy.{Rule}
pub use Rattle.choice_rules.specs.Stops.{IsBadTrace, IsDone, IsIdle}
pub use Rattle.choice_rules.specs.Trace.{IsNext, IsRefused}
pub use Rattle.chunk_pool.specs.Pool.{free_count}
pub use Rattle.event_trace.specs.Lines.{FitsEvent}
pub use Rattle.event_trace.specs.declared.events.Event.{Event}
pub use Rattle.lawful_log.proofs.Clocks.{contains_head, contains_later, contains_none, contains_tail, later_block, moved_goes_on, not_moved}
pub use Rattle.lawful_log.specs.Lawful.{IsLawfulLog, Leads, by_entry, ending, nowhere}
pub use Rattle.lawful_log.specs.Setup.{Setup, setting_of}
pub use Rattle.lawful_log.specs.State.{Segment, State, seen_of, start_of}
pub use Rattle.machine_world.specs.Runs.{advanced, asleep_until}
pub use Rattle.machine_world.specs.Threads.{Blocked, Setting, Thread, World}
pub use Rattle.resource_monitor.specs.Monitor.{MonitorState}
pub use Rattle.run_course.proofs.Clocks.{clock_same}
pub use Rattle.run_course.proofs.FitTexts.{fit_anyway, fit_on, no_line, one_line, text_append}
pub use Rattle.run_course.proofs.Joined.{finished, grows_none, grows_on, part_on, whole_on}
pub use Rattle.run_course.proofs.PartSteps.{holds_on_ok, part_counts, part_ends, part_falls, part_unrefused, stuck_small}
pub use Rattle.run_course.proofs.Parts.{acts_between, by_none, no_acts, no_part, onward_between, same_ticks, silent, to_between, way_between}
pub use Rattle.run_course.proofs.Soundness.{sound_between}
pub use Rattle.run_course.proofs.Started.{fuel_most, scoped, start_sound, starts, valid, well}
pub use Rattle.run_course.specs.Counts.{CountsLook, CountsPart, CountsStep}
pub use Rattle.run_course.specs.Kept.{Kept, known}
pub use Rattle.run_course.specs.Lines.{edge_lines, end_lines}
pub use Rattle.run_course.specs.Output.{Grows, IsFitText, Output, TakesPart, output_of, unheld}
pub use Rattle.run_course.specs.Ranks.{FallsTo, due_at, lines_rank, long_rank, rank, stuck_rank}
pub use Rattle.run_course.specs.Rest.{BackTo, HasBytes, Knows, Made, Rest, Told, Unasked, bytes_of}
pub use Rattle.run_course.specs.Rules.{HasNothing, rule_of}
pub use Rattle.run_course.specs.Sound.{IsSound}
pub use Rattle.run_course.specs.Stands.{FitsNext, IsAtChoice, IsAtPoint, IsTraceIn, IsTraceOf, Stands, StandsBetween, StandsSomehow}
pub use Rattle.run_course.specs.Starts.{IsAtStartBy, KeepsRun}
pub use Rattle.run_course.specs.Steps.{ActsTo, FailsIn, GoesTo, HaltsAt, HasThread, StepEnds, stop_line}
pub use Rattle.run_course.specs.Ways.{HasTicked, IsOnRun, IsOnWay, has_run}
pub use Rattle.run_course.specs.declared.ends.Failure.{Failure}
pub use Rattle.run_course.specs.declared.ends.Halt.{Halt}
pub use Rattle.schedule_log.specs.EntryText.{entry_text, log_text}
pub use Rattle.schedule_log.specs.Writing.{TakesPrefix, WriterState}
pub use Rattle.schedule_log.specs.declared.entries.Entry.{Entry}
pub use Rattle.schedule_log.specs.declared.entries.StopLine.{StopLine}
pub use Rattle.thread_core.specs.Ready.{IsWake, any_ready_in}
pub use Rattle.thread_core.specs.Worlds.{Held, IsThread}
pub use Rattle.runner.specs.Answers.{CameTo, FellShort, HasLog, IsEndAt, IsOfThread, IsRunEnd}
pub use Rattle.runner.specs.Ends.{failure_end, halt_end}
pub use Rattle.runner.specs.HeldBack.{HeldBack}
unfoldable pub use Rattle.runner.specs.HeldBack.{last_line}
pub use Rattle.runner.specs.Waits.{MovesOn, StaysIdle, WaitEnds, earlier, time_of}
