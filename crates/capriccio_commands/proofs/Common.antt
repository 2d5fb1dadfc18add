-- The names that this crate's proofs cite from other crates and from its definitions, passed on from one place. Declares nothing.
pub use Rattle.std.proofs.Common.{[], ◌*◌, ◌++◌, ◌+ℤ◌, ◌+◌, ◌<◌, ◌^◌, ◌∙◌, ◌∷◌, ◌≡◌, ◌≤◌, Bool, Err, FitsSigned, List, None, Ok, Option, Result, Some, ap, append_assoc, arith, eq-zero-or-pos, false, get_or, inr, length, length-append, map, refl, rules, subst, suc, sym, unsigned_abs, zero, ℕ, ℤ, ⊎_elim}
pub use Rattle.std.proofs.KnownBytes.{Keeps-refl}
pub use Rattle.std.proofs.lemmas.Int.{ints, to_z-of_z, to_z_pos}
pub use Rattle.std.proofs.lemmas.Result.{MatchResult-weaker, err_from_is_err_and, on_ok_weaker}
pub use Rattle.std.specs.Int.{w128, w32}
pub use Rattle.std.specs.Prelude.{IfSome, MatchResult, OnOk, codes}
pub use Rattle.accepted_pairs.specs.Acceptance.{Acceptance}
pub use Rattle.accepted_pairs.specs.Accepting.{accepted_tree}
pub use Rattle.c_hoist.proofs.WholeReads.{reads_nested}
pub use Rattle.c_lower.specs.ProgramCode.{lowered}
pub use Rattle.c_tree.specs.ProgramView.{program_tree}
pub use Rattle.c_tree.specs.Trees.{ProgramTree}
pub use Rattle.cap_io.specs.Files.{KeepsFiles}
pub use Rattle.cap_text.proofs.DecimalLaws.{decimal_some, decimal_unique, decimal_zero, integer_unique}
pub use Rattle.cap_text.specs.Decimals.{canonical_decimal, canonical_integer}
pub use Rattle.cap_text.specs.TextLines.{lines_of}
pub use Rattle.choice_rules.specs.Policy.{Rule, by_graph, by_stride}
pub use Rattle.command_files.specs.Loads.{AfterSource, IsSourceText}
pub use Rattle.command_options.specs.Options.{IsNewMonitor, IsRunPolicy}
pub use Rattle.command_outcomes.proofs.Appended.{three-pieces}
pub use Rattle.command_outcomes.proofs.Ending.{ends-follow, files-keep, kept-are-stored, memory-at-once, memory-before, refused-at-once, stopped}
pub use Rattle.command_outcomes.specs.Done.{AreStored, IsCutInOut, IsTraceLeft, IsWhole, NoneCounted, Outside, TraceCounted, WhereTold, WriteCounted, outside_by}
pub use Rattle.command_outcomes.specs.Outcome.{NoMore, Outcome, Ran}
pub use Rattle.command_outcomes.specs.Steps.{EndsAs, IsPrinted, IsStop, RunEnds}
pub use Rattle.command_outcomes.specs.declared.faults.Fault.TheVariants.{Memory, Read, Write}
pub use Rattle.command_outcomes.specs.declared.stops.Stop.{Stop}
pub use Rattle.command_outcomes.specs.declared.stops.Stop.TheVariants.{Failed, Refused}
pub use Rattle.lawful_log.specs.Good.{checked_of}
pub use Rattle.lawful_log.specs.Setup.{Setup}
pub use Rattle.machine_world.specs.Stretches.{IsSound}
pub use Rattle.machine_world.specs.Threads.{World, with_thread}
pub use Rattle.pair_commands.specs.Runs.{IsAccepted, IsRun, Runs, RunsOn, Serves, ServesProgram, pool_bytes, rule_of, run_outcome, setup_of, stop_status}
pub use Rattle.run_course.specs.Output.{IsFitText}
pub use Rattle.runner.specs.Answers.{CameTo, HasLog, IsEndAt, IsRunEnd}
pub use Rattle.runner.specs.declared.ends.RunEnd.{RunEnd}
pub use Rattle.schedule_log.proofs.LogLines.{log_lines}
pub use Rattle.schedule_log.specs.EntryText.{entry_fields, entry_text, entry_word, stop_fields}
unfoldable pub use Rattle.schedule_log.specs.EntryText.{log_text}
pub use Rattle.schedule_log.specs.declared.entries.Entry.{Entry}
pub use Rattle.schedule_log.specs.declared.entries.StopLine.{StopLine}
pub use Rattle.schedule_log.specs.declared.entries.StopLine.TheVariants.{Cut, Done, Idle, Trace}
pub use Rattle.thread_core.specs.Worlds.{Held}
pub use Rattle.workload.specs.Programs.{line_feed}
unfoldable pub use Rattle.workload.specs.Programs.{chain_text, first_line, link_line, main_line, program_text, worker_line}
pub use Rattle.workload.specs.Traces.{trace_text}
pub use Rattle.capriccio_commands.specs.Closings.{IsClosed}
pub use Rattle.capriccio_commands.specs.Demos.{Demos, IsAcceptedWorkload, IsShown, ShowsDue, ShowsEnd, ShowsRun, demo_policy, demo_sizes, shown_outcome}
pub use Rattle.capriccio_commands.specs.Ends.{IsEnd, IsLast, IsReachable, IsWorldOf}
pub use Rattle.capriccio_commands.specs.FitLogs.{HasRoom, TakesFit}
pub use Rattle.capriccio_commands.specs.MadeWorlds.{IsMade, setup_in, world_policy_of}
pub use Rattle.capriccio_commands.specs.Summary.{census_of, count_line, counted, last_from, no_tally, sum_line, summary_text, tally_from, tally_of, with_cost}
pub use Rattle.capriccio_commands.specs.declared.ended.Ended.{Ended}
pub use Rattle.capriccio_commands.specs.declared.summaries.Tally.{Tally}
