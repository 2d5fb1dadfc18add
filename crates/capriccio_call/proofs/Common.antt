-- The names that this crate's proofs cite from other crates and from its definitions, passed on from one place. Declares nothing.
pub use Rattle.std.proofs.Common.{[], ◌%◌, ◌*◌, ◌++◌, ◌+◌, ◌/◌, ◌<◌, ◌∙◌, ◌∷◌, ◌≡◌, ◌≢◌, ◌≤◌, ◌⊎◌, Err, IfSome, List, None, Ok, Option, Result, Some, ap, append-nil, append_assoc, arith, drop, false, get_or, inl, inr, length, map, option_to_list, refl, subst, suc, sym, true≢false, zero, ℕ, ⊎_elim}
pub use Rattle.cap_io.proofs.Pieces.{keeps_by_none}
pub use Rattle.std.proofs.KnownBytes.{Keeps-refl}
pub use Rattle.std.proofs.lemmas.List.{length-map, nil_from_length, take_all}
pub use Rattle.std.specs.Io.KnownBytes.{Appends, Keeps}
pub use Rattle.std.specs.Prelude.{slice_index}
pub use Rattle.std.specs.String.{string_bytes}
pub use Rattle.std.specs.Vec.Iter.{into_iter_items, into_iter_steps}
pub use Rattle.c_hoist.proofs.EveryNested.{never, one_program, one_source_error}
pub use Rattle.c_lower.specs.ProgramCode.{lowered}
pub use Rattle.c_tree.specs.Trees.{ProgramTree}
pub use Rattle.c_tree.specs.WellScoped.{IsWellScoped}
pub use Rattle.call_cycles.specs.Cycles.{IsLeast, IsOnCycle}
pub use Rattle.cap_io.specs.Files.{Files, KeepsFiles, KeepsOthers}
pub use Rattle.capriccio_commands.proofs.Workloads.{demo-pool, demo-run-policy}
pub use Rattle.capriccio_commands.specs.Demos.{Demos, ShowsProgram, ShowsRun, demo_policy, demo_sizes, shown_outcome}
pub use Rattle.capriccio_commands.specs.Ends.{IsEnd, IsLast, IsWorldOf}
pub use Rattle.capriccio_commands.specs.declared.ended.Ended.{Ended}
pub use Rattle.certificate_text.proofs.Spellings.{first_refused_unique, spelling_unique, spelling_unrefused}
pub use Rattle.choice_rules.specs.Policy.{Policy}
pub use Rattle.codegen_link.specs.declared.options.Options.{Options}
pub use Rattle.command_audit.specs.Audits.{Audits, AuditsBytes, AuditsProgram, judged_outcome, judgement_status, reading_of}
pub use Rattle.command_files.specs.Loaded.{IsLoaded}
pub use Rattle.command_files.specs.Loads.{AfterCertificate, AfterImage, AfterLoad, AfterSource, AfterThree, IsCertificateText, IsImageText, IsSourceText, OfFile}
pub use Rattle.command_options.proofs.Options.{audit-options, build-sizes, run-policy, serve-policy, serve-pool, serve-sizes}
pub use Rattle.command_options.specs.Options.{AreAuditOptions, IsRunPolicy, sizes_of}
pub use Rattle.command_outcomes.proofs.Ending.{append-nothing, ends-follow, memory-at-once, refused-at-once}
pub use Rattle.command_outcomes.specs.CauseLines.{cause_status, cycle_words, frame_words, most_bytes, refusal}
pub use Rattle.command_outcomes.specs.Done.{AreCutShort, AreStored, IsCutShort, IsDone, IsExact, IsThisCase, IsTold, IsTraceTold, NoFault, NoneCounted, Outside, WhereTold, line_of, outside_by, status_of}
pub use Rattle.command_outcomes.specs.FaultLines.{fault_status}
pub use Rattle.command_outcomes.specs.Outcome.{Outcome, Ran, printed, refused}
pub use Rattle.command_outcomes.specs.Steps.{EndsAs, IsFinished, IsStatus}
pub use Rattle.command_outcomes.specs.declared.documents.Document.{Document}
pub use Rattle.command_outcomes.specs.declared.faults.Fault.{Fault}
pub use Rattle.command_outcomes.specs.declared.faults.Fault.TheVariants.{Memory, Read, Write}
pub use Rattle.command_outcomes.specs.declared.stops.Cause.{Cause}
pub use Rattle.command_outcomes.specs.declared.stops.Stop.{Stop}
pub use Rattle.command_outcomes.specs.declared.stops.Stop.TheVariants.{Failed, Refused}
pub use Rattle.command_words.proofs.OneRequest.{one_request}
pub use Rattle.command_words.specs.WordList.{Audit, Budget, Build, Check, Demo, Graph, IsWordList, Request, Run, Serve, request_of}
pub use Rattle.flat_code.specs.Codes.{FlatCode}
pub use Rattle.lawful_log.specs.Lawful.{IsLawfulLog}
pub use Rattle.lawful_log.specs.Setup.{Setup, setting_of, start_areas}
pub use Rattle.lawful_reading.specs.Judgements.{IsJudgementOf}
pub use Rattle.machine_world.specs.Threads.{Setting, World}
pub use Rattle.machine_world.specs.WellFormed.{AreWellFormed, most_fuel}
pub use Rattle.pair_commands.proofs.OneBuild.{plans-are-one, texts-are-one, words-are-one}
pub use Rattle.pair_commands.specs.Budgets.{Budgets, BudgetsBytes, BudgetsPair, IsBudgetPrinted, IsCycleRefused, budget_text}
pub use Rattle.pair_commands.specs.BuildsFiles.{Builds, BuildsProgram, HasFittingCode, IsUnbuilt, built}
pub use Rattle.pair_commands.specs.Checks.{Checks, ChecksBytes, ChecksPair, IsVerdict, verdict_outcome, verdict_status}
pub use Rattle.pair_commands.specs.Graphs.{Graphs, GraphsProgram, HasFittingFrames, IsFrameRefused, names_of}
pub use Rattle.pair_commands.specs.Runs.{IsAccepted, IsRun, IsRunOfSome, Runs, RunsBytes, RunsOn, RunsPair, Serves, ServesProgram, policy_of, pool_bytes, run_outcome, setup_of, stop_status}
pub use Rattle.pair_commands.specs.declared.check_command.Verdict.{Verdict}
pub use Rattle.pair_commands.specs.declared.check_command.Verdict.TheVariants.{Accepted, Rejected}
pub use Rattle.schedule_log.specs.EntryText.{log_text}
pub use Rattle.schedule_log.specs.declared.entries.Entry.{Entry}
pub use Rattle.schedule_log.specs.declared.entries.StopLine.{StopLine}
pub use Rattle.stack_build.specs.Builds.{IsLaidOut, IsTooLarge, frame_refusal}
pub use Rattle.stack_certificate.specs.declared.certificates.Certificate.{Certificate}
pub use Rattle.stack_image.specs.declared.images.Image.{Image}
pub use Rattle.thread_core.proofs.MakingLaws.{chunk_fours}
pub use Rattle.thread_core.specs.Worlds.{Held}
pub use Rattle.workload.specs.Programs.{program_text}
pub use Rattle.workload.specs.Traces.{trace_text}
pub use Rattle.capriccio_call.specs.Due.{Does, IsDue}
pub use Rattle.capriccio_call.specs.Headline.{IsAnswer, IsAnswerOf, IsLogFor, IsPolicyFor, RanWell, WasGood}
