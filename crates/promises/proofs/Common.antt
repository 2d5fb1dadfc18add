-- The names that this crate's proofs cite from other crates and from its definitions, passed on from one place. Declares nothing.
pub use Rattle.std.proofs.Common.{[], Bool, ◌++◌, ◌+◌, ◌∙◌, ◌∷◌, ◌≡◌, ◌≢◌, ◌≤◌, ◌⊎◌, Err, IfSome, List, None, Ok, Option, Result, Some, ap, append_assoc, arith, inl, inr, map, refl, subst, suc, sym, zero, ℕ, ⊎_elim}
pub use Rattle.std.proofs.ByRecursion.{All-append}
pub use Rattle.std.proofs.lemmas.List.{nil_from_length}
pub use Rattle.std.proofs.lemmas.Option.{none-some, same_Some}
pub use Rattle.std.specs.Io.KnownBytes.{Appends}
pub use Rattle.std.specs.List.{AllByRecursion}
pub use Rattle.std.specs.Prelude.{codes, slice_get, slice_index}
pub use Rattle.accepted_pairs.specs.Accepting.{accepted_tree}
pub use Rattle.c_lower.specs.ProgramCode.{lowered}
pub use Rattle.c_tree.specs.Trees.{ProgramTree}
pub use Rattle.cap_io.specs.Files.{Files}
pub use Rattle.capriccio_call.proofs.Faults.{after-fault, answer-of}
pub use Rattle.capriccio_call.proofs.GoodRun.{of-due, status-told}
pub use Rattle.capriccio_call.proofs.OneRun.{areas-formed}
pub use Rattle.capriccio_call.proofs.OutcomeKinds.{IsFree, IsPairFor, IsRunFor, free-apart, kind-of, refusal-plain, run-for-free}
pub use Rattle.capriccio_call.proofs.TheText.{IsRunOfSource, IsSetupOf, log-of-text}
pub use Rattle.capriccio_call.proofs.ToldFiles.{outcome-of}
pub use Rattle.capriccio_call.specs.Due.{Does, IsDue}
pub use Rattle.capriccio_call.specs.Headline.{IsAnswer, IsPolicyFor}
pub use Rattle.capriccio_commands.specs.Demos.{ShowsRun, shown_outcome}
pub use Rattle.capriccio_commands.specs.Ends.{IsLast, IsWorldOf}
pub use Rattle.choice_rules.specs.Policy.{Policy}
pub use Rattle.command_files.specs.Loads.{AfterLoad, AfterSource, IsSourceText, OfFile}
pub use Rattle.command_options.proofs.Options.{run-policy, serve-policy}
pub use Rattle.command_options.specs.Options.{IsRunPolicy, sizes_of}
pub use Rattle.command_outcomes.specs.CauseLines.{cause_status, refusal}
pub use Rattle.command_outcomes.specs.Done.{IsDone, IsTold, Outside, line_of, status_of}
pub use Rattle.command_outcomes.specs.FaultLines.{fault_line, fault_status}
pub use Rattle.command_outcomes.specs.Outcome.{Outcome, Ran}
pub use Rattle.command_outcomes.specs.declared.documents.Document.{Document}
pub use Rattle.command_outcomes.specs.declared.faults.Fault.{Fault}
pub use Rattle.command_outcomes.specs.declared.faults.Fault.TheVariants.{Memory, Read, Write}
pub use Rattle.command_outcomes.specs.declared.stops.Cause.{Cause}
pub use Rattle.command_words.specs.Said.{Said}
pub use Rattle.command_words.specs.WordList.{Audit, Budget, Build, Check, Demo, Graph, IsWordList, Request, Run, Serve}
pub use Rattle.lawful_log.specs.Good.{checked_of}
pub use Rattle.lawful_log.specs.Lawful.{IsAllowed, IsLawfulLog, Leads, by_entry, nowhere}
pub use Rattle.lawful_log.specs.Setup.{Setup, main_fact, setting_of, start_areas, start_machine}
pub use Rattle.lawful_log.specs.State.{State, start_of}
pub use Rattle.log_laws.proofs.LogLemmas.{IsReady}
pub use Rattle.machine_world.specs.Runs.{Action, after_actions, and_then, world_of}
pub use Rattle.machine_world.specs.Threads.{Move, Setting, World, step}
pub use Rattle.machine_world.specs.WellFormed.{DeliversWords}
pub use Rattle.pair_commands.specs.Runs.{IsAccepted, RunsBytes, RunsOn, RunsPair, ServesProgram, policy_of, pool_bytes, run_outcome, stop_status}
pub use Rattle.schedule_log.specs.EntryText.{entry_text, log_text}
pub use Rattle.schedule_log.specs.declared.entries.Entry.{Entry}
pub use Rattle.schedule_log.specs.declared.entries.StopLine.{StopLine}
pub use Rattle.thread_core.specs.Worlds.{Held}
pub use Rattle.promises.specs.Words.{AreOf}
