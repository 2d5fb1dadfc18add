-- The names that this crate's proofs cite from other crates and from its definitions, passed on from one place. Declares nothing.
pub use Rattle.std.proofs.Common.{[], ◌++◌, ◌+◌, ◌-◌, ◌<◌, ◌^◌, ◌∙◌, ◌∷◌, ◌≡◌, ◌≢◌, ◌≤◌, ◌⊎◌, Err, List, Ok, ap, arith, drop, false, filter, inl, inr, length, map, min, refl, subst, suc, sym, zero, ℕ, ⊎_elim}
pub use Rattle.stack_plan.proofs.Enough.{weights-count}
pub use Rattle.std.proofs.KnownBytes.{Keeps-refl}
pub use Rattle.std.proofs.lemmas.List.{length-map}
pub use Rattle.std.proofs.lemmas.Result.{MatchResult-weaker, err_from_is_err_and}
pub use Rattle.std.specs.Global.{Vec}
pub use Rattle.std.specs.List.{AllByRecursion, cons_option, filter_map}
pub use Rattle.std.specs.List.Sorted.{IsStrictlyIncreasing}
pub use Rattle.std.specs.Prelude.{MatchResult, None, Option, Result, Some, codes, option_map, slice_index_or}
pub use Rattle.accepted_pairs.specs.Acceptance.{Acceptance}
pub use Rattle.accepted_pairs.specs.Accepting.{accepted_tree}
pub use Rattle.analysis_lines.specs.Lines.{analysis_lines, name_at}
pub use Rattle.c_lower.specs.ProgramCode.{lowered, lowered_function}
pub use Rattle.c_tree.specs.ProgramView.{program_tree}
pub use Rattle.c_tree.specs.Trees.{FunctionTree, ProgramTree}
pub use Rattle.c_tree.specs.WellScoped.{IsWellScoped}
pub use Rattle.c_tree.specs.declared.programs.Program.{Program}
pub use Rattle.call_graph.specs.Graph.{CallGraphState}
pub use Rattle.call_graph.specs.declared.sites.GraphSite.{GraphSite}
pub use Rattle.certificate_check.specs.Refusals.{IsRefusalOf}
pub use Rattle.certificate_check.specs.declared.checking.CheckError.{CheckError}
pub use Rattle.codegen_link.specs.declared.options.Options.{Options}
pub use Rattle.command_files.proofs.Follows.{Nothing, after-load, after-three, certificate-follows, image-follows, load-follows, loaded, of-three, shelf-stop-follows, source-follows, stop-follows, stop-on-shelf, three-follow}
pub use Rattle.command_files.specs.Loads.{AfterCertificate, AfterImage, AfterLoad, AfterSource, AfterThree, IsImageText, IsSourceText}
pub use Rattle.command_outcomes.proofs.Ending.{printed-ends, printed-now, stopped, stored-after, stores-after, stores-cut}
pub use Rattle.command_outcomes.specs.CauseLines.{cycle_words, frame_words}
pub use Rattle.command_outcomes.specs.Done.{AreStored, Outside, WhereTold, outside_beside}
pub use Rattle.command_outcomes.specs.Outcome.{NoMore, Outcome, printed, refused}
pub use Rattle.command_outcomes.specs.Steps.{AreStores, IsPrinted, IsShelfStop, IsStatus, IsStop}
pub use Rattle.command_outcomes.specs.declared.stops.Stop.{Stop}
pub use Rattle.command_outcomes.specs.declared.stops.Stop.TheVariants.{Failed, Refused}
pub use Rattle.cycle_break.specs.BackEdges.{back_edges}
pub use Rattle.flat_code.specs.Codes.{FlatCode}
pub use Rattle.flat_code.specs.WellFormed.{IsWellFormed}
pub use Rattle.machine_meaning.proofs.Formed.{formed}
pub use Rattle.stack_build.proofs.Frames.{frames-fit}
pub use Rattle.stack_build.specs.Builds.{IsLaidOut, IsPlanned, IsTooLarge, frame_refusal}
pub use Rattle.stack_build.specs.declared.refusals.BuildError.TheVariants.{CodeTooLarge, FrameTooLarge, Memory}
pub use Rattle.stack_certificate.specs.declared.certificates.Certificate.{Certificate}
pub use Rattle.stack_image.specs.declared.images.Image.{Image}
pub use Rattle.pair_commands.specs.Budgets.{Budgets, BudgetsBytes, BudgetsPair, IsCycleRefused, height_lines}
pub use Rattle.pair_commands.specs.BuildsFiles.{Builds, BuildsProgram, HasFittingCode, IsProductsOf, IsUnbuilt, built, stored_products}
pub use Rattle.pair_commands.specs.Checks.{Checks, ChecksBytes, ChecksPair, verdict_line, verdict_outcome, verdict_status}
pub use Rattle.pair_commands.specs.Graphs.{Graphs, GraphsProgram, HasFittingFrames, IsAnalysed, IsFrameRefused, names_of}
pub use Rattle.pair_commands.specs.Pairs.{AfterPair, IsPairText, Unread}
pub use Rattle.pair_commands.specs.RunSteps.{IsUnaccepted, LeadsOn}
pub use Rattle.pair_commands.specs.Runs.{RunsBytes, RunsOn, RunsPair, Serves, ServesProgram, pool_bytes, setup_of}
pub use Rattle.pair_commands.specs.declared.build_command.Products.{Products}
