-- What the command `demo` does: the source of the workload of a number is built as by `serve` and runs on the
-- workload's trace, and the output takes a summary of the run, counted over its log. The trace that is passed isn't
-- read.
use Rattle.std.specs.Prelude.{ℕ, ◌≡◌, false, List, [], replicate, Some}
use Rattle.c_tree.specs.Trees.{ProgramTree}
use Rattle.c_lower.specs.ProgramCode.{lowered}
use Rattle.codegen_link.specs.declared.options.Options.{Options}
use Rattle.command_words.specs.declared.options.Policy.{Policy as RunOptions}
use Rattle.command_words.specs.declared.options.Rule.TheVariants.{Graph}
use Rattle.lawful_log.specs.Setup.{Setup}
use Rattle.machine_world.specs.Threads.{World}
use Rattle.schedule_log.specs.declared.entries.Entry.{Entry}
use Rattle.schedule_log.specs.declared.entries.StopLine.{StopLine}
use Rattle.stack_build.specs.Builds.{IsLaidOut}
use Rattle.stack_image.specs.declared.images.Image.{Image}
use Rattle.stack_certificate.specs.declared.certificates.Certificate.{Certificate}
use Rattle.workload.specs.Programs.{program_text}
use Rattle.workload.specs.Traces.{trace_text}
use Rattle.command_outcomes.specs.Outcome.{Outcome}
use Rattle.capriccio_commands.specs.Ends.{IsLast}
use Rattle.command_files.specs.Loads.{IsSourceText}
use Rattle.capriccio_commands.specs.declared.demo_command.Shown.{Shown}
use Rattle.pair_commands.specs.Runs.{IsAccepted, IsRun, ServesProgram, setup_of, stop_status}
use Rattle.pair_commands.specs.RunSteps.{LeadsOn}
use Rattle.capriccio_commands.specs.Summary.{summary_of, summary_text, tally_of, last_from}
use Rattle.capriccio_commands.specs.declared.summaries.Census.{Census}
use Rattle.capriccio_commands.specs.declared.ended.Ended.{Ended}
use Rattle.schedule_log.specs.EntryText.{log_text}
use Rattle.accepted_pairs.specs.Acceptance.{Acceptance}

-- the sizes and the policy of `demo`
abbrev pub demo_sizes : Options
demo_sizes = record { chunk = 4096; max_path = 2032 }

abbrev pub demo_policy : RunOptions
demo_policy = record { chunks = 2048; extra = 0; extra_bytes = 64; fuel = 1000000000; backlog = 1024; caps = replicate 8 0; high = 900; low = 700; rule = Graph; knee = 0 }

-- the outcome: the summary of the run's log, the status of its stop, and the world at the stop
abbrev pub shown_outcome : Setup → List Entry → StopLine → World → Outcome
shown_outcome setup entries stop end = record {
  status = stop_status stop;
  out = summary_of setup entries stop;
  line = [];
  stores = [];
  last = Some (record { setup = setup; end = end });
  reads_trace = false;
}

-- a run of an accepted pair on a trace, whose summary is printed
abbrev pub ShowsRun : List ℕ → Setup → Outcome → Type 0
ShowsRun trace setup outcome =
    IsAccepted setup × (entries : List Entry) × (stop : StopLine) × (end : World)
    × IsRun setup trace entries stop end × (outcome ≡ shown_outcome setup entries stop end)

-- the pair that is laid out for the program is run
abbrev pub ShowsProgram : List ℕ → ProgramTree → Outcome → Type 0
ShowsProgram trace program outcome =
    (i : Image) × (c : Certificate) × IsLaidOut (lowered program) demo_sizes i c × ShowsRun trace (setup_of program i c demo_policy) outcome

-- the program is that of the workload's source. It is never refused: the source reads as a program (`program_is_read`
-- of workload), no frame of it is too large, and neither is its code (`workload_is_built`).
abbrev pub Demos : (number : ℕ) → Outcome → Type 0
Demos number outcome = (program : ProgramTree) × IsSourceText (program_text number) program × ShowsProgram (trace_text number) program outcome

-- ---- its steps

-- the workload is accepted, and its run on the workload's trace does what `serve` does with it
pub record IsAcceptedWorkload (number : ℕ) (accepted : Acceptance) : Type 0 where
  pub program : ProgramTree
  pub source : IsSourceText (program_text number) program
  pub leads : LeadsOn (Some (trace_text number)) demo_policy accepted (ServesProgram (Some (trace_text number)) demo_sizes demo_policy program)
  pub chunk : accepted.certificate.chunk ≡ demo_sizes.chunk

-- the summary of a run that ended in this way with the log of these entries
pub record ShowsEnd (ended : Ended) (census : Census) (entries : List Entry) (shown : Shown) : Type 0 where
  pub status : shown.status ≡ ended.status
  pub world : ended.last ≡ Some shown.world
  pub text : shown.text.items ≡ summary_text census (tally_of entries) (last_from [] entries)

-- the summary of a run that did what is due, counted over the entries of its log, whatever they are
pub record ShowsDue (due : Outcome → Type 0) (census : Census) (shown : Shown) : Type 0 where
  pub served : Outcome
  pub is_due : due served
  pub status : served.status ≡ shown.status
  pub last : IsLast served.last (Some shown.world)
  pub text : (entries : List Entry) → served.out ≡ log_text entries → shown.text.items ≡ summary_text census (tally_of entries) (last_from [] entries)

-- what is printed is due: the status, the text for the output, and the world that was run
pub record IsShown (due : Outcome → Type 0) (shown : Shown) : Type 0 where
  pub outcome : Outcome
  pub is_due : due outcome
  pub status : outcome.status ≡ shown.status
  pub text : outcome.out ≡ shown.text.items
  pub line : outcome.line ≡ []
  pub stores : outcome.stores ≡ []
  pub unread : outcome.reads_trace ≡ false
  pub last : IsLast outcome.last (Some shown.world)
