-- The headline: what a call of the program does, from what its objects expose before it to what they expose after it.
--
-- `IsAnswer` says what the command does: by `IsDue` (specs/Due) the words, the files and the trace have one outcome.
-- `WasGood` says that the run of a returned world was good. docs/HEADLINE.md explains both part by part.
use Rattle.std.specs.Prelude.{ℕ, ◌≡◌, List, Option, IfSome, Some, None, Result}
use Rattle.std.specs.Io.KnownBytes.{Appends}
use Rattle.choice_rules.specs.Policy.{Policy}
use Rattle.command_words.specs.WordList.{IsWordList, Request, Serve, Run, Build, Check, Graph, Demo, Audit, Budget}
use Rattle.lawful_log.specs.Setup.{Setup}
use Rattle.machine_world.specs.Threads.{World}
use Rattle.schedule_log.specs.EntryText.{log_text}
use Rattle.schedule_log.specs.declared.entries.Entry.{Entry}
use Rattle.schedule_log.specs.declared.entries.StopLine.{StopLine}
use Rattle.thread_core.specs.Worlds.{Held}
use Rattle.command_outcomes.specs.declared.faults.Fault.{Fault}
use Rattle.command_files.specs.Loads.{IsSourceText}
use Rattle.command_outcomes.specs.Outcome.{Outcome}
use Rattle.command_outcomes.specs.Done.{Outside, IsDone, IsExact, IsTold, status_of, line_of, last_of}
use Rattle.capriccio_commands.specs.Ends.{IsLast, IsWorldOf}
use Rattle.capriccio_call.specs.Due.{IsDue}
use Rattle.pair_commands.specs.Runs.{IsAccepted, IsRun, IsRunOfSome, policy_of, stop_status}
use Rattle.capriccio_commands.specs.Demos.{demo_policy}
use Rattle.capriccio_commands.specs.Summary.{summary_of}
use Rattle.capriccio_call.specs.TheText.{IsLogOfText}
use Rattle.workload.specs.Traces.{trace_text}
use Rattle.workload.specs.Programs.{program_text}

-- what is due is done completely, or in part after a fault or out of memory; if nothing failed, exactly that is done.
-- Standard error takes the line, the status is that of the outcome or of the fault, and the world that was run is
-- returned exactly if a run reached its stop.
abbrev pub IsAnswerOf : (due : Outside → Outcome → Type 0) → (before after : Outside) → (err err' : Option (List ℕ)) → (faults faults' : ℕ) → (last : Option Held) → (status : ℕ) → Type 0
IsAnswerOf due before after err err' faults faults' last status =
    (given : Result Outcome Fault)
    × IsDone (due before) before after given
    × IsExact due before after given
    × IsTold (status_of given) (line_of given) err err' faults faults' status
    × IsLast (last_of given) last

-- the answer to these words
abbrev pub IsAnswer : (words : List (List ℕ)) → (before after : Outside) → (err err' : Option (List ℕ)) → (faults faults' : ℕ) → (last : Option Held) → (status : ℕ) → Type 0
IsAnswer words = IsAnswerOf (IsDue words)

-- what a run wrote, by what the words ask for: the entries are the lawful log of the run up to the stop, and that log
-- is good. For `demo` the program is the workload of its number, the log is that on the workload's trace, and the
-- output took the summary that is counted over it. For every other request the log is that on the trace that is passed,
-- and the output took its lines; if the trace doesn't expose its bytes, it is the log on some bytes.
abbrev pub IsLogFor : Request → Setup → (before after : Outside) → List Entry → StopLine → World → Type 0
IsLogFor (Demo number) setup before after entries stop end =
    IsSourceText (program_text number) setup.program
    × IsRun setup (trace_text number) entries stop end
    × Appends before.taken after.taken (summary_of setup entries stop)
IsLogFor request setup before after entries stop end =
    IfSome before.left (λ trace. IsRun setup trace entries stop end)
    × Appends before.taken after.taken (log_text entries)
    × IsRunOfSome setup before.left entries stop end

-- the policy of a run is that of its words' options, each with its default if it isn't given. `demo` has no options and
-- a fixed policy. No other request runs a program.
abbrev pub IsPolicyFor : Request → Policy → Type 0
IsPolicyFor (Serve source placement options) policy = policy ≡ policy_of options
IsPolicyFor (Run source image certificate options) policy = policy ≡ policy_of options
IsPolicyFor (Demo number) policy = policy ≡ policy_of demo_policy
IsPolicyFor (Build source image certificate placement) policy = ⊥
IsPolicyFor (Check source image certificate) policy = ⊥
IsPolicyFor (Graph source placement) policy = ⊥
IsPolicyFor (Audit source log options) policy = ⊥
IsPolicyFor (Budget source image certificate) policy = ⊥

-- a run that the words ask for reached its stop in this world, and was good: its policy is that of the words' options;
-- the checker accepts its program, image and certificate; the output took its lawful log, which is good, or for `demo`
-- a summary of it; that log is the one of the text that was loaded; the status is that of the stop
pub record RanWell (words : List (List ℕ)) (before after : Outside) (world : Held) (status : ℕ) : Type 0 where
  pub request : Request
  pub asked : IsWordList words request
  pub setup : Setup
  pub policy : IsPolicyFor request setup.policy
  pub entries : List Entry
  pub stop : StopLine
  pub end : World
  pub accepted : IsAccepted setup
  pub log : IsLogFor request setup before after entries stop end
  pub text : IsLogOfText request before.files setup entries
  pub stopped : status ≡ stop_status stop
  pub handed_out : IsWorldOf (record { setup = setup; end = end }) world

-- if a world is returned, its run was good
abbrev pub WasGood : (words : List (List ℕ)) → (before after : Outside) → (last : Option Held) → (status : ℕ) → Type 0
WasGood words before after None status = Unit {0}
WasGood words before after (Some world) status = RanWell words before after world status
