-- What the answer of an audit means. The lawful log of a run that the checker accepts, under the policy of the audit's
-- words and on its trace, is never called unlawful. And a log that is called lawful is what the source does under the
-- schedule that it prints, with the choices of the priority rule.
use Rattle.std.specs.Prelude.{ℕ, ◌≡◌, ◌⊎◌, List, Some}
use Rattle.std.specs.Io.KnownBytes.{Appends}
use Rattle.audited_logs.specs.Audited.{read_policy}
use Rattle.audited_logs.specs.Printed.{AreLawfulChoices}
use Rattle.c_hoist.specs.NestedText.{ReadsNested}
use Rattle.c_tree.specs.Trees.{ProgramTree}
use Rattle.cap_io.specs.Files.{Files}
use Rattle.chunk_pool.specs.Pool.{IsPool}
use Rattle.command_words.specs.WordList.{IsWordList, Audit}
use Rattle.command_words.specs.declared.options.Audit.{Audit as AuditOptions}
use Rattle.deep_mean.specs.Naming.{deep_program}
use Rattle.lawful_log.specs.Lawful.{IsLawfulLog}
use Rattle.lawful_log.specs.Setup.{Setup, start_areas}
use Rattle.lawful_reading.specs.Given.{Given}
use Rattle.machine_world.specs.Threads.{World}
use Rattle.schedule_log.specs.EntryText.{log_text}
use Rattle.schedule_log.specs.declared.entries.Entry.{Entry}
use Rattle.schedule_log.specs.declared.entries.StopLine.{StopLine}
use Rattle.audited_logs.specs.TextLog.{IsTextLog}
use Rattle.command_outcomes.specs.declared.documents.Document.TheVariants as document
use Rattle.command_outcomes.specs.declared.faults.Fault.TheVariants.{Memory}
use Rattle.command_outcomes.specs.Done.{Outside, NoFault}
use Rattle.command_outcomes.specs.FaultLines.{fault_status}
use Rattle.command_files.specs.Loads.{IsSourceText}
use Rattle.command_files.specs.Loaded.{IsLoaded}
use Rattle.command_audit.specs.Audits.{judgement_line, judgement_status, reading_of, reading_policy}
use Rattle.pair_commands.specs.Runs.{IsAccepted}
use Rattle.lawful_reading.specs.declared.judgement.Judgement.{Judgement}
use Rattle.lawful_reading.specs.declared.judgement.Judgement.TheVariants.{Lawful, Steps}

-- the words ask for the audit of this log of this program, on this trace: the shelf exposes its files, and the trace
-- its bytes; the file of the source is read as the program, and that of the log has exactly these bytes, at most as
-- many as a log may have (67,108,864)
pub record AsksForAudit (words : List (List ℕ)) (before : Outside) (options : AuditOptions) (program : ProgramTree) (trace log : List ℕ) : Type 0 where
  pub source_name : List ℕ
  pub log_name : List ℕ
  pub asked : IsWordList words (Audit source_name log_name options)
  pub files : Files
  pub files_told : before.files ≡ Some files
  pub trace_told : before.left ≡ Some trace
  pub source : List ℕ
  pub source_there : IsLoaded document.Source (Some files) source_name source
  pub reads : IsSourceText source program
  pub log_there : IsLoaded document.Log (Some files) log_name log

-- a run is made under the policy of an audit: the checker accepts its pair, its chunks make a pool, and its policy is
-- that of the audit's words, except for the sizes of the chunks and the number of each size, of which the words give
-- only the sum. The rule is the priority rule.
pub record IsRunUnder (options : AuditOptions) (g : Setup) : Type 0 where
  pub accepted : IsAccepted g
  pub pool : IsPool (start_areas g).pool
  pub policy : read_policy g.policy ≡ reading_policy options

-- the output took the line of this verdict, and the status is the verdict's
abbrev pub SaysOf : Judgement → (before after : Outside) → (status : ℕ) → Type 0
SaysOf is before after status = (status ≡ judgement_status is) × Appends before.taken after.taken (judgement_line is)

-- `lawful` with status 0, or `steps LINE` with status 16, or out of memory
abbrev pub SaysLawfulOrSteps : (before after : Outside) → (status : ℕ) → Type 0
SaysLawfulOrSteps before after status =
    SaysOf Lawful before after status
    ⊎ (((line : ℕ) × SaysOf (Steps line) before after status) ⊎ (status ≡ fault_status Memory))

-- what `lawful` says of a log, given the bytes of a source, a policy and a trace: the log is the text of these entries;
-- under the schedule that they print, the source by itself, without rewriting, puts, blocks, ends and stops as they
-- say; and each `run` line among them names the choice of the priority rule, by the costs, the clocks and the free
-- chunks that are printed before it
pub record IsSourcesLog (source : List ℕ) (g : Given) (trace log : List ℕ) : Type 0 where
  pub entries : List Entry
  pub log_is : log ≡ log_text entries
  pub read : ReadsNested source g.program
  pub text : IsTextLog (deep_program read.tree) g.policy.caps entries
  pub choices : AreLawfulChoices g trace entries

-- if no count of faults rose, an audit calls the text of the lawful log of each run of its program, under its policy
-- and on its trace, lawful, or says that it needs too many steps. And if the status is that of `lawful`, the log is the
-- source's, under the words' policy and on the trace.
pub record IsAudited (words : List (List ℕ)) (before after : Outside) (status : ℕ) : Type 0 where
  pub lawful_log : (options : AuditOptions) (g : Setup) (trace : List ℕ) (entries : List Entry) (stop : StopLine) (end : World) →
      AsksForAudit words before options g.program trace (log_text entries) → IsRunUnder options g → IsLawfulLog g trace entries stop end →
      NoFault before after → SaysLawfulOrSteps before after status
  pub said_lawful : (options : AuditOptions) (program : ProgramTree) (trace log : List ℕ) → (asks : AsksForAudit words before options program trace log) →
      status ≡ judgement_status Lawful → IsSourcesLog asks.source (reading_of program options) trace log
