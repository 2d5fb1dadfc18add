-- What a command writes, and its status, if nothing fails.
use Rattle.std.specs.Prelude.{◌≡◌, ℕ, ◌≤◌, ◌⊎◌, List}
use Rattle.std.specs.Io.KnownBytes.{Appends}
use Rattle.lawful_log.specs.Setup.{Setup}
use Rattle.machine_world.specs.Threads.{World}
use Rattle.schedule_log.specs.EntryText.{log_text}
use Rattle.schedule_log.specs.declared.entries.Entry.{Entry}
use Rattle.schedule_log.specs.declared.entries.StopLine.{StopLine}
use Rattle.command_outcomes.specs.declared.faults.Fault.TheVariants.{Memory}
use Rattle.command_outcomes.specs.Done.{Outside}
use Rattle.command_outcomes.specs.FaultLines.{fault_status}
use Rattle.command_audit.specs.Audits.{judgement_line, judgement_status}
use Rattle.lawful_reading.specs.declared.judgement.Judgement.{Judgement}
use Rattle.pair_commands.specs.Runs.{IsRun, stop_status}
use Rattle.capriccio_commands.specs.Summary.{summary_of}

-- this holds, or memory ran out
abbrev pub UnlessMemory : ℕ → Type 0 → Type 0
UnlessMemory status P = P ⊎ (status ≡ fault_status Memory)

-- 0, 10, 11, 12, 13 or 14
abbrev pub IsRunStatus : ℕ → Type 0
IsRunStatus status = (status ≡ 0) ⊎ ((10 ≤ status) × (status ≤ 14))

-- the entries are the lawful log of the run on the trace up to this stop, and are good; the status is that of the stop
pub record EndsRun (g : Setup) (trace : List ℕ) (entries : List Entry) (stop : StopLine) (status : ℕ) : Type 0 where
  pub end : World
  pub run : IsRun g trace entries stop end
  pub stopped : status ≡ stop_status stop
  pub among : IsRunStatus status

-- the output took the whole log of the run
pub record WritesLog (g : Setup) (trace : List ℕ) (before after : Outside) (status : ℕ) : Type 0 where
  pub entries : List Entry
  pub stop : StopLine
  pub ends : EndsRun g trace entries stop status
  pub out : Appends before.taken after.taken (log_text entries)

-- the output took the summary of the whole log of the run
pub record WritesSummary (g : Setup) (trace : List ℕ) (before after : Outside) (status : ℕ) : Type 0 where
  pub entries : List Entry
  pub stop : StopLine
  pub ends : EndsRun g trace entries stop status
  pub out : Appends before.taken after.taken (summary_of g entries stop)

-- the output took this text, and the status is 0
pub record WritesText (text : List ℕ) (before after : Outside) (status : ℕ) : Type 0 where
  pub out : Appends before.taken after.taken text
  pub succeeds : status ≡ 0

-- the output took the line with the verdict on a log, and the status is the verdict's
pub record WritesJudgement (is : Judgement) (before after : Outside) (status : ℕ) : Type 0 where
  pub out : Appends before.taken after.taken (judgement_line is)
  pub status_is : status ≡ judgement_status is
