-- What is due of a log that is judged, and how the command ends by what is said of it.
use Rattle.std.proofs.Common.{◌≡◌, ◌≢◌, ℕ, List, Option, Some, None, Result, Ok, Err, refl, subst, ◌∙◌, inl, arith}
use Rattle.std.specs.Prelude.{true}
use Rattle.std.proofs.KnownBytes.{Keeps-refl}
use Rattle.cap_io.specs.Files.{Files, KeepsFiles}
use Rattle.c_tree.specs.Trees.{ProgramTree}
use Rattle.choice_rules.specs.Policy.{by_graph}
use Rattle.command_words.specs.declared.options.Audit.{Audit as AuditOptions}
use Rattle.lawful_reading.specs.Given.{Given}
use Rattle.lawful_reading.proofs.Found.{some_judgement}
use Rattle.lawful_reading.specs.declared.judgement.Judgement.{Judgement}
use Rattle.resource_monitor.specs.Monitor.{MonitorState}
use Rattle.schedule_audit.specs.Verdicts.{CountsVerdict, IsVerdict}
use Rattle.schedule_audit.specs.declared.verdicts.Verdict.{Verdict}
use Rattle.schedule_reading.specs.Limits.{MayAudit, given_of}
use Rattle.command_outcomes.specs.declared.documents.Document.TheVariants as document
use Rattle.command_outcomes.specs.declared.stops.Stop.{Stop}
use Rattle.command_outcomes.specs.declared.stops.Stop.TheVariants.{Refused, Failed}
use Rattle.command_outcomes.specs.Done.{Outside}
use Rattle.command_files.specs.Loads.{AfterLoad, AfterSource, IsSourceText}
use Rattle.command_outcomes.specs.Outcome.{Outcome, NoMore}
use Rattle.command_outcomes.specs.Steps.{IsPrinted, IsShelfStop, IsStatus, IsStop, RunEnds}
use Rattle.command_files.specs.Loaded.{IsLoaded}
use Rattle.command_outcomes.proofs.Ending.{kept-are-stored, printed-ends, stopped-reading}
use Rattle.command_files.proofs.Follows.{load-before, load-follows, loaded, shelf-stop-follows, source-follows, stop-on-shelf}
use Rattle.command_options.specs.Options.{AreAuditOptions, IsNewMonitor}
use Rattle.command_audit.specs.Audits.{Audits, AuditsBytes, AuditsProgram, IsJudged, LeadsToAudit, audit_limits, judged_as, judged_outcome, judgement_line, judgement_status, reading_of}

-- ---- what the audit is given

pub may-audit : (options : AuditOptions) (monitor : MonitorState) → AreAuditOptions options → IsNewMonitor options.policy monitor
    → MayAudit (audit_limits options) monitor
may-audit options monitor are is =
    let run = are.run in
    let chunks = run.chunks in
    let extra = run.extra in
    let some = run.some_chunks in
    record {
      some_chunks = omega arith;
      chunks = omega arith;
      fuel = run.fuel;
      some_backlog = run.some_backlog;
      backlog = run.backlog;
      steps = are.steps;
      cap_count = are.cap_count;
      caps = run.caps;
      monitor_caps = is.caps;
      gate = is.gate;
    }

pub given-is : (program : ProgramTree) (options : AuditOptions) (monitor : MonitorState) → IsNewMonitor options.policy monitor
    → given_of program (audit_limits options) monitor ≡ reading_of program options
given-is program options monitor is = λ i. record {
  program = program;
  policy = record {
    chunks = (audit_limits options).chunks;
    extra = 0;
    extra_bytes = 0;
    fuel = options.policy.fuel;
    backlog = options.policy.backlog;
    caps = options.policy.caps;
    curves = is.curves i;
    high = is.high i;
    low = is.low i;
    rule = by_graph;
  };
  most_steps = options.steps;
}

-- ---- what it says

pub judged : (g : Given) (left : Option (List ℕ)) (log : List ℕ) (old new : ℕ) (verdict : Verdict) → IsVerdict g left log verdict
    → CountsVerdict verdict old new → IsJudged g left log old new (judged_as verdict)
judged g left log old new Verdict.Lawful is counts = (is, counts)
judged g left log old new (Verdict.Unlawful line) is counts = (is, counts)
judged g left log old new (Verdict.Steps line) is counts = (is, counts)
judged g left log old new Verdict.ReadFault is counts = counts
judged g left log old new Verdict.Memory is counts = counts

-- ---- how the command ends

-- what is due of a log that is judged reads the trace, and is no run
pub reads-no-run : (trace : Option (List ℕ)) (options : AuditOptions) (log : List ℕ) (program : ProgramTree) →
    ((outcome : Outcome) → AuditsProgram trace options log program outcome → outcome.reads_trace ≡ true → outcome.last ≢ None) → ⊥
reads-no-run None options log program all = all (judged_outcome Judgement.Lawful) (Judgement.Lawful, tt, refl) refl refl
reads-no-run (Some bytes) options log program all = let said = some_judgement (reading_of program options) bytes log in all (judged_outcome said.0)
    (said.0, said.1, refl) refl refl

abbrev outside : Option Files → ℕ → ℕ → Option (List ℕ) → ℕ → Option (List ℕ) → ℕ → Outside
outside files loads stores left reads taken writes =
    record { files = files; loads = loads; stores = stores; left = left; reads = reads; taken = taken; writes = writes }

module _ (options : AuditOptions) (log : List ℕ) (program : ProgramTree) (left left' : Option (List ℕ)) (reads reads' : ℕ) where
  pub unjudged : (taken : Option (List ℕ)) (writes : ℕ) (stop : Stop) → IsJudged (reading_of program options) left log reads reads' (Err stop) →
      RunEnds IsStatus (AuditsProgram left options log program) left left' reads reads' taken taken writes writes (Err stop)
  unjudged taken writes (Failed fault) h = λ files files' loads loads' stores stores' keeps same again.
      stopped-reading IsStatus (AuditsProgram left options log program) (outside files loads stores left reads taken writes)
      (outside files' loads' stores' left' reads' taken writes) fault (reads-no-run left options log program) keeps (Keeps-refl taken) same again refl h
  unjudged taken writes (Refused cause) h = absurd h

  pub judgement-told : (taken taken' : Option (List ℕ)) (writes writes' : ℕ) (is : Judgement) (answer : Result ℕ Stop) →
      IsJudged (reading_of program options) left log reads reads' (Ok is) →
      IsPrinted (judgement_status is) (judgement_line is) taken taken' writes writes' answer →
      RunEnds IsStatus (AuditsProgram left options log program) left left' reads reads' taken taken' writes writes' answer
  judgement-told taken taken' writes writes' is answer h printed = λ files files' loads loads' stores stores' keeps same again.
      printed-ends (AuditsProgram left options log program) (outside files loads stores left reads taken writes)
      (outside files' loads' stores' left' reads' taken' writes') (judged_outcome is) answer (is, h.0, refl) refl refl tt
      (kept-are-stored files files' keeps) same again h.1 printed

-- ---- the loads

-- a source that isn't loaded
pub no-source : (files : Option Files) (trace : Option (List ℕ)) (source_name log_name : List ℕ) (options : AuditOptions) (old new : ℕ) (stop : Stop) →
    IsShelfStop (AfterLoad document.Source files source_name NoMore) old new stop → IsShelfStop (Audits files trace source_name log_name options) old new stop
no-source files trace source_name log_name options old new stop h =
    shelf-stop-follows (AfterLoad document.Source files source_name NoMore) (Audits files trace source_name log_name options) old new stop
    (λ o. load-follows document.Source files source_name NoMore (λ source. AfterLoad document.Log files log_name (AuditsBytes trace options source)) o
    (λ bytes x. absurd x)) h

-- what is due of the bytes of both files
of-both : (a b : Option Files) (trace : Option (List ℕ)) (source_name log_name source : List ℕ) (options : AuditOptions) (o : Outcome)
    → IsLoaded document.Source a source_name source → KeepsFiles a b →
    AfterLoad document.Log b log_name (AuditsBytes trace options source) o → Audits a trace source_name log_name options o
of-both a b trace source_name log_name source options o is keeps h =
    loaded document.Source a source_name source (λ s. AfterLoad document.Log a log_name (AuditsBytes trace options s)) o is
    (load-before document.Log a b log_name (AuditsBytes trace options source) o keeps h)

-- a log that isn't loaded
pub no-log : (a b : Option Files) (trace : Option (List ℕ)) (source_name log_name source : List ℕ) (options : AuditOptions) (l m n : ℕ) (stop : Stop)
    → IsLoaded document.Source a source_name source → KeepsFiles a b → m ≡ l →
    IsShelfStop (AfterLoad document.Log b log_name NoMore) m n stop → IsShelfStop (Audits a trace source_name log_name options) l n stop
no-log a b trace source_name log_name source options l m n stop is keeps same h =
    subst (λ (k : ℕ). IsShelfStop (Audits a trace source_name log_name options) k n stop) same
    (shelf-stop-follows (AfterLoad document.Log b log_name NoMore) (Audits a trace source_name log_name options) m n stop
    (λ o x. of-both a b trace source_name log_name source options o is keeps
    (load-follows document.Log b log_name NoMore (AuditsBytes trace options source) o (λ bytes y. absurd y) x)) h)

-- a source that isn't read
pub no-program : (a b : Option Files) (trace : Option (List ℕ)) (source_name log_name source log : List ℕ) (options : AuditOptions) (l m n : ℕ) (stop : Stop)
    → IsLoaded document.Source a source_name source → KeepsFiles a b → m ≡ l →
    IsLoaded document.Log b log_name log → n ≡ m → IsStop (AfterSource source NoMore) stop → IsShelfStop (Audits a trace source_name log_name options) l n stop
no-program a b trace source_name log_name source log options l m n stop is keeps same also again h =
    stop-on-shelf (AfterSource source NoMore) (Audits a trace source_name log_name options) l n stop
    (λ o x. of-both a b trace source_name log_name source options o is keeps
    (loaded document.Log b log_name log (AuditsBytes trace options source) o also
    (source-follows source NoMore (AuditsProgram trace options log) o (λ program y. absurd y) x))) (again ∙ same) h

-- both are loaded, and the source is read
pub leads-to-audit : (a b : Option Files) (source_name log_name source log : List ℕ) (program : ProgramTree) → IsLoaded document.Source a source_name source
    → KeepsFiles a b → IsLoaded document.Log b log_name log →
    IsSourceText source program → LeadsToAudit a source_name log_name log program
leads-to-audit a b source_name log_name source log program is keeps also text = λ trace options o due.
    of-both a b trace source_name log_name source options o is keeps
    (loaded document.Log b log_name log (AuditsBytes trace options source) o also (inl (program, text, due)))

pub audit-follows : (files : Option Files) (source_name log_name log : List ℕ) (program : ProgramTree) (trace : Option (List ℕ)) (options : AuditOptions)
    → LeadsToAudit files source_name log_name log program →
    (o : Outcome) → AuditsProgram trace options log program o → Audits files trace source_name log_name options o
audit-follows files source_name log_name log program trace options leads o due = leads trace options o due
