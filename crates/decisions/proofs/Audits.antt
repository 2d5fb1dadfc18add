-- `audit` writes what is said of a log, and ends with the status that goes with it.
use Rattle.decisions.proofs.Common.{ℕ, List, Option, Some, ap, subst, ◌∙◌, Appends, Files, ProgramTree, Audit, IsWordList, Outside, AfterLoad, Outcome, IsLoaded, Audits, AuditsBytes, AuditsProgram, reading_of, Judgement, HasAnswered, HasSource, UnlessMemory, WritesJudgement}
use Rattle.command_words.specs.declared.options.Audit.{Audit as AuditOptions}
use Rattle.command_outcomes.specs.declared.documents.Document.TheVariants as document
use Rattle.lawful_reading.specs.Judgements.{IsJudgementOf}
use Rattle.decisions.proofs.Answered.{has_done, where_done}
use Rattle.decisions.proofs.Reading.{after_load, after_source}

pub audit_writes_its_judgement : (words : List (List ℕ)) (files : Files) (trace source log : List ℕ) (options : AuditOptions) (program : ProgramTree) (bytes : List ℕ) (before after : Outside) (status : ℕ) →
    HasAnswered words files trace before after status → IsWordList words (Audit source log options) → HasSource files source program → IsLoaded document.Log (Some files) log bytes →
    UnlessMemory status ((is : Judgement) × IsJudgementOf (reading_of program options) (Some trace) bytes is × WritesJudgement is before after status)
audit_writes_its_judgement words files trace source log options program bytes before after status answered asked there log_there =
    where_done (Audit source log options) before after status
    (λ done.
    let o = done.outcome in
    let whole = done.whole in
    let told : Audits (Some files) before.left source log options o = subst (λ (f : Option Files). Audits f before.left source log options o) answered.files_told done.does in
    let due : Audits (Some files) (Some trace) source log options o = subst (λ (t : Option (List ℕ)). Audits (Some files) t source log options o) answered.trace_told told in
    let one = after_load document.Source files source there.bytes (λ s. AfterLoad document.Log (Some files) log (AuditsBytes (Some trace) options s)) o there.there due in
    let two = after_load document.Log files log bytes (AuditsBytes (Some trace) options there.bytes) o log_there one in
    let judged : AuditsProgram (Some trace) options bytes program o = after_source there.bytes program (AuditsProgram (Some trace) options bytes) o there.reads two in (
      judged.0,
      judged.1,
      record {
        out = subst (λ (x : Outcome). Appends before.taken after.taken x.out) judged.2 whole.out;
        status_is = done.status_is ∙ ap (λ (x : Outcome). x.status) judged.2;
      },
    ))
    (has_done words files trace before after status (Audit source log options) answered asked)
