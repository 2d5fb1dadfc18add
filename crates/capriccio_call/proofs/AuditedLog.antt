-- An audit doesn't say of a lawful log that it is unlawful; and what it says to be lawful is the source's, with the choices of the priority rule.
use Rattle.capriccio_call.proofs.Common.{◌≡◌, ◌⊎◌, ℕ, ◌≤◌, List, Option, Some, Result, Ok, Err, refl, sym, ap, subst, ◌∙◌, arith, inl, inr, ⊎_elim, slice_index, Appends, ProgramTree, Files, Policy, Audit, IsLawfulLog, Setup, World, most_fuel, log_text, Entry, StopLine, Held, Fault, Read, Write, Memory, Outside, IsDone, IsThisCase, IsTold, NoFault, line_of, status_of, fault_status, Outcome, AfterLoad, IsSourceText, AreAuditOptions, Audits, AuditsBytes, AuditsProgram, judged_outcome, judgement_status, reading_of, IsDue, IsJudgementOf, audit-options, IsAnswer}
use Rattle.audited_logs.specs.Audited.{AreCapsSmall, IsLawfulOrTooLong}
use Rattle.audited_logs.proofs.Logs.{log_judged}
use Rattle.audited_logs.proofs.ReadWorlds.{choices_are_lawful}
use Rattle.command_words.specs.declared.options.Audit.{Audit as AuditOptions}
use Rattle.lawful_reading.specs.Given.{Given}
use Rattle.lawful_reading.specs.Reading.{IsLawful}
use Rattle.audited_logs.proofs.ReadLines.{log_of_source}
use Rattle.command_outcomes.specs.declared.documents.Document.TheVariants as document
use Rattle.lawful_reading.specs.declared.judgement.Judgement.{Judgement}
use Rattle.lawful_reading.specs.declared.judgement.Judgement.TheVariants.{Lawful, Steps, Unlawful}
use Rattle.capriccio_call.specs.Audited.{AsksForAudit, IsAudited, IsRunUnder, IsSourcesLog, SaysOf}
use Rattle.capriccio_call.proofs.GoodRun.{status-told}
use Rattle.capriccio_call.proofs.OneRun.{pooled-areas}
use Rattle.capriccio_call.proofs.OutcomeKinds.{IsFree}
use Rattle.capriccio_call.proofs.ToldFiles.{does-asked, loaded, outcome-of, program-read}

-- ---- what is said of the log

caps-small : (options : AuditOptions) (caps : List ℕ) → AreAuditOptions options → caps ≡ options.policy.caps → AreCapsSmall caps
caps-small options caps ranges same = λ r some lt.
    let small = subst (λ (its : List ℕ). slice_index its r ≤ 1000000) (sym same) (ranges.run.caps r some lt) in omega (arith, small)

-- by the law on lawful logs that are read
judged : (options : AuditOptions) (g : Setup) (trace : List ℕ) (entries : List Entry) (stop : StopLine) (end : World) → AreAuditOptions options → IsRunUnder options g → IsLawfulLog g trace entries stop end →
    IsLawfulOrTooLong (reading_of g.program options) trace (log_text entries)
judged options g trace entries stop end ranges run log =
    let ok = run.accepted in
    let fuel : g.policy.fuel ≤ most_fuel = subst (λ n. n ≤ 1000000000) (sym (ap (λ (p : Policy). p.fuel) run.policy)) ranges.run.fuel in
    let caps = caps-small options g.policy.caps ranges (ap (λ (p : Policy). p.caps) run.policy) in
    subst (λ (p : Policy). IsLawfulOrTooLong (record { program = g.program; policy = p; most_steps = options.steps }) trace (log_text entries)) run.policy
    (log_judged g ok.scoped ok.valid (pooled-areas g ok run.pool) fuel caps options.steps trace entries stop end log)

-- ---- what is due, and was done

judged-due : (words : List (List ℕ)) (before : Outside) (options : AuditOptions) (program : ProgramTree) (trace log : List ℕ) (is : Judgement) → AsksForAudit words before options program trace log →
    IsJudgementOf (reading_of program options) (Some trace) log is → IsDue words before (judged_outcome is)
judged-due words before options program trace log is asks says =
    let source = asks.source_there in
    let text = asks.log_there in
    let Does : Option Files → Option (List ℕ) → Type 0 = λ files left. Audits files left asks.source_name asks.log_name options (judged_outcome is) in
    let told : Does (Some asks.files) (Some trace) = (Some asks.source, source.file, inl (source.fits, (Some log, text.file, inl (text.fits, inl (program, asks.reads, (is, says, refl)))))) in
    let left : Does (Some asks.files) before.left = subst (λ (its : Option (List ℕ)). Does (Some asks.files) its) (sym asks.trace_told) told in
    let does : Does before.files before.left = subst (λ (its : Option Files). Does its before.left) (sym asks.files_told) left in
    inl (Audit asks.source_name asks.log_name options, asks.asked, does)

said : (due : Outcome → Type 0) (is : Judgement) (before after : Outside) (given : Result Outcome Fault) (err err' : Option (List ℕ)) (faults faults' status : ℕ) → IsThisCase (judged_outcome is) given → IsDone due before after given →
    IsTold (status_of given) (line_of given) err err' faults faults' status → SaysOf is before after status ⊎ (status ≡ fault_status Memory)
said due is before after (Ok o) err err' faults faults' status same done told =
    let whole = done.1 in
    inl (
      status-told o.status o.line err err' faults faults' status (ap (λ (x : Outcome). x.line) same) told ∙ ap (λ (x : Outcome). x.status) same,
      subst (λ (x : Outcome). Appends before.taken after.taken x.out) same whole.out,
    )
said due is before after (Err Memory) err err' faults faults' status same done told = inr (⊎_elim (λ x. x.0) (λ x. ⊎_elim (λ y. y.0) (λ y. y.0) x.2) told)
said due is before after (Err Read) err err' faults faults' status same done told = absurd same
said due is before after (Err Write) err err' faults faults' status same done told = absurd same

-- an audit of which that is due says that
says : (words : List (List ℕ)) (before after : Outside) (err err' : Option (List ℕ)) (faults faults' : ℕ) (last : Option Held) (status : ℕ) (options : AuditOptions) (program : ProgramTree) (trace log : List ℕ) (is : Judgement) →
    IsAnswer words before after err err' faults faults' last status → AsksForAudit words before options program trace log → NoFault before after → IsJudgementOf (reading_of program options) (Some trace) log is →
    SaysOf is before after status ⊎ (status ≡ fault_status Memory)
says words before after err err' faults faults' last status options program trace log is answer asks none judgement =
    let due = judged-due words before options program trace log is asks judgement in
    let same = answer.2 none asks.files (judged_outcome is) asks.files_told (λ _. (trace, asks.trace_told)) due in
    said (IsDue words before) is before after answer.0 err err' faults faults' status same answer.1 answer.3

-- ---- what `lawful` says

lawful-only : (is : Judgement) → judgement_status is ≡ judgement_status Lawful → is ≡ Lawful
lawful-only Lawful e = refl
lawful-only (Unlawful line) e = absurd (omega (arith, e))
lawful-only (Steps line) e = absurd (omega (arith, e))

-- an outcome with its status is that judgement
lawful-by : (options : AuditOptions) (program : ProgramTree) (trace log : List ℕ) (o : Outcome) → AuditsProgram (Some trace) options log program o → o.status ≡ judgement_status Lawful → IsLawful (reading_of program options) trace log
lawful-by options program trace log o h e =
    let is : h.0 ≡ Lawful = lawful-only h.0 (sym (ap (λ (x : Outcome). x.status) h.2) ∙ e) in
    subst (λ (it : Judgement). IsJudgementOf (reading_of program options) (Some trace) log it) is h.1

-- what is due is an audit of this log
audited-so : (words : List (List ℕ)) (before : Outside) (options : AuditOptions) (program : ProgramTree) (trace log : List ℕ) (o : Outcome) → AsksForAudit words before options program trace log → IsDue words before o →
    AuditsProgram (Some trace) options log program o
audited-so words before options program trace log o asks due =
    let P : Option Files → Option (List ℕ) → Type 0 = λ files left. Audits files left asks.source_name asks.log_name options o in
    let does = does-asked words before (Audit asks.source_name asks.log_name options) o asks.asked due in
    let told : P (Some asks.files) (Some trace) = subst (λ (left : Option (List ℕ)). P (Some asks.files) left) asks.trace_told (subst (λ (files : Option Files). P files before.left) asks.files_told does) in
    let source = loaded document.Source asks.files asks.source_name asks.source (λ bytes. AfterLoad document.Log (Some asks.files) asks.log_name (AuditsBytes (Some trace) options bytes)) o asks.source_there told in
    let text = loaded document.Log asks.files asks.log_name log (AuditsBytes (Some trace) options asks.source) o asks.log_there source in
    program-read asks.source program (AuditsProgram (Some trace) options log) o asks.reads text

sources-log : (source : List ℕ) (g : Given) (trace log : List ℕ) → IsSourceText source g.program → IsLawful g trace log → IsSourcesLog source g trace log
sources-log source g trace log reads lawful = record {
  entries = lawful.entries;
  log_is = lawful.log_is;
  read = reads.reads;
  text = log_of_source source g trace log reads.reads reads.scoped lawful;
  choices = choices_are_lawful g trace lawful.entries lawful.last lawful.leads;
}

-- ---- the clause

pub audited : (words : List (List ℕ)) (before after : Outside) (err err' : Option (List ℕ)) (faults faults' : ℕ) (last : Option Held) (status : ℕ) → IsAnswer words before after err err' faults faults' last status → IsAudited words before after status
audited words before after err err' faults faults' last status answer = record {
  lawful_log = λ options g trace entries stop end asks run log none.
      let ranges = audit-options words asks.source_name asks.log_name options asks.asked in
      let on : (is : Judgement) → IsJudgementOf (reading_of g.program options) (Some trace) (log_text entries) is → SaysOf is before after status ⊎ (status ≡ fault_status Memory) =
      λ is judgement. says words before after err err' faults faults' last status options g.program trace (log_text entries) is answer asks none judgement in
      ⊎_elim
      (λ lawful. ⊎_elim (λ x. inl x) (λ x. inr (inr x)) (on Lawful lawful))
      (λ long. ⊎_elim (λ x. inr (inl (long.0, x))) (λ x. inr (inr x)) (on (Steps long.0) long.1))
      (judged options g trace entries stop end ranges run log);
  said_lawful = λ options program trace log asks e.
      let found = outcome-of words before after err err' faults faults' last status answer (subst IsFree (sym e) (inl (omega arith))) in
      let audits = audited-so words before options program trace log found.0 asks found.1 in
      sources-log asks.source (reading_of program options) trace log asks.reads (lawful-by options program trace log found.0 audits (found.2 ∙ e));
}
