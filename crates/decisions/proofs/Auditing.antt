-- `audit`: an outcome is due.
use Rattle.decisions.proofs.Common.{ℕ, refl, List, length, Option, Some, None, inl, inr, cases_lt, Files, ProgramTree, Audit, IsWordList, Document, most_bytes, refusal, Outside, AfterLoad, OfFile, Outcome, Audits, AuditsBytes, AuditsProgram, judged_outcome, reading_of, IsDue, Judgement}
use Rattle.command_words.specs.declared.options.Audit.{Audit as AuditOptions}
use Rattle.command_outcomes.specs.declared.documents.Document.TheVariants as document
use Rattle.command_outcomes.specs.declared.stops.Cause.TheVariants as cause
use Rattle.lawful_reading.proofs.Found.{some_judgement}
use Rattle.decisions.proofs.Loading.{Some_due, source_due}

judged_some : (trace : Option (List ℕ)) (options : AuditOptions) (log : List ℕ) (program : ProgramTree) → Some_due (AuditsProgram trace options log program)
judged_some None options log program = (judged_outcome Judgement.Lawful, (Judgement.Lawful, tt, refl))
judged_some (Some bytes) options log program = let said = some_judgement (reading_of program options) bytes log in (judged_outcome said.0, (said.0, said.1, refl))

of_some : (which : Document) (file : Option (List ℕ)) (next : List ℕ → Outcome → Type 0) → ((bytes : List ℕ) → Some_due (next bytes)) → Some_due (OfFile which file next)
of_some which None next after = (refusal (cause.Absent which), refl)
of_some which (Some bytes) next after =
    let o = after bytes in
    elim (cases_lt (most_bytes which) (length bytes)) [ inl long ↦ (refusal (cause.TooLong which), inr (long, refl)) | inr fits ↦ (o.0, inl (fits, o.1)) ]

load_some : (which : Document) (files : Option Files) (name : List ℕ) (next : List ℕ → Outcome → Type 0) → ((bytes : List ℕ) → Some_due (next bytes)) → Some_due (AfterLoad which files name next)
load_some which None name next after = (refusal (cause.Absent which), (None, tt, refl))
load_some which (Some files) name next after = let o = of_some which (files name) next after in (o.0, (files name, refl, o.1))

audit_some : (files : Option Files) (trace : Option (List ℕ)) (source log : List ℕ) (options : AuditOptions) → Some_due (Audits files trace source log options)
audit_some files trace source log options =
    load_some document.Source files source (λ s. AfterLoad document.Log files log (AuditsBytes trace options s))
    (λ s. load_some document.Log files log (AuditsBytes trace options s)
    (λ l. source_due s (AuditsProgram trace options l) (λ program is. judged_some trace options l program)))

pub audit_words_due : (words : List (List ℕ)) (before : Outside) (source log : List ℕ) (options : AuditOptions) → IsWordList words (Audit source log options) → Some_due (IsDue words before)
audit_words_due words before source log options is = let o = audit_some before.files before.left source log options in (o.0, inl (Audit source log options, is, o.1))
