-- What the verdict `lawful` of an audit says.
use Rattle.promises.proofs.Common.{◌≡◌, ◌⊎◌, ◌∙◌, ◌≤◌, ℕ, List, Option, IfSome, Some, None, refl, sym, ap, subst, ⊎_elim, inl, inr, arith, codes, slice_get, ProgramTree, Files, IsWordList, Request, Serve, Run, Build, Check, Graph, Demo, Audit, Budget, Does, IsAnswer, Outside, Outcome, Held, IsFree, AfterLoad, AfterSource, OfFile, IsSourceText, cause_status, refusal, Cause, Document, outcome-of, log_text, Entry}
use Rattle.std.specs.Prelude.{IsSome, false, true}
use Rattle.audited_logs.specs.TextLog.{IsTextLog}
use Rattle.audited_logs.proofs.ReadLines.{log_of_source}
use Rattle.command_audit.specs.Audits.{AuditsBytes, AuditsProgram, judgement_status, reading_of}
use Rattle.command_files.specs.Loaded.{IsLoaded}
use Rattle.command_outcomes.specs.declared.documents.Document.TheVariants as document
use Rattle.command_outcomes.specs.declared.stops.Cause.TheVariants as cause
use Rattle.command_words.specs.declared.options.Audit.{Audit as AuditOptions}
use Rattle.deep_mean.specs.Naming.{deep_program}
use Rattle.lawful_reading.specs.Reading.{IsLawful}
use Rattle.lawful_reading.specs.Judgements.{IsJudgementOf}
use Rattle.lawful_reading.specs.declared.judgement.Judgement.{Judgement}
use Rattle.lawful_reading.specs.declared.judgement.Judgement.TheVariants.{Lawful, Steps, Unlawful}
use Rattle.promises.specs.Audit.{IsSourcesLog, KeepsAudit}
use Rattle.promises.proofs.Returned.{cause-other, letter-is}
use Rattle.promises.proofs.Stopped.{stops-of}

-- an outcome with status 0 has this property, and no refusal has that status
abbrev Good : Outcome → Type 0 → Type 0
Good o P = o.status ≡ 0 → P

refused : {P : Type 0} (o : Outcome) (c : Cause) → o ≡ refusal c → Good o P
refused o c is none =
    let same : cause_status c ≡ 0 = sym (ap (λ (x : Outcome). x.status) is) ∙ none in
    absurd (⊎_elim (λ x. let least = x.0 in omega (arith, least, same)) (λ far. omega (arith, far, same)) (cause-other c))

module _ (files : Option Files) {P : Type 0} where
  of-file : (which : Document) (name : List ℕ) (next : List ℕ → Outcome → Type 0) (o : Outcome) (file : Option (List ℕ)) → IfSome files (λ f. f name ≡ file) → ((bytes : List ℕ) → IsLoaded which files name bytes → next bytes o → Good o P) → OfFile which file next o → Good o P
  of-file which name next o None told step is = refused o (cause.Absent which) is
  of-file which name next o (Some bytes) told step is = ⊎_elim (λ x. step bytes (record { file = told; fits = x.0 }) x.1) (λ x. refused o (cause.TooLong which) x.1) is

  of-load : (which : Document) (name : List ℕ) (next : List ℕ → Outcome → Type 0) (o : Outcome) → ((bytes : List ℕ) → IsLoaded which files name bytes → next bytes o → Good o P) → AfterLoad which files name next o → Good o P
  of-load which name next o step h = of-file which name next o h.0 h.1 step h.2

of-source : {P : Type 0} (bytes : List ℕ) (next : ProgramTree → Outcome → Type 0) (o : Outcome) → ((program : ProgramTree) → IsSourceText bytes program → next program o → Good o P) → AfterSource bytes next o → Good o P
of-source bytes next o step h = ⊎_elim (λ x. step x.0 x.1 x.2) (λ x. refused o (cause.Source x.0) x.2) h

-- ---- the verdict

lawful-only : (is : Judgement) → judgement_status is ≡ 0 → is ≡ Lawful
lawful-only Lawful e = refl
lawful-only (Unlawful line) e = absurd (omega (arith, e))
lawful-only (Steps line) e = absurd (omega (arith, e))

exposed : {P : Type 0} (left : Option (List ℕ)) (Q : List ℕ → Type 0) → IsSome left → IfSome left Q → ((trace : List ℕ) → Q trace → P) → P
exposed None Q some h step = absurd (let no : false ≡ true = some in cc)
exposed (Some trace) Q some h step = step trace h

judged : {P : Type 0} (left : Option (List ℕ)) (options : AuditOptions) (log : List ℕ) (program : ProgramTree) (o : Outcome) → IsSome left → ((trace : List ℕ) → IsLawful (reading_of program options) trace log → P) → AuditsProgram left options log program o → Good o P
judged left options log program o some step h = λ none.
    let is : h.0 ≡ Lawful = lawful-only h.0 (sym (ap (λ (x : Outcome). x.status) h.2) ∙ none) in
    exposed left (λ trace. IsLawful (reading_of program options) trace log) some (subst (λ (it : Judgement). IsJudgementOf (reading_of program options) left log it) is h.1) step

-- ---- what is due

of-audit : (words : List (List ℕ)) (source_name log_name : List ℕ) (options : AuditOptions) (before : Outside) (o : Outcome) → IsWordList words (Audit source_name log_name options) → IsSome before.left → Does (Audit source_name log_name options) before o → Good o (IsSourcesLog words before.files)
of-audit words source_name log_name options before o asked some h =
    let says = asked.1 in
    let chosen = asked.2 in
    let policy = chosen.policy in
    of-load before.files document.Source source_name (λ source. AfterLoad document.Log before.files log_name (AuditsBytes before.left options source)) o
    (λ source source_there x. of-load before.files document.Log log_name (AuditsBytes before.left options source) o
    (λ log log_there y. of-source source (AuditsProgram before.left options log) o
    (λ program text z. judged before.left options log program o some
    (λ trace lawful.
    let reads = text.reads in
    let parsed = reads.parsed in
    let line = log_of_source source (reading_of program options) trace log reads text.scoped lawful in
    let so = stops-of (reading_of program options) trace log lawful in
    record {
      command = codes "audit";
      items = asked.0;
      asked = record { in_words = says.in_words; plain = says.plain };
      source_name = source_name;
      log_name = log_name;
      named = says.positional;
      caps = options.policy.caps;
      capped = policy.caps;
      source = source;
      source_there = source_there;
      tokens = reads.tokens;
      lexed = reads.lexed;
      tree = reads.tree;
      parsed = parsed.tree;
      lines = so.lines;
      stop = so.stop;
      log_there = subst (λ (bytes : List ℕ). IsLoaded document.Log before.files log_name bytes) (lawful.log_is ∙ ap log_text so.is) log_there;
      text = subst (λ (entries : List Entry). IsTextLog (deep_program reads.tree) options.policy.caps entries) so.is line;
    }) z) y) x) h

no-letter : {P : Type 0} (n : ℕ) → (n ≤ 96) ⊎ (98 ≤ n) → n ≡ 97 → P
no-letter n is same = absurd (⊎_elim (λ few. omega (arith, few, same)) (λ far. omega (arith, far, same)) is)

of-request : (words : List (List ℕ)) (request : Request) (before : Outside) (o : Outcome) → IsWordList words request → slice_get words 0 ≡ Some (codes "audit") → IsSome before.left → Does request before o → Good o (IsSourcesLog words before.files)
of-request words (Audit source log options) before o asked word some h = of-audit words source log options before o asked some h
of-request words (Serve source placement policy) before o asked word some h = no-letter 115 (inr (omega arith)) (letter-is words (Serve source placement policy) (codes "audit") asked word)
of-request words (Run source image certificate policy) before o asked word some h = no-letter 114 (inr (omega arith)) (letter-is words (Run source image certificate policy) (codes "audit") asked word)
of-request words (Build source image certificate placement) before o asked word some h = no-letter 98 (inr (omega arith)) (letter-is words (Build source image certificate placement) (codes "audit") asked word)
of-request words (Check source image certificate) before o asked word some h = no-letter 99 (inr (omega arith)) (letter-is words (Check source image certificate) (codes "audit") asked word)
of-request words (Graph source placement) before o asked word some h = no-letter 103 (inr (omega arith)) (letter-is words (Graph source placement) (codes "audit") asked word)
of-request words (Demo number) before o asked word some h = no-letter 100 (inr (omega arith)) (letter-is words (Demo number) (codes "audit") asked word)
of-request words (Budget source image certificate) before o asked word some h = no-letter 98 (inr (omega arith)) (letter-is words (Budget source image certificate) (codes "audit") asked word)

pub audit-kept : (words : List (List ℕ)) (before after : Outside) (err err' : Option (List ℕ)) (faults faults' : ℕ) (last : Option Held) (status : ℕ) → IsAnswer words before after err err' faults faults' last status → KeepsAudit words before.files before.left status
audit-kept words before after err err' faults faults' last status answer = λ word some none.
    let found = outcome-of words before after err err' faults faults' last status answer (subst IsFree (sym none) (inl (omega arith))) in
    ⊎_elim
    (λ x. of-request words x.0 before found.0 x.1 word some x.2 (found.2 ∙ none))
    (λ x. refused found.0 cause.Usage x.1 (found.2 ∙ none))
    found.1
