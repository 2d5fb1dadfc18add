-- The run that a request asks for is one of the source that it names, and its log is that source's.
use Rattle.capriccio_call.proofs.Common.{◌≡◌, ◌⊎◌, ℕ, ◌≤◌, List, length, Option, IfSome, Some, None, refl, sym, ap, subst, ◌∙◌, ⊎_elim, ProgramTree, Files, Options, IsWordList, Request, Serve, Run, Build, Check, Graph, Demo, Audit, Budget, IsLawfulLog, Setup, World, Entry, StopLine, Certificate, Image, Document, Cause, most_bytes, refusal, Outside, Outcome, Ran, IsLoaded, IsSourceText, OfFile, AfterLoad, AfterSource, AfterImage, AfterCertificate, IsRunPolicy, sizes_of, IsAccepted, RunsOn, ServesProgram, RunsBytes, RunsPair, policy_of, pool_bytes, setup_of, demo_policy, Does, program_text, demo-run-policy, demo-pool, serve-policy, serve-pool, run-policy, IsPolicyFor}
use Rattle.command_words.specs.declared.options.Policy.{Policy as RunOptions}
use Rattle.command_outcomes.specs.declared.documents.Document.TheVariants as document
use Rattle.command_outcomes.specs.declared.stops.Cause.TheVariants as cause
use Rattle.audited_logs.proofs.OfText.{log_of_text}
use Rattle.capriccio_call.specs.TheText.{IsSourceOf, IsLogOfText}
use Rattle.capriccio_call.proofs.OneCase.{IsWithinPool, in-range}
use Rattle.capriccio_call.proofs.OneRun.{IsInRange, areas-formed}
use Rattle.capriccio_call.proofs.OutcomeKinds.{IsPlain, kind-of}

-- a setup that is made of the source of a request, under its policy, which is in its ranges
pub record IsSetupOf (request : Request) (files : Option Files) (setup : Setup) : Type 0 where
  pub source : List ℕ
  pub source_is : IsSourceOf request files source
  pub text : IsSourceText source setup.program
  pub policy : IsPolicyFor request setup.policy
  pub range : IsInRange setup

-- if an outcome has a run, it is that of such a setup
abbrev pub IsRunOfSource : Request → Option Files → Outcome → Type 0
IsRunOfSource request files o = (ran : Ran) → o.last ≡ Some ran → IsSetupOf request files ran.setup

module _ (request : Request) (files : Option Files) where
  -- ---- outcomes without a run

  quiet : (o : Outcome) → o.last ≡ None → IsRunOfSource request files o
  quiet o none ran is = absurd (let no : ◌≡◌ {A = Option Ran} None (Some ran) = sym none ∙ is in cc)

  refused : (o : Outcome) (c : Cause) → o ≡ refusal c → IsRunOfSource request files o
  refused o c is = quiet o (ap (λ (x : Outcome). x.last) is)

  -- ---- files

  of-file : (which : Document) (file : Option (List ℕ)) (next : List ℕ → Outcome → Type 0) (o : Outcome) → ((bytes : List ℕ) → file ≡ Some bytes → length bytes ≤ most_bytes which → next bytes o → IsRunOfSource request files o) →
      OfFile which file next o → IsRunOfSource request files o
  of-file which None next o step h = refused o (cause.Absent which) h
  of-file which (Some bytes) next o step h = ⊎_elim (λ x. step bytes refl x.0 x.1) (λ x. refused o (cause.TooLong which) x.1) h

  of-load : (which : Document) (name : List ℕ) (next : List ℕ → Outcome → Type 0) (o : Outcome) → ((bytes : List ℕ) → IsLoaded which files name bytes → next bytes o → IsRunOfSource request files o) →
      AfterLoad which files name next o → IsRunOfSource request files o
  of-load which name next o step h =
      of-file which h.0 next o
      (λ bytes there fits after. step bytes (record { file = subst (λ (file : Option (List ℕ)). IfSome files (λ f. f name ≡ file)) there h.1; fits = fits }) after) h.2

  of-source : (bytes : List ℕ) (next : ProgramTree → Outcome → Type 0) (o : Outcome) → ((program : ProgramTree) → IsSourceText bytes program → next program o → IsRunOfSource request files o) →
      AfterSource bytes next o → IsRunOfSource request files o
  of-source bytes next o step h = ⊎_elim (λ x. step x.0 x.1 x.2) (λ x. refused o (cause.Source x.0) x.2) h

  of-image : (bytes : List ℕ) (next : Image → Outcome → Type 0) (o : Outcome) → ((i : Image) → next i o → IsRunOfSource request files o) → AfterImage bytes next o → IsRunOfSource request files o
  of-image bytes next o step h = ⊎_elim (λ x. step x.0 x.2) (λ x. refused o (cause.Image x.0) x.2) h

  of-certificate : (bytes : List ℕ) (next : Certificate → Outcome → Type 0) (o : Outcome) → ((c : Certificate) → next c o → IsRunOfSource request files o) → AfterCertificate bytes next o → IsRunOfSource request files o
  of-certificate bytes next o step h = ⊎_elim (λ x. step x.0 x.2) (λ x. refused o (cause.CertificateLine x.0) x.2) h

  -- ---- runs

  of-setup : (setup : Setup) (end : World) (o : Outcome) → IsSetupOf request files setup → o.last ≡ Some (record { setup = setup; end = end }) → IsRunOfSource request files o
  of-setup setup end o made last ran is =
      let same : Some (record { setup = setup; end = end }) ≡ Some ran = sym last ∙ is in
      let one : record { setup = setup; end = end } ≡ ran = cc in
      subst (λ (r : Ran). IsSetupOf request files r.setup) one made

  of-run : (trace : Option (List ℕ)) (setup : Setup) (o : Outcome) → IsSetupOf request files setup → RunsOn trace setup o → IsRunOfSource request files o
  of-run trace setup o made h = of-setup setup h.3 o made (ap (λ (x : Outcome). x.last) h.5)

  -- ---- programs and pairs

  module _ (bytes : List ℕ) (bytes_are : IsSourceOf request files bytes) (program : ProgramTree) (text : IsSourceText bytes program) (policy : RunOptions) (asked : IsPolicyFor request (policy_of policy)) (ranges : IsRunPolicy policy) where
    of-pair : (i : Image) (c : Certificate) → IsWithinPool policy c.chunk → IsSetupOf request files (setup_of program i c policy)
    of-pair i c fits = record { source = bytes; source_is = bytes_are; text = text; policy = asked; range = in-range policy program i c ranges fits }

    of-served : (trace : Option (List ℕ)) (sizes : Options) (o : Outcome) → IsWithinPool policy sizes.chunk → ServesProgram trace sizes policy program o → IsRunOfSource request files o
    of-served trace sizes o fits h =
        ⊎_elim
        (λ x. ⊎_elim (λ y. quiet o (ap (λ (z : Outcome). z.last) y.is)) (λ y. refused o (cause.Code y.1) y.3) x)
        (λ x. let laid = x.4.2 in of-run trace (setup_of program x.2 x.3 policy) o (of-pair x.2 x.3 (subst (IsWithinPool policy) (sym laid.chunk) fits)) x.5) h

    of-checked : (trace : Option (List ℕ)) (i : Image) (c : Certificate) (o : Outcome) → RunsPair trace policy program i c o → IsRunOfSource request files o
    of-checked trace i c o h =
        ⊎_elim
        (λ x. refused o (cause.Rejected x.0 x.1 x.2) x.4)
        (λ x. ⊎_elim (λ y. refused o (cause.Pool (pool_bytes policy c)) y.1) (λ y. of-run trace (setup_of program i c policy) o (of-pair i c y.0) y.1) x.1) h

-- ---- requests

-- a request that runs nothing and builds nothing
none-ran : (request : Request) (files : Option Files) (o : Outcome) → IsPlain o ⊎ (((setup : Setup) × ⊥) ⊎ ⊥) → IsRunOfSource request files o
none-ran request files o h = ⊎_elim (λ plain. quiet request files o plain.last) (λ x. ⊎_elim (λ run. absurd run.1) (λ pair. absurd pair) x) h

pub run-of-source : (words : List (List ℕ)) (request : Request) (before : Outside) (o : Outcome) → IsWordList words request → Does request before o → IsRunOfSource request before.files o
run-of-source words (Serve source placement policy) before o asked h =
    let request = Serve source placement policy in
    of-load request before.files document.Source source (λ bytes. AfterSource bytes (ServesProgram before.left (sizes_of placement) policy)) o
    (λ bytes there x. of-source request before.files bytes (ServesProgram before.left (sizes_of placement) policy) o
    (λ program text y. of-served request before.files bytes there program text policy refl (serve-policy words source placement policy asked) before.left (sizes_of placement) o (serve-pool words source placement policy asked) y) x) h
run-of-source words (Run source image certificate policy) before o asked h =
    let request = Run source image certificate policy in
    let files = before.files in
    of-load request files document.Source source (λ s. AfterLoad document.Image files image (λ i. AfterLoad document.Certificate files certificate (RunsBytes before.left policy s i))) o
    (λ s there x. of-load request files document.Image image (λ i. AfterLoad document.Certificate files certificate (RunsBytes before.left policy s i)) o
    (λ i _ y. of-load request files document.Certificate certificate (RunsBytes before.left policy s i) o
    (λ c _ z. of-source request files s (λ program. AfterImage i (λ im. AfterCertificate c (λ ce. RunsPair before.left policy program im ce))) o
    (λ program text u. of-image request files i (λ im. AfterCertificate c (λ ce. RunsPair before.left policy program im ce)) o
    (λ im v. of-certificate request files c (λ ce. RunsPair before.left policy program im ce) o
    (λ ce w. of-checked request files s there program text policy refl (run-policy words source image certificate policy asked) before.left im ce o w) v) u) z) y) x) h
run-of-source words (Demo number) before o asked h =
    let shows = h.2 in
    let laid = shows.2.2 in
    let run = shows.3 in
    let setup = setup_of h.0 shows.0 shows.1 demo_policy in
    of-setup (Demo number) before.files setup run.3 o
    (of-pair (Demo number) before.files (program_text number) refl h.0 h.1 demo_policy refl demo-run-policy shows.0 shows.1 (demo-pool shows.1.chunk laid.chunk))
    (ap (λ (x : Outcome). x.last) run.5)
run-of-source words (Build source image certificate placement) before o asked h =
    let request = Build source image certificate placement in
    ⊎_elim (λ plain. quiet request before.files o plain.last) (λ x. ⊎_elim (λ run. absurd run.1) (λ pair. quiet request before.files o pair.last) x) (kind-of request before o h)
run-of-source words (Check source image certificate) before o asked h = none-ran (Check source image certificate) before.files o (kind-of (Check source image certificate) before o h)
run-of-source words (Graph source placement) before o asked h = none-ran (Graph source placement) before.files o (kind-of (Graph source placement) before o h)
run-of-source words (Audit source log options) before o asked h = none-ran (Audit source log options) before.files o (kind-of (Audit source log options) before o h)
run-of-source words (Budget source image certificate) before o asked h = none-ran (Budget source image certificate) before.files o (kind-of (Budget source image certificate) before o h)

-- ---- the log

pub log-of-text : (request : Request) (files : Option Files) (setup : Setup) (trace : List ℕ) (entries : List Entry) (stop : StopLine) (end : World) → IsSetupOf request files setup → IsAccepted setup →
    IsLawfulLog setup trace entries stop end → IsLogOfText request files setup entries
log-of-text request files setup trace entries stop end made ok log =
    let text = made.text in
    let range = made.range in
    record {
      source = made.source;
      source_is = made.source_is;
      read = text.reads;
      log = log_of_text made.source setup trace entries stop end text.reads ok.scoped ok.valid (areas-formed setup ok range) range.fuel log;
    }
