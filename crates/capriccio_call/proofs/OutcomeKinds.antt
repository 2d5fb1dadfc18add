-- Each outcome that can be due is plain, with no file and no run, or is the run that its request asks for, or a pair that is built. None has the
-- status of a fault.
use Rattle.capriccio_call.proofs.Common.{◌≡◌, ◌⊎◌, ◌<◌, ◌≤◌, ℕ, List, [], ◌∷◌, false, Option, Some, None, refl, sym, ap, subst, ⊎_elim, inl, inr, arith, Files, ProgramTree, Options, Request, Serve, Run, Build, Check, Graph, Demo, Audit, Budget, Setup, StopLine, Certificate, Image, Document, Fault, Read, Write, Memory, Cause, cause_status, refusal, fault_status, Outcome, IsSourceText, OfFile, AfterLoad, AfterThree, AfterSource, AfterImage, AfterCertificate, Outside, Verdict, Accepted, Rejected, AuditsBytes, AuditsProgram, judged_outcome, judgement_status, GraphsProgram, BudgetsBytes, BudgetsPair, ChecksBytes, ChecksPair, verdict_status, verdict_outcome, BuildsProgram, IsUnbuilt, RunsOn, ServesProgram, RunsBytes, RunsPair, stop_status, setup_of, pool_bytes, ShowsRun, demo_policy, Does, sizes_of, trace_text, program_text}
use Rattle.cap_word.specs.declared.stops.Stop.TheVariants as cut
use Rattle.command_words.specs.declared.options.Audit.{Audit as AuditOptions}
use Rattle.command_words.specs.declared.options.Policy.{Policy as RunOptions}
use Rattle.schedule_log.specs.declared.entries.StopLine.TheVariants as stop
use Rattle.stack_image.specs.Spelling as image
use Rattle.certificate_text.specs.Text as certificate
use Rattle.command_outcomes.specs.declared.documents.Document.TheVariants as document
use Rattle.command_outcomes.specs.declared.stops.Cause.TheVariants as cause
use Rattle.lawful_reading.specs.declared.judgement.Judgement as said
use Rattle.lawful_reading.specs.declared.judgement.Judgement.TheVariants as judgement

-- a status that no fault has
abbrev pub IsFree : ℕ → Type 0
IsFree status = (status < 6) ⊎ (8 < status)

-- an outcome with no file and no run
pub record IsPlain (o : Outcome) : Type 0 where
  pub status : IsFree o.status
  pub stores : o.stores ≡ []
  pub last : o.last ≡ None

-- a pair that is built and stored under these names
pub record IsPair (image_name certificate_name : List ℕ) (o : Outcome) : Type 0 where
  pub status : IsFree o.status
  pub image : List ℕ
  pub certificate : List ℕ
  pub stores : o.stores ≡ (image_name, image) ∷ (certificate_name, certificate) ∷ []
  pub line : o.line ≡ []
  pub unread : o.reads_trace ≡ false
  pub last : o.last ≡ None

-- the run of a request: that of a workload on its own trace, and those of `serve` and `run` on the trace that is handed in
abbrev pub IsRunFor : Request → Option (List ℕ) → Setup → Outcome → Type 0
IsRunFor (Demo number) trace setup o = IsSourceText (program_text number) setup.program × ShowsRun (trace_text number) setup o
IsRunFor (Serve source placement policy) trace setup o = RunsOn trace setup o
IsRunFor (Run source image certificate policy) trace setup o = RunsOn trace setup o
IsRunFor request trace setup o = ⊥

-- the pair of a request, which only a build has
abbrev pub IsPairFor : Request → Outcome → Type 0
IsPairFor (Build source image_name certificate_name placement) o = IsPair image_name certificate_name o
IsPairFor request o = ⊥

-- what a request's outcome is
abbrev pub IsKind : Request → Option (List ℕ) → Outcome → Type 0
IsKind request trace o = IsPlain o ⊎ (((setup : Setup) × IsRunFor request trace setup o) ⊎ IsPairFor request o)

-- ---- Statuses.

fault-from : (fault : Fault) → 6 ≤ fault_status fault
fault-from Read = omega arith
fault-from Write = omega arith
fault-from Memory = omega arith

fault-to : (fault : Fault) → fault_status fault ≤ 8
fault-to Read = omega arith
fault-to Write = omega arith
fault-to Memory = omega arith

-- no fault has a free status
pub free-apart : {P : Type 0} (status : ℕ) (fault : Fault) → IsFree status → status ≡ fault_status fault → P
free-apart status fault free same =
    let least = fault-from fault in
    let most = fault-to fault in
    absurd (⊎_elim (λ low. omega (arith, low, same, least, most)) (λ high. omega (arith, high, same, least, most)) free)

cause-free : (c : Cause) → IsFree (cause_status c)
cause-free cause.Usage = inl (omega arith)
cause-free (cause.Absent document) = inr (omega arith)
cause-free (cause.TooLong document.Source) = inl (omega arith)
cause-free (cause.TooLong document.Image) = inl (omega arith)
cause-free (cause.TooLong document.Certificate) = inl (omega arith)
cause-free (cause.TooLong document.Log) = inl (omega arith)
cause-free (cause.Source error) = inl (omega arith)
cause-free (cause.Image error) = inl (omega arith)
cause-free (cause.CertificateLine number) = inl (omega arith)
cause-free (cause.Frame name bytes) = inl (omega arith)
cause-free (cause.Code words) = inl (omega arith)
cause-free (cause.Rejected rule function index) = inl (omega arith)
cause-free (cause.Pool bytes) = inl (omega arith)
cause-free (cause.Cycle name) = inr (omega arith)

verdict-free : (verdict : Verdict) → IsFree (verdict_status verdict)
verdict-free Accepted = inl (omega arith)
verdict-free (Rejected rule function index) = inl (omega arith)

judgement-free : (is : said.Judgement) → IsFree (judgement_status is)
judgement-free judgement.Lawful = inl (omega arith)
judgement-free (judgement.Unlawful line) = inr (omega arith)
judgement-free (judgement.Steps line) = inr (omega arith)

pub stop-free : (line : StopLine) → IsFree (stop_status line)
stop-free stop.Done = inl (omega arith)
stop-free stop.Idle = inr (omega arith)
stop-free (stop.Trace line) = inl (omega arith)
stop-free (stop.Cut thread (cut.Trap kind) cost free) = inr (omega arith)
stop-free (stop.Cut thread cut.NoChunk cost free) = inr (omega arith)
stop-free (stop.Cut thread cut.Fuel cost free) = inr (omega arith)
stop-free (stop.Cut thread cut.Threads cost free) = inr (omega arith)

-- ---- Plain outcomes.

plain-is : (o p : Outcome) → o ≡ p → IsFree p.status → p.stores ≡ [] → p.last ≡ None → IsPlain o
plain-is o p same free stores last = subst (λ (x : Outcome). IsPlain x) (sym same) (record { status = free; stores = stores; last = last })

pub refusal-plain : (o : Outcome) (c : Cause) → o ≡ refusal c → IsPlain o
refusal-plain o c same = plain-is o (refusal c) same (cause-free c) refl refl

-- ---- Files and readers, for any predicate that plain outcomes have.

of-file : (P : Outcome → Type 0) (plain : (o : Outcome) → IsPlain o → P o) (which : Document) (file : Option (List ℕ)) (next : List ℕ → Outcome → Type 0) (o : Outcome) → ((bytes : List ℕ) → next bytes o → P o) → OfFile which file next o → P o
of-file P plain which None next o step h = plain o (refusal-plain o (cause.Absent which) h)
of-file P plain which (Some bytes) next o step h = ⊎_elim (λ x. step bytes x.1) (λ x. plain o (refusal-plain o (cause.TooLong which) x.1)) h

of-load : (P : Outcome → Type 0) (plain : (o : Outcome) → IsPlain o → P o) (which : Document) (files : Option Files) (name : List ℕ) (next : List ℕ → Outcome → Type 0) (o : Outcome) → ((bytes : List ℕ) → next bytes o → P o) → AfterLoad which files name next o → P o
of-load P plain which files name next o step h = of-file P plain which h.0 next o step h.2

of-three : (P : Outcome → Type 0) (plain : (o : Outcome) → IsPlain o → P o) (files : Option Files) (s i c : List ℕ) (next : List ℕ → List ℕ → List ℕ → Outcome → Type 0) (o : Outcome) → ((source image certificate : List ℕ) → next source image certificate o → P o) → AfterThree files s i c next o → P o
of-three P plain files s i c next o step h =
    of-load P plain document.Source files s (λ source. AfterLoad document.Image files i (λ image. AfterLoad document.Certificate files c (next source image))) o
    (λ source x. of-load P plain document.Image files i (λ image. AfterLoad document.Certificate files c (next source image)) o
    (λ image y. of-load P plain document.Certificate files c (next source image) o (step source image) y) x) h

of-source : (P : Outcome → Type 0) (plain : (o : Outcome) → IsPlain o → P o) (bytes : List ℕ) (next : ProgramTree → Outcome → Type 0) (o : Outcome) → ((program : ProgramTree) → next program o → P o) → AfterSource bytes next o → P o
of-source P plain bytes next o step h = ⊎_elim (λ x. step x.0 x.2) (λ x. plain o (refusal-plain o (cause.Source x.0) x.2)) h

of-image : (P : Outcome → Type 0) (plain : (o : Outcome) → IsPlain o → P o) (bytes : List ℕ) (next : Image → Outcome → Type 0) (o : Outcome) → ((i : Image) → next i o → P o) → AfterImage bytes next o → P o
of-image P plain bytes next o step h = ⊎_elim (λ x. step x.0 x.2) (λ x. plain o (refusal-plain o (cause.Image x.0) x.2)) h

of-certificate : (P : Outcome → Type 0) (plain : (o : Outcome) → IsPlain o → P o) (bytes : List ℕ) (next : Certificate → Outcome → Type 0) (o : Outcome) → ((c : Certificate) → next c o → P o) → AfterCertificate bytes next o → P o
of-certificate P plain bytes next o step h = ⊎_elim (λ x. step x.0 x.2) (λ x. plain o (refusal-plain o (cause.CertificateLine x.0) x.2)) h

of-three-texts : (P : Outcome → Type 0) (plain : (o : Outcome) → IsPlain o → P o) (source image certificate : List ℕ) (next : ProgramTree → Image → Certificate → Outcome → Type 0) (o : Outcome) → ((program : ProgramTree) (i : Image) (c : Certificate) → next program i c o → P o) →
    AfterSource source (λ program. AfterImage image (λ i. AfterCertificate certificate (λ c. next program i c))) o → P o
of-three-texts P plain source image certificate next o step h =
    of-source P plain source (λ program. AfterImage image (λ i. AfterCertificate certificate (λ c. next program i c))) o
    (λ program x. of-image P plain image (λ i. AfterCertificate certificate (λ c. next program i c)) o
    (λ i y. of-certificate P plain certificate (λ c. next program i c) o (λ c z. step program i c z) y) x) h

-- ---- Programs and pairs.

unbuilt-plain : (sizes : Options) (program : ProgramTree) (o : Outcome) → IsUnbuilt sizes program o → IsPlain o
unbuilt-plain sizes program o h =
    ⊎_elim (λ x. plain-is o _ x.is (inl (omega arith)) refl refl) (λ x. refusal-plain o (cause.Code x.1) x.3) h

served-kind : (trace : Option (List ℕ)) (sizes : Options) (policy : RunOptions) (program : ProgramTree) (o : Outcome) → ServesProgram trace sizes policy program o → IsPlain o ⊎ ((setup : Setup) × RunsOn trace setup o)
served-kind trace sizes policy program o h = ⊎_elim (λ x. inl (unbuilt-plain sizes program o x)) (λ x. inr (_, x.5)) h

pair-kind : (trace : Option (List ℕ)) (policy : RunOptions) (program : ProgramTree) (i : Image) (c : Certificate) (o : Outcome) → RunsPair trace policy program i c o → IsPlain o ⊎ ((setup : Setup) × RunsOn trace setup o)
pair-kind trace policy program i c o h =
    ⊎_elim
    (λ x. inl (refusal-plain o (cause.Rejected x.0 x.1 x.2) x.4))
    (λ x. ⊎_elim (λ y. inl (refusal-plain o (cause.Pool (pool_bytes policy c)) y.1)) (λ y. inr (_, y.1)) x.1)
    h

built-kind : (options : Options) (image_name certificate_name : List ℕ) (program : ProgramTree) (o : Outcome) → BuildsProgram options image_name certificate_name program o → IsPlain o ⊎ IsPair image_name certificate_name o
built-kind options image_name certificate_name program o h =
    ⊎_elim
    (λ x. inl (unbuilt-plain options program o x))
    (λ x. inr (subst (λ (y : Outcome). IsPair image_name certificate_name y) (sym x.5) (record {
      status = inl (omega arith);
      image = image.spelling x.2;
      certificate = certificate.spelling x.3;
      stores = refl;
      line = refl;
      unread = refl;
      last = refl;
    })))
    h

checked-plain : (program : ProgramTree) (i : Image) (c : Certificate) (o : Outcome) → ChecksPair program i c o → IsPlain o
checked-plain program i c o h = plain-is o (verdict_outcome h.0) h.2 (verdict-free h.0) refl refl

budget-plain : (program : ProgramTree) (i : Image) (c : Certificate) (o : Outcome) → BudgetsPair program i c o → IsPlain o
budget-plain program i c o h =
    ⊎_elim
    (λ x. refusal-plain o (cause.Rejected x.0 x.1 x.2) x.4)
    (λ x. ⊎_elim (λ y. plain-is o _ y.is (inr (omega arith)) refl refl) (λ y. plain-is o _ y.is (inl (omega arith)) refl refl) x.1)
    h

judged-plain : (trace : Option (List ℕ)) (options : AuditOptions) (log : List ℕ) (program : ProgramTree) (o : Outcome) → AuditsProgram trace options log program o → IsPlain o
judged-plain trace options log program o h = plain-is o (judged_outcome h.0) h.2 (judgement-free h.0) refl refl

graph-plain : (path : ℕ) (program : ProgramTree) (o : Outcome) → GraphsProgram path program o → IsPlain o
graph-plain path program o h =
    ⊎_elim (λ x. plain-is o _ x.is (inl (omega arith)) refl refl) (λ x. plain-is o _ x.1.2 (inl (omega arith)) refl refl) h

-- ---- Requests.

pub kind-of : (request : Request) (before : Outside) (o : Outcome) → Does request before o → IsKind request before.left o
kind-of (Serve source placement policy) before o h =
    let P = IsKind (Serve source placement policy) before.left in
    of-load P (λ p x. inl x) document.Source before.files source (λ bytes. AfterSource bytes (ServesProgram before.left (sizes_of placement) policy)) o
    (λ bytes x. of-source P (λ p y. inl y) bytes (ServesProgram before.left (sizes_of placement) policy) o
    (λ program y. ⊎_elim (λ z. inl z) (λ z. inr (inl z)) (served-kind before.left (sizes_of placement) policy program o y)) x) h
kind-of (Run source image certificate policy) before o h =
    let P = IsKind (Run source image certificate policy) before.left in
    of-three P (λ p x. inl x) before.files source image certificate (RunsBytes before.left policy) o
    (λ s i c x. of-three-texts P (λ p y. inl y) s i c (RunsPair before.left policy) o
    (λ program im ce y. ⊎_elim (λ z. inl z) (λ z. inr (inl z)) (pair-kind before.left policy program im ce o y)) x) h
kind-of (Build source image certificate placement) before o h =
    let P = IsKind (Build source image certificate placement) before.left in
    of-load P (λ p x. inl x) document.Source before.files source (λ bytes. AfterSource bytes (BuildsProgram (sizes_of placement) image certificate)) o
    (λ bytes x. of-source P (λ p y. inl y) bytes (BuildsProgram (sizes_of placement) image certificate) o
    (λ program y. ⊎_elim (λ z. inl z) (λ z. inr (inr z)) (built-kind (sizes_of placement) image certificate program o y)) x) h
kind-of (Check source image certificate) before o h =
    inl (of-three IsPlain (λ p x. x) before.files source image certificate ChecksBytes o
    (λ s i c x. of-three-texts IsPlain (λ p y. y) s i c ChecksPair o (λ program im ce y. checked-plain program im ce o y) x) h)
kind-of (Budget source image certificate) before o h =
    inl (of-three IsPlain (λ p x. x) before.files source image certificate BudgetsBytes o
    (λ s i c x. of-three-texts IsPlain (λ p y. y) s i c BudgetsPair o (λ program im ce y. budget-plain program im ce o y) x) h)
kind-of (Graph source placement) before o h =
    inl (of-load IsPlain (λ p x. x) document.Source before.files source (λ bytes. AfterSource bytes (GraphsProgram placement.max_path)) o
    (λ bytes x. of-source IsPlain (λ p y. y) bytes (GraphsProgram placement.max_path) o (λ program y. graph-plain placement.max_path program o y) x) h)
kind-of (Audit source log options) before o h =
    inl (of-load IsPlain (λ p x. x) document.Source before.files source (λ bytes. AfterLoad document.Log before.files log (AuditsBytes before.left options bytes)) o
    (λ bytes x. of-load IsPlain (λ p y. y) document.Log before.files log (AuditsBytes before.left options bytes) o
    (λ text y. of-source IsPlain (λ p z. z) bytes (AuditsProgram before.left options text) o (λ program z. judged-plain before.left options text program o z) y) x) h)
kind-of (Demo number) before o h = let shows = h.2 in inr (inl (setup_of h.0 shows.0 shows.1 demo_policy, (h.1, shows.3)))

-- ---- Runs.

run-free : (trace : Option (List ℕ)) (setup : Setup) (o : Outcome) → RunsOn trace setup o → IsFree o.status × (o.stores ≡ [])
run-free trace setup o h =
    (subst (λ (x : Outcome). IsFree x.status) (sym h.5) (stop-free h.2), ap (λ (x : Outcome). x.stores) h.5)

pub run-for-free : (request : Request) (trace : Option (List ℕ)) (setup : Setup) (o : Outcome) → IsRunFor request trace setup o → IsFree o.status × (o.stores ≡ [])
run-for-free (Serve source placement policy) trace setup o h = run-free trace setup o h
run-for-free (Run source image certificate policy) trace setup o h = run-free trace setup o h
run-for-free (Build source image certificate placement) trace setup o h = absurd h
run-for-free (Check source image certificate) trace setup o h = absurd h
run-for-free (Graph source placement) trace setup o h = absurd h
run-for-free (Budget source image certificate) trace setup o h = absurd h
run-for-free (Audit source log options) trace setup o h = absurd h
run-for-free (Demo number) trace setup o h =
    (subst (λ (x : Outcome). IsFree x.status) (sym h.1.5) (stop-free h.1.2), ap (λ (x : Outcome). x.stores) h.1.5)
