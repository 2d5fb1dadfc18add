-- One outcome is due at most: two that are due for the same words, files and trace are one.
use Rattle.std.proofs.lemmas.Bool.{cases_order}
use Rattle.cap_io.specs.Faults.{IsRisen, Rose, Stayed}
use Rattle.capriccio_call.proofs.Common.{◌≡◌, ◌⊎◌, ℕ, ◌+◌, ◌<◌, ◌≤◌, ◌*◌, List, [], ◌∷◌, ◌++◌, Option, Some, None, Result, Ok, Err, refl, sym, ap, subst, ◌∙◌, arith, inl, inr, ⊎_elim, Files, ProgramTree, IsWellScoped, lowered, FlatCode, Image, Certificate, spelling_unique, first_refused_unique, spelling_unrefused, frame_refusal, IsLaidOut, IsTooLarge, IsWordList, Request, Serve, Run, Build, Check, Graph, Demo, Audit, Budget, one_request, Document, Fault, Read, Write, Memory, Verdict, Accepted, Rejected, Outcome, refused, printed, refusal, frame_words, cycle_words, OfFile, AfterLoad, AfterThree, AfterSource, AfterImage, AfterCertificate, IsImageText, IsCertificateText, Graphs, GraphsProgram, HasFittingFrames, IsFrameRefused, names_of, Checks, ChecksBytes, ChecksPair, IsVerdict, verdict_outcome, IsOnCycle, Budgets, BudgetsBytes, BudgetsPair, IsCycleRefused, IsBudgetPrinted, budget_text, Options, Builds, BuildsProgram, HasFittingCode, IsUnbuilt, built, RunsOn, Serves, ServesProgram, Runs, RunsBytes, RunsPair, pool_bytes, setup_of, IsRunPolicy, sizes_of, Demos, ShowsProgram, ShowsRun, demo_sizes, demo_policy, Audits, AuditsBytes, AuditsProgram, judged_outcome, reading_of, Does, IsDue, program_text, trace_text, Outside, IsDone, IsTraceTold, IsExact, one_program, one_source_error, never, plans-are-one, words-are-one, texts-are-one, IsJudgementOf, serve-policy, serve-pool, run-policy, demo-run-policy, demo-pool}
use Rattle.c_scope.specs.declared.source_errors.SourceError.{SourceError}
use Rattle.certificate_rules.specs.Validity.{IsFirstFailure}
use Rattle.stack_image.specs.declared.refusals.ImageError.{ImageError}
use Rattle.stack_image.specs.Refusal.{refusal_of}
use Rattle.stack_image.specs.Reading.{image_of}
use Rattle.stack_image.proofs.ReadAgain.{spelling_not_refused, image_of-spelling}
use Rattle.certificate_text.specs.FirstRefused.{IsFirstRefused}
use Rattle.stack_build.specs.declared.refusals.BuildError.TheVariants.{FrameTooLarge, CodeTooLarge}
use Rattle.analysis_lines.specs.Lines.{name_at}
use Rattle.command_outcomes.specs.declared.documents.Document.TheVariants as document
use Rattle.command_outcomes.specs.declared.stops.Cause.TheVariants as cause
use Rattle.chunk_budget.specs.declared.budgets.Budget as budgets
use Rattle.command_words.specs.declared.options.Audit.{Audit as AuditOptions}
use Rattle.command_words.specs.declared.options.Policy.{Policy as RunOptions}
use Rattle.capriccio_call.proofs.OneBudget.{one-budget, one-least}
use Rattle.lawful_reading.proofs.OneJudgement.{one_judgement}
use Rattle.capriccio_call.proofs.OnePair.{pairs-are-one}
use Rattle.capriccio_call.proofs.OneRun.{IsInRange, one-outcome, one-shown}

alike : (a b o : Outcome) → a ≡ o → b ≡ o → a ≡ b
alike a b o p q = p ∙ sym q

-- Files.

file-case : (which : Document) (file : Option (List ℕ)) (next : List ℕ → Outcome → Type 0) (a b : Outcome) → ((bytes : List ℕ) → next bytes a → next bytes b → a ≡ b) → OfFile which file next a → OfFile which file next b → a ≡ b
file-case which None next a b one h k = alike a b (refusal (cause.Absent which)) h k
file-case which (Some bytes) next a b one h k =
    ⊎_elim
    (λ x. ⊎_elim (λ y. one bytes x.1 y.1) (λ y. let fits = x.0 in let long = y.0 in absurd (omega arith)) k)
    (λ x. ⊎_elim (λ y. let fits = y.0 in let long = x.0 in absurd (omega arith)) (λ y. alike a b (refusal (cause.TooLong which)) x.1 y.1) k)
    h

load-case : (which : Document) (f : Files) (name : List ℕ) (next : List ℕ → Outcome → Type 0) (a b : Outcome) → ((bytes : List ℕ) → next bytes a → next bytes b → a ≡ b) → AfterLoad which (Some f) name next a → AfterLoad which (Some f) name next b → a ≡ b
load-case which f name next a b one h k =
    let first = subst (λ file. OfFile which file next a) (sym h.1) h.2 in
    let second = subst (λ file. OfFile which file next b) (sym k.1) k.2 in
    file-case which (f name) next a b one first second

three-case : (f : Files) (s i c : List ℕ) (next : List ℕ → List ℕ → List ℕ → Outcome → Type 0) (a b : Outcome) → ((source image certificate : List ℕ) → next source image certificate a → next source image certificate b → a ≡ b) →
    AfterThree (Some f) s i c next a → AfterThree (Some f) s i c next b → a ≡ b
three-case f s i c next a b one h k =
    load-case document.Source f s (λ source. AfterLoad document.Image (Some f) i (λ image. AfterLoad document.Certificate (Some f) c (next source image))) a b
    (λ source x y. load-case document.Image f i (λ image. AfterLoad document.Certificate (Some f) c (next source image)) a b
    (λ image z w. load-case document.Certificate f c (next source image) a b (one source image) z w) x y) h k

-- Readers.

source-case : (bytes : List ℕ) (next : ProgramTree → Outcome → Type 0) (a b : Outcome) → ((p : ProgramTree) → IsWellScoped p → next p a → next p b → a ≡ b) → AfterSource bytes next a → AfterSource bytes next b → a ≡ b
source-case bytes next a b one h k =
    ⊎_elim
    (λ x. ⊎_elim
    (λ y. let left = x.1 in let right = y.1 in one y.0 right.scoped (subst (λ (p : ProgramTree). next p a) (one_program bytes x.0 y.0 left.reads right.reads) x.2) y.2)
    (λ y. let left = x.1 in absurd (never bytes x.0 y.0 left.reads y.1)) k)
    (λ x. ⊎_elim
    (λ y. let right = y.1 in absurd (never bytes y.0 x.0 right.reads x.1))
    (λ y. alike a b (refusal (cause.Source y.0)) (x.2 ∙ ap (λ (e : SourceError). refusal (cause.Source e)) (one_source_error bytes x.0 y.0 x.1 y.1)) y.2) k)
    h

pub image-is : (bytes : List ℕ) (i : Image) → IsImageText bytes i → image_of bytes ≡ i
image-is bytes i h = ap image_of h.spelled ∙ image_of-spelling i h.limits h.words

pub image-never : (bytes : List ℕ) (i : Image) (e : ImageError) → IsImageText bytes i → refusal_of bytes ≡ Some e → ⊥
image-never bytes i e h r = let none = spelling_not_refused i h.limits in let same = ap refusal_of h.spelled in let clash : Some e ≡ None = sym r ∙ (same ∙ none) in cc

image-case : (bytes : List ℕ) (next : Image → Outcome → Type 0) (a b : Outcome) → ((i : Image) → next i a → next i b → a ≡ b) → AfterImage bytes next a → AfterImage bytes next b → a ≡ b
image-case bytes next a b one h k =
    ⊎_elim
    (λ x. ⊎_elim
    (λ y. one y.0 (subst (λ (i : Image). next i a) (sym (image-is bytes x.0 x.1) ∙ image-is bytes y.0 y.1) x.2) y.2)
    (λ y. absurd (image-never bytes x.0 y.0 x.1 y.1)) k)
    (λ x. ⊎_elim
    (λ y. absurd (image-never bytes y.0 x.0 y.1 x.1))
    (λ y. let e : Some x.0 ≡ Some y.0 = sym x.1 ∙ y.1 in let same : x.0 ≡ y.0 = cc in alike a b (refusal (cause.Image y.0)) (x.2 ∙ ap (λ (r : ImageError). refusal (cause.Image r)) same) y.2) k)
    h

pub certificate-never : (bytes : List ℕ) (c : Certificate) (n : ℕ) → IsCertificateText bytes c → IsFirstRefused bytes n → ⊥
certificate-never bytes c n h r = spelling_unrefused c n h.limits h.words (subst (λ (t : List ℕ). IsFirstRefused t n) h.spelled r)

certificate-case : (bytes : List ℕ) (next : Certificate → Outcome → Type 0) (a b : Outcome) → ((c : Certificate) → next c a → next c b → a ≡ b) → AfterCertificate bytes next a → AfterCertificate bytes next b → a ≡ b
certificate-case bytes next a b one h k =
    ⊎_elim
    (λ x. ⊎_elim
    (λ y. let left = x.1 in let right = y.1 in one y.0 (subst (λ (c : Certificate). next c a) (spelling_unique x.0 y.0 (sym left.spelled ∙ right.spelled)) x.2) y.2)
    (λ y. absurd (certificate-never bytes x.0 y.0 x.1 y.1)) k)
    (λ x. ⊎_elim
    (λ y. absurd (certificate-never bytes y.0 x.0 y.1 x.1))
    (λ y. alike a b (refusal (cause.CertificateLine y.0)) (x.2 ∙ ap (λ (n : ℕ). refusal (cause.CertificateLine n)) (first_refused_unique bytes x.0 y.0 x.1 y.1)) y.2) k)
    h

-- Commands.

same-frame : (p : ProgramTree) (path : ℕ) (a b : Outcome) → IsFrameRefused p path a → IsFrameRefused p path b → a ≡ b
same-frame p path a b h k =
    let e : Some (FrameTooLarge h.function h.bytes) ≡ Some (FrameTooLarge k.function k.bytes) = sym h.first ∙ k.first in
    let functions : h.function ≡ k.function = cc in
    let bytes : h.bytes ≡ k.bytes = cc in
    alike a b (refused 5 (frame_words (name_at (names_of p) k.function) k.bytes ++ 10 ∷ []))
    (h.is ∙ (ap (λ (f : ℕ). refused 5 (frame_words (name_at (names_of p) f) h.bytes ++ 10 ∷ [])) functions ∙ ap (λ (n : ℕ). refused 5 (frame_words (name_at (names_of p) k.function) n ++ 10 ∷ [])) bytes)) k.is

frame-or-fit : (p : ProgramTree) (path : ℕ) (a : Outcome) → IsFrameRefused p path a → frame_refusal (lowered p) path ≡ None → ⊥
frame-or-fit p path a h none = let e : Some (FrameTooLarge h.function h.bytes) ≡ None = sym h.first ∙ none in cc

program-case : (path : ℕ) (p : ProgramTree) (a b : Outcome) → IsWellScoped p → GraphsProgram path p a → GraphsProgram path p b → a ≡ b
program-case path p a b scoped h k =
    ⊎_elim
    (λ x. ⊎_elim (λ y. same-frame p path a b x y) (λ y. absurd (frame-or-fit p path a x y.0)) k)
    (λ x. ⊎_elim (λ y. absurd (frame-or-fit p path b y x.0))
    (λ y. let left = x.1 in let right = y.1 in alike a b (printed 0 right.0) (left.2 ∙ ap (λ (text : List ℕ). printed 0 text) (texts-are-one p scoped path left.0 right.0 left.1 right.1)) right.2) k)
    h

-- numbers are equal where neither is below the other
equal : (a b : ℕ) → (a < b → ⊥) → (b < a → ⊥) → a ≡ b
equal a b not_below not_above =
    elim (cases_order a b) [ inl e ↦ e | inr h ↦ elim h [ inl lt ↦ absurd (not_below lt) | inr lt ↦ absurd (not_above lt) ] ]

same-failure : (code : FlatCode) (i : Image) (c : Certificate) (rule f k other g j : ℕ) → IsFirstFailure code i c rule f k → IsFirstFailure code i c other g j → (rule ≡ other) × (f ≡ g) × (k ≡ j)
same-failure code i c rule f k other g j first second =
    let rules : rule ≡ other = equal rule other (λ lt. first.fails (second.lower_rules rule f k lt)) (λ lt. second.fails (first.lower_rules other g j lt)) in
    let P : ℕ → Type 0 = λ r. IsFirstFailure code i c r g j in
    let moved : IsFirstFailure code i c rule g j = subst P (sym rules) second in
    let functions : f ≡ g = equal f g (λ lt. first.fails (moved.lower_functions f k lt)) (λ lt. moved.fails (first.lower_functions g j lt)) in
    let Q : ℕ → Type 0 = λ h. IsFirstFailure code i c rule h j in
    let same : IsFirstFailure code i c rule f j = subst Q (sym functions) moved in
    (rules, functions, equal k j (λ lt. first.fails (same.lower_indices k lt)) (λ lt. same.fails (first.lower_indices j lt)))

same-verdict : (p : ProgramTree) (i : Image) (c : Certificate) (v w : Verdict) → IsVerdict p i c v → IsVerdict p i c w → v ≡ w
same-verdict p i c Accepted Accepted h k = refl
same-verdict p i c Accepted (Rejected rule f n) h k = absurd (k.fails (h.holds rule f n))
same-verdict p i c (Rejected rule f n) Accepted h k = absurd (h.fails (k.holds rule f n))
same-verdict p i c (Rejected rule f n) (Rejected other g m) h k =
    let same = same-failure (lowered p) i c rule f n other g m h k in
    let rules = same.0 in let functions = same.1 in let indices = same.2 in cc

pair-case : (p : ProgramTree) (i : Image) (c : Certificate) (a b : Outcome) → ChecksPair p i c a → ChecksPair p i c b → a ≡ b
pair-case p i c a b h k = alike a b (verdict_outcome k.0) (h.2 ∙ ap verdict_outcome (same-verdict p i c h.0 k.0 h.1 k.1)) k.2

bytes-case : (source image certificate : List ℕ) (a b : Outcome) → ChecksBytes source image certificate a → ChecksBytes source image certificate b → a ≡ b
bytes-case source image certificate a b h k =
    source-case source (λ p. AfterImage image (λ i. AfterCertificate certificate (λ c. ChecksPair p i c))) a b
    (λ p scoped x y. image-case image (λ i. AfterCertificate certificate (λ c. ChecksPair p i c)) a b
    (λ i z w. certificate-case certificate (λ c. ChecksPair p i c) a b (λ c u v. pair-case p i c a b u v) z w) x y) h k

-- Budgets.

budget-case : (p : ProgramTree) (i : Image) (c : Certificate) (a b : Outcome) → BudgetsPair p i c a → BudgetsPair p i c b → a ≡ b
budget-case p i c a b h k =
    ⊎_elim
    (λ x. ⊎_elim
    (λ y.
    let same = same-failure (lowered p) i c x.0 x.1 x.2 y.0 y.1 y.2 x.3 y.3 in
    alike a b (refusal (cause.Rejected y.0 y.1 y.2)) (x.4 ∙ (λ k. refusal (cause.Rejected (same.0 k) (same.1 k) (same.2 k)))) y.4)
    (λ y. absurd (x.3.fails (y.0.holds x.0 x.1 x.2))) k)
    (λ x. ⊎_elim
    (λ y. absurd (y.3.fails (x.0.holds y.0 y.1 y.2)))
    (λ y. made-case p c a b x.1 y.1) k)
    h
  where
    made-case : (p : ProgramTree) (c : Certificate) (a b : Outcome) → IsCycleRefused p a ⊎ IsBudgetPrinted p c a → IsCycleRefused p b ⊎ IsBudgetPrinted p c b → a ≡ b
    made-case p c a b (inl x) (inl y) =
        let same = one-least (IsOnCycle (lowered p)) x.function y.function x.least y.least in
        alike a b (refused 17 (cycle_words (name_at (names_of p) y.function) ++ 10 ∷ [])) (x.is ∙ ap (λ (f : ℕ). refused 17 (cycle_words (name_at (names_of p) f) ++ 10 ∷ [])) same) y.is
    made-case p c a b (inl x) (inr y) = absurd (y.acyclic x.function x.least.holds)
    made-case p c a b (inr x) (inl y) = absurd (x.acyclic y.function y.least.holds)
    made-case p c a b (inr x) (inr y) =
        alike a b (printed 0 (budget_text y.budget)) (x.is ∙ ap (λ (budget : budgets.Budget). printed 0 (budget_text budget)) (one-budget (lowered p) c x.budget y.budget x.least y.least)) y.is

budget-bytes-case : (source image certificate : List ℕ) (a b : Outcome) → BudgetsBytes source image certificate a → BudgetsBytes source image certificate b → a ≡ b
budget-bytes-case source image certificate a b h k =
    source-case source (λ p. AfterImage image (λ i. AfterCertificate certificate (λ c. BudgetsPair p i c))) a b
    (λ p scoped x y. image-case image (λ i. AfterCertificate certificate (λ c. BudgetsPair p i c)) a b
    (λ i z w. certificate-case certificate (λ c. BudgetsPair p i c) a b (λ c u v. budget-case p i c a b u v) z w) x y) h k

-- Builds.

same-words : (p : ProgramTree) (sizes : Options) (a b : Outcome) (m n : ℕ) → IsWellScoped p → IsTooLarge (lowered p) sizes (CodeTooLarge m) → IsTooLarge (lowered p) sizes (CodeTooLarge n) → a ≡ refusal (cause.Code m) → b ≡ refusal (cause.Code n) → a ≡ b
same-words p sizes a b m n scoped h k left right = alike a b (refusal (cause.Code n)) (left ∙ ap (λ (x : ℕ). refusal (cause.Code x)) (words-are-one p scoped sizes m n h k)) right

unbuilt-case : (sizes : Options) (p : ProgramTree) (a b : Outcome) → IsWellScoped p → IsUnbuilt sizes p a → IsUnbuilt sizes p b → a ≡ b
unbuilt-case sizes p a b scoped h k =
    ⊎_elim
    (λ x. ⊎_elim (λ y. same-frame p sizes.max_path a b x y) (λ y. absurd (frame-or-fit p sizes.max_path a x y.0)) k)
    (λ x. ⊎_elim (λ y. absurd (frame-or-fit p sizes.max_path b y x.0)) (λ y. same-words p sizes a b x.1 y.1 scoped x.2 y.2 x.3 y.3) k)
    h

-- a program isn't built where its pair is laid out
not-unbuilt : (sizes : Options) (p : ProgramTree) (a : Outcome) → IsUnbuilt sizes p a → HasFittingFrames p sizes.max_path → HasFittingCode p sizes → ⊥
not-unbuilt sizes p a h frames code = ⊎_elim (λ x. frame-or-fit p sizes.max_path a x frames) (λ x. code x.1 x.2) h

same-built : (p : ProgramTree) (options : Options) (n m : List ℕ) (i j : Image) (c d : Certificate) (a b : Outcome) → IsWellScoped p → IsLaidOut (lowered p) options i c → IsLaidOut (lowered p) options j d →
    a ≡ built n m i c → b ≡ built n m j d → a ≡ b
same-built p options n m i j c d a b scoped h k left right =
    let pairs = pairs-are-one (lowered p) options i j c d h k (plans-are-one p scoped options.max_path h.0 k.0 h.1 k.1) in
    alike a b (built n m j d) (left ∙ (λ k. built n m (pairs.0 k) (pairs.1 k))) right

built-case : (options : Options) (n m : List ℕ) (p : ProgramTree) (a b : Outcome) → IsWellScoped p → BuildsProgram options n m p a → BuildsProgram options n m p b → a ≡ b
built-case options n m p a b scoped h k =
    ⊎_elim
    (λ x. ⊎_elim (λ y. unbuilt-case options p a b scoped x y) (λ y. absurd (not-unbuilt options p a x y.0 y.1)) k)
    (λ x. ⊎_elim (λ y. absurd (not-unbuilt options p b y x.0 x.1)) (λ y. same-built p options n m x.2 y.2 x.3 y.3 a b scoped x.4 y.4 x.5 y.5) k)
    h

-- Runs.

-- the pool of the options is within its limit with these chunks
abbrev pub IsWithinPool : RunOptions → ℕ → Type 0
IsWithinPool policy chunk = policy.chunks * chunk + policy.extra * policy.extra_bytes ≤ 67108864

pub in-range : (policy : RunOptions) (p : ProgramTree) (i : Image) (c : Certificate) → IsRunPolicy policy → IsWithinPool policy c.chunk → IsInRange (setup_of p i c policy)
in-range policy p i c ranges fits = record {
  some_chunks = ranges.some_chunks;
  chunks = ranges.chunks;
  extra = ranges.extra;
  extra_least = ranges.extra_least;
  extra_most = ranges.extra_most;
  extra_whole = ranges.extra_whole;
  fuel = ranges.fuel;
  pool = fits;
}

-- a run reads the trace, so its bytes are told where they have to be
runs-case : (left : Option (List ℕ)) (policy : RunOptions) (p : ProgramTree) (i : Image) (c : Certificate) (a b : Outcome) → IsRunPolicy policy → IsWithinPool policy c.chunk → IsTraceTold left b →
    RunsOn left (setup_of p i c policy) a → RunsOn left (setup_of p i c policy) b → a ≡ b
runs-case left policy p i c a b ranges fits reads h k =
    let bytes = reads (ap (λ (o : Outcome). o.reads_trace) k.5) in
    one-outcome (setup_of p i c policy) bytes.0 a b (in-range policy p i c ranges fits)
    (subst (λ (l : Option (List ℕ)). RunsOn l (setup_of p i c policy) a) bytes.1 h) (subst (λ (l : Option (List ℕ)). RunsOn l (setup_of p i c policy) b) bytes.1 k)

served-case : (left : Option (List ℕ)) (sizes : Options) (policy : RunOptions) (p : ProgramTree) (a b : Outcome) → IsRunPolicy policy → IsWithinPool policy sizes.chunk → IsWellScoped p → IsTraceTold left b →
    ServesProgram left sizes policy p a → ServesProgram left sizes policy p b → a ≡ b
served-case left sizes policy p a b ranges fits scoped reads h k =
    ⊎_elim
    (λ x. ⊎_elim (λ y. unbuilt-case sizes p a b scoped x y) (λ y. absurd (not-unbuilt sizes p a x y.0 y.1)) k)
    (λ x. ⊎_elim (λ y. absurd (not-unbuilt sizes p b y x.0 x.1))
    (λ y.
    let laid = y.4 in
    let is = laid.2 in
    let plans = plans-are-one p scoped sizes.max_path x.4.0 y.4.0 x.4.1 y.4.1 in
    let pairs = pairs-are-one (lowered p) sizes x.2 y.2 x.3 y.3 x.4 y.4 plans in
    let image : RunsOn left (setup_of p y.2 x.3 policy) a = subst (λ (i : Image). RunsOn left (setup_of p i x.3 policy) a) pairs.0 x.5 in
    let runs : RunsOn left (setup_of p y.2 y.3 policy) a = subst (λ (c : Certificate). RunsOn left (setup_of p y.2 c policy) a) pairs.1 image in
    runs-case left policy p y.2 y.3 a b ranges (subst (IsWithinPool policy) (sym is.chunk) fits) reads runs y.5) k)
    h

run-case : (left : Option (List ℕ)) (policy : RunOptions) (p : ProgramTree) (i : Image) (c : Certificate) (a b : Outcome) → IsRunPolicy policy → IsTraceTold left b → RunsPair left policy p i c a → RunsPair left policy p i c b → a ≡ b
run-case left policy p i c a b ranges reads h k =
    ⊎_elim
    (λ x. ⊎_elim
    (λ y.
    let same = same-failure (lowered p) i c x.0 x.1 x.2 y.0 y.1 y.2 x.3 y.3 in
    alike a b (refusal (cause.Rejected y.0 y.1 y.2)) (x.4 ∙ (λ j. refusal (cause.Rejected (same.0 j) (same.1 j) (same.2 j)))) y.4)
    (λ y. absurd (x.3.fails (y.0.holds x.0 x.1 x.2))) k)
    (λ x. ⊎_elim
    (λ y. absurd (y.3.fails (x.0.holds y.0 y.1 y.2)))
    (λ y. pool-case left policy p i c a b ranges reads x.1 y.1) k)
    h
  where
    pool-case : (left : Option (List ℕ)) (policy : RunOptions) (p : ProgramTree) (i : Image) (c : Certificate) (a b : Outcome) → IsRunPolicy policy → IsTraceTold left b →
        ((67108864 < pool_bytes policy c) × (a ≡ refusal (cause.Pool (pool_bytes policy c)))) ⊎ (IsWithinPool policy c.chunk × RunsOn left (setup_of p i c policy) a) →
        ((67108864 < pool_bytes policy c) × (b ≡ refusal (cause.Pool (pool_bytes policy c)))) ⊎ (IsWithinPool policy c.chunk × RunsOn left (setup_of p i c policy) b) → a ≡ b
    pool-case left policy p i c a b ranges reads h k =
        ⊎_elim
        (λ x. ⊎_elim (λ y. alike a b (refusal (cause.Pool (pool_bytes policy c))) x.1 y.1) (λ y. let much = x.0 in let few = y.0 in absurd (omega arith)) k)
        (λ x. ⊎_elim (λ y. let much = y.0 in let few = x.0 in absurd (omega arith)) (λ y. runs-case left policy p i c a b ranges x.0 reads x.1 y.1) k)
        h

run-bytes-case : (left : Option (List ℕ)) (policy : RunOptions) (source image certificate : List ℕ) (a b : Outcome) → IsRunPolicy policy → IsTraceTold left b → RunsBytes left policy source image certificate a → RunsBytes left policy source image certificate b → a ≡ b
run-bytes-case left policy source image certificate a b ranges reads h k =
    source-case source (λ p. AfterImage image (λ i. AfterCertificate certificate (λ c. RunsPair left policy p i c))) a b
    (λ p scoped x y. image-case image (λ i. AfterCertificate certificate (λ c. RunsPair left policy p i c)) a b
    (λ i z w. certificate-case certificate (λ c. RunsPair left policy p i c) a b (λ c u v. run-case left policy p i c a b ranges reads u v) z w) x y) h k

shows-case : (trace : List ℕ) (p : ProgramTree) (a b : Outcome) → IsWellScoped p → ShowsProgram trace p a → ShowsProgram trace p b → a ≡ b
shows-case trace p a b scoped h k =
    let is = k.2.2 in
    let plans = plans-are-one p scoped demo_sizes.max_path h.2.0 k.2.0 h.2.1 k.2.1 in
    let pairs = pairs-are-one (lowered p) demo_sizes h.0 k.0 h.1 k.1 h.2 k.2 plans in
    let image : ShowsRun trace (setup_of p k.0 h.1 demo_policy) a = subst (λ (i : Image). ShowsRun trace (setup_of p i h.1 demo_policy) a) pairs.0 h.3 in
    let runs : ShowsRun trace (setup_of p k.0 k.1 demo_policy) a = subst (λ (c : Certificate). ShowsRun trace (setup_of p k.0 c demo_policy) a) pairs.1 image in
    one-shown (setup_of p k.0 k.1 demo_policy) trace a b (in-range demo_policy p k.0 k.1 demo-run-policy (demo-pool k.1.chunk is.chunk)) runs k.3

demo-case : (number : ℕ) (a b : Outcome) → Demos number a → Demos number b → a ≡ b
demo-case number a b h k =
    let left = h.1 in let right = k.1 in
    let same : h.0 ≡ k.0 = one_program (program_text number) h.0 k.0 left.reads right.reads in
    shows-case (trace_text number) k.0 a b right.scoped (subst (λ (p : ProgramTree). ShowsProgram (trace_text number) p a) same h.2) k.2

-- a log that is judged is judged on the trace, so its bytes are told where they have to be
judged-case : (left : Option (List ℕ)) (options : AuditOptions) (log : List ℕ) (p : ProgramTree) (a b : Outcome) → IsTraceTold left b → AuditsProgram left options log p a → AuditsProgram left options log p b → a ≡ b
judged-case left options log p a b reads h k =
    let bytes = reads (ap (λ (o : Outcome). o.reads_trace) k.2) in
    let g = reading_of p options in
    alike a b (judged_outcome k.0)
    (h.2 ∙ ap judged_outcome (one_judgement g bytes.0 log h.0 k.0
    (subst (λ (l : Option (List ℕ)). IsJudgementOf g l log h.0) bytes.1 h.1) (subst (λ (l : Option (List ℕ)). IsJudgementOf g l log k.0) bytes.1 k.1))) k.2

request-case : (request : Request) (words : List (List ℕ)) (f : Files) (before : Outside) (a b : Outcome) → IsWordList words request → before.files ≡ Some f → IsTraceTold before.left b → Does request before a → Does request before b → a ≡ b
request-case (Graph source placement) words f before a b asked told reads h k =
    let P : Option Files → Outcome → Type 0 = λ files o. Graphs files source placement.max_path o in
    load-case document.Source f source (λ bytes. AfterSource bytes (GraphsProgram placement.max_path)) a b
    (λ bytes x y. source-case bytes (GraphsProgram placement.max_path) a b (λ p scoped z w. program-case placement.max_path p a b scoped z w) x y)
    (subst (λ files. P files a) told h) (subst (λ files. P files b) told k)
request-case (Check source i c) words f before a b asked told reads h k =
    let P : Option Files → Outcome → Type 0 = λ files o. Checks files source i c o in
    three-case f source i c ChecksBytes a b (λ s x y u v. bytes-case s x y a b u v) (subst (λ files. P files a) told h) (subst (λ files. P files b) told k)
request-case (Budget source i c) words f before a b asked told reads h k =
    let P : Option Files → Outcome → Type 0 = λ files o. Budgets files source i c o in
    three-case f source i c BudgetsBytes a b (λ s x y u v. budget-bytes-case s x y a b u v) (subst (λ files. P files a) told h) (subst (λ files. P files b) told k)
request-case (Build source i c placement) words f before a b asked told reads h k =
    let P : Option Files → Outcome → Type 0 = λ files o. Builds files source i c (sizes_of placement) o in
    load-case document.Source f source (λ bytes. AfterSource bytes (BuildsProgram (sizes_of placement) i c)) a b
    (λ bytes x y. source-case bytes (BuildsProgram (sizes_of placement) i c) a b (λ p scoped z w. built-case (sizes_of placement) i c p a b scoped z w) x y)
    (subst (λ files. P files a) told h) (subst (λ files. P files b) told k)
request-case (Serve source placement policy) words f before a b asked told reads h k =
    let P : Option Files → Outcome → Type 0 = λ files o. Serves files before.left source (sizes_of placement) policy o in
    load-case document.Source f source (λ bytes. AfterSource bytes (ServesProgram before.left (sizes_of placement) policy)) a b
    (λ bytes x y. source-case bytes (ServesProgram before.left (sizes_of placement) policy) a b
    (λ p scoped z w. served-case before.left (sizes_of placement) policy p a b (serve-policy words source placement policy asked) (serve-pool words source placement policy asked) scoped reads z w) x y)
    (subst (λ files. P files a) told h) (subst (λ files. P files b) told k)
request-case (Run source i c policy) words f before a b asked told reads h k =
    let P : Option Files → Outcome → Type 0 = λ files o. Runs files before.left source i c policy o in
    three-case f source i c (RunsBytes before.left policy) a b (λ s x y u v. run-bytes-case before.left policy s x y a b (run-policy words source i c policy asked) reads u v)
    (subst (λ files. P files a) told h) (subst (λ files. P files b) told k)
request-case (Audit source log options) words f before a b asked told reads h k =
    let P : Option Files → Outcome → Type 0 = λ files o. Audits files before.left source log options o in
    load-case document.Source f source (λ bytes. AfterLoad document.Log (Some f) log (AuditsBytes before.left options bytes)) a b
    (λ bytes x y. load-case document.Log f log (AuditsBytes before.left options bytes) a b
    (λ text z w. source-case bytes (AuditsProgram before.left options text) a b (λ p scoped u v. judged-case before.left options text p a b reads u v) z w) x y)
    (subst (λ files. P files a) told h) (subst (λ files. P files b) told k)
request-case (Demo number) words f before a b asked told reads h k = demo-case number a b h k

pub due-case : (words : List (List ℕ)) (f : Files) (before : Outside) (a b : Outcome) → before.files ≡ Some f → IsTraceTold before.left b → IsDue words before a → IsDue words before b → a ≡ b
due-case words f before a b told reads h k =
    ⊎_elim
    (λ x. ⊎_elim
    (λ y. request-case y.0 words f before a b y.1 told reads (subst (λ (r : Request). Does r before a) (one_request words x.0 y.0 x.1 y.1) x.2) y.2)
    (λ y. absurd (y.0 x.0 x.1)) k)
    (λ x. ⊎_elim (λ y. absurd (x.0 y.0 y.1)) (λ y. alike a b (refusal cause.Usage) x.1 y.1) k)
    h

-- Exactly there.

pub not-risen : {P : Type 0} (old new : ℕ) → IsRisen old new → Stayed old new → P
not-risen old new risen stayed = let less = risen.rose stayed.1 in let same = stayed.0 in absurd (omega arith)

pub not-rose : {P : Type 0} (old new : ℕ) → Rose old new → Stayed old new → P
not-rose old new rose stayed = let less = rose stayed.1 in let same = stayed.0 in absurd (omega arith)

pub exact : (words : List (List ℕ)) (before after : Outside) (given : Result Outcome Fault) → IsDone (IsDue words before) before after given → IsExact (IsDue words) before after given
exact words before after (Ok o) h = λ none files outcome told reads due. due-case words files before o outcome told reads h.0 due
exact words before after (Err Read) h = λ none files outcome told reads due.
    ⊎_elim
    (λ x. ⊎_elim (λ y. let counted = y.1 in not-risen before.loads after.loads counted.loads none.loads) (λ y. let counted = y.1 in not-rose before.reads after.reads counted.reads none.reads) x)
    (λ x. let counted = x.4 in not-risen before.reads after.reads counted.reads none.reads) h
exact words before after (Err Write) h = λ none files outcome told reads due.
    ⊎_elim (λ x. let counted = x.1 in not-risen before.stores after.stores counted.stores none.stores) (λ x. let counted = x.1 in not-risen before.writes after.writes counted.writes none.writes) h.2
exact words before after (Err Memory) h = λ none files outcome told reads due. tt
