-- What is due of a run with what comes before it: the loads, the readers, the checks.
use Rattle.pair_commands.proofs.Common.{◌≡◌, ℕ, ◌≤◌, List, Option, Result, Ok, Err, refl, sym, subst, inl, inr, MatchResult, ProgramTree, lowered, program_tree, Program, accepted_tree, IsRefusalOf, CheckError, Acceptance, Options, IsLaidOut, Image, Certificate, Stop, Outcome, HasFittingCode, HasFittingFrames, AfterLoad, AfterThree, RunsOn, RunsPair, ServesProgram, pool_bytes, setup_of, LeadsOn, IsUnaccepted, IsStop, IsShelfStop, loaded, of-three, stop-on-shelf}
use Rattle.cap_io.specs.Files.{Files}
use Rattle.certificate_check.specs.declared.checking.CheckError.TheVariants as checking
use Rattle.command_words.specs.declared.options.Policy.{Policy as RunOptions}
use Rattle.command_outcomes.specs.declared.documents.Document.{Document}
use Rattle.command_files.specs.declared.loading.LoadedFiles.{LoadedFiles}
use Rattle.command_files.specs.Loaded.{IsLoaded}
use Rattle.command_files.specs.Loaded.{AreLoaded}

-- Loads.

-- a pair is accepted after a load, over its bytes
pub leads-after-load : (Q : Acceptance → Type 0) (trace : Option (List ℕ)) (policy : RunOptions) (document : Document) (files : Option Files) (name bytes : List ℕ) (next : List ℕ → Outcome → Type 0) (old new : ℕ) (r : Result Acceptance Stop) →
    IsLoaded document files name bytes → new ≡ old → MatchResult r (λ accepted. LeadsOn trace policy accepted (next bytes) × Q accepted) (IsStop (next bytes)) →
    MatchResult r (λ accepted. LeadsOn trace policy accepted (AfterLoad document files name next) × Q accepted × (new ≡ old)) (IsShelfStop (AfterLoad document files name next) old new)
leads-after-load Q trace policy document files name bytes next old new (Ok accepted) is same h = ((λ o runs. loaded document files name bytes next o is (h.0 o runs)), h.1, same)
leads-after-load Q trace policy document files name bytes next old new (Err stop) is same h =
    stop-on-shelf (next bytes) (AfterLoad document files name next) old new stop (λ o. loaded document files name bytes next o is) same h

-- a pair is accepted after the three loads, over their bytes
pub leads-after-three : (Q : Acceptance → Type 0) (trace : Option (List ℕ)) (policy : RunOptions) (files : Option Files) (s i c : List ℕ) (old new : ℕ) (l : LoadedFiles) (next : List ℕ → List ℕ → List ℕ → Outcome → Type 0) (r : Result Acceptance Stop) →
    AreLoaded files s i c old new (Ok l) → MatchResult r (λ accepted. LeadsOn trace policy accepted (next l.source.items l.image.items l.certificate.items) × Q accepted) (IsStop (next l.source.items l.image.items l.certificate.items)) →
    MatchResult r (λ accepted. LeadsOn trace policy accepted (AfterThree files s i c next) × Q accepted × (new ≡ old)) (IsShelfStop (AfterThree files s i c next) old new)
leads-after-three Q trace policy files s i c old new l next (Ok accepted) h k =
    ((λ o runs. of-three files s i c l.source.items l.image.items l.certificate.items next o h.0 h.1 h.2 (k.0 o runs)), k.1, h.3)
leads-after-three Q trace policy files s i c old new l next (Err stop) h k =
    stop-on-shelf (next l.source.items l.image.items l.certificate.items) (AfterThree files s i c next) old new stop (λ o. of-three files s i c l.source.items l.image.items l.certificate.items next o h.0 h.1 h.2) h.3 k

-- Checks.

-- what is run of an accepted pair is run of the three that were handed in
pub runs-of : (trace : Option (List ℕ)) (policy : RunOptions) (accepted : Acceptance) (p : ProgramTree) (i : Image) (c : Certificate) (o : Outcome) → accepted_tree accepted ≡ p → accepted.image ≡ i → accepted.certificate ≡ c →
    RunsOn trace (setup_of (accepted_tree accepted) accepted.image accepted.certificate policy) o → RunsOn trace (setup_of p i c policy) o
runs-of trace policy accepted p i c o program image certificate h =
    let first = subst (λ (x : ProgramTree). RunsOn trace (setup_of x accepted.image accepted.certificate policy) o) program h in
    let second = subst (λ (x : Image). RunsOn trace (setup_of p x accepted.certificate policy) o) image first in
    subst (λ (x : Certificate). RunsOn trace (setup_of p i x policy) o) certificate second

-- what is answered of an accepted pair is answered of the three that were handed in
abbrev IsPairAnswer : Option (List ℕ) → RunOptions → ProgramTree → Image → Certificate → Result Acceptance Stop → Type 0
IsPairAnswer trace policy p i c r = MatchResult r (λ within. LeadsOn trace policy within (RunsPair trace policy p i c) × (pool_bytes policy within.certificate ≤ 67108864)) (IsStop (RunsPair trace policy p i c))

pub pair-of : (trace : Option (List ℕ)) (policy : RunOptions) (accepted : Acceptance) (p : ProgramTree) (i : Image) (c : Certificate) (r : Result Acceptance Stop) → accepted_tree accepted ≡ p → accepted.image ≡ i → accepted.certificate ≡ c →
    IsPairAnswer trace policy (accepted_tree accepted) accepted.image accepted.certificate r → IsPairAnswer trace policy p i c r
pair-of trace policy accepted p i c r program image certificate h =
    let first = subst (λ (x : ProgramTree). IsPairAnswer trace policy x accepted.image accepted.certificate r) program h in
    let second = subst (λ (x : Image). IsPairAnswer trace policy p x accepted.certificate r) image first in
    subst (λ (x : Certificate). IsPairAnswer trace policy p i x r) certificate second

-- a pair that isn't accepted
pub unaccepted : (trace : Option (List ℕ)) (policy : RunOptions) (p : Program) (i : Image) (c : Certificate) (error : CheckError) (stop : Stop) → IsRefusalOf p i c error → IsUnaccepted error stop → IsStop (RunsPair trace policy (program_tree p) i c) stop
unaccepted trace policy p i c (checking.Rejected rule function index back i' c') stop h is =
    subst (IsStop (RunsPair trace policy (program_tree p) i c)) (sym is) (inl (rule, function, index, h.1, refl))
unaccepted trace policy p i c (checking.Memory back i' c') stop h is = subst (IsStop (RunsPair trace policy (program_tree p) i c)) (sym is) tt

-- a pair that is laid out runs
pub laid-out-leads : (trace : Option (List ℕ)) (sizes : Options) (policy : RunOptions) (accepted : Acceptance) (p : ProgramTree) (i : Image) (c : Certificate) → accepted_tree accepted ≡ p → accepted.image ≡ i → accepted.certificate ≡ c →
    HasFittingFrames p sizes.max_path → HasFittingCode p sizes → IsLaidOut (lowered p) sizes i c → LeadsOn trace policy accepted (ServesProgram trace sizes policy p)
laid-out-leads trace sizes policy accepted p i c program image certificate frames code laid = λ o runs.
    inr (frames, code, i, c, laid, runs-of trace policy accepted p i c o program image certificate runs)

-- its chunks are those that the words ask for
pub laid-out-chunk : (sizes : Options) (accepted : Acceptance) (p : ProgramTree) (i : Image) (c : Certificate) → accepted.certificate ≡ c → IsLaidOut (lowered p) sizes i c → accepted.certificate.chunk ≡ sizes.chunk
laid-out-chunk sizes accepted p i c certificate laid = let is = laid.2 in subst (λ (x : Certificate). x.chunk ≡ sizes.chunk) (sym certificate) is.chunk
