-- A run that has enough chunks doesn't stop for want of one.
use Rattle.accepted_pairs.specs.Accepting.{accepted_tree}
use Rattle.log_laws.specs.Lives.{live}
use Rattle.log_laws.specs.Rooms.{roomy}
use Rattle.log_laws.proofs.LogLemmas.{IsReady, enough-at-stop, enough-in-new}
use Rattle.log_laws.proofs.RoomLemmas.{first_roomy}
use Rattle.capriccio_call.proofs.Common.{◌≡◌, ◌≢◌, ℕ, ◌*◌, ◌≤◌, List, [], Option, Some, Ok, Err, refl, sym, ap, subst, ◌∙◌, arith, inr, ⊎_elim, lowered, ProgramTree, IsWellScoped, Files, Request, Serve, Run, Build, Check, Graph, Demo, Audit, Budget, Policy, Options, IsLawfulLog, Setup, setting_of, start_areas, World, Setting, Entry, StopLine, IsLaidOut, Certificate, Image, Held, IsRunPolicy, sizes_of, serve-policy, serve-pool, run-policy, refusal, Outcome, Ran, Outside, IsLast, IsWorldOf, AfterLoad, AfterSource, AfterImage, AfterCertificate, IsUnbuilt, IsAccepted, RunsOn, RunsBytes, RunsPair, ServesProgram, Serves, Runs, policy_of, pool_bytes, setup_of, stop_status, plans-are-one, ShowsRun, IsDue, trace_text, IsAnswer}
use Rattle.cap_word.specs.declared.stops.Stop.TheVariants as cut
use Rattle.chunk_budget.specs.declared.budgets.Budget as budgets
use Rattle.chunk_budget.specs.Budgets.{IsBudget}
use Rattle.command_words.specs.declared.options.Policy.{Policy as RunOptions}
use Rattle.command_outcomes.specs.declared.documents.Document.TheVariants as document
use Rattle.command_outcomes.specs.declared.stops.Cause.TheVariants as cause
use Rattle.capriccio_call.specs.EnoughChunks.{AsksForRun, HasEnoughChunks, HasRoom, LivesWithin, RunsFiles, ServesSource, no_chunk}
use Rattle.capriccio_call.proofs.GoodRun.{of-due, status-told}
use Rattle.capriccio_call.proofs.OneCase.{IsWithinPool, in-range}
use Rattle.capriccio_call.proofs.OnePair.{pairs-are-one}
use Rattle.capriccio_call.proofs.OneRun.{IsInRange, areas-formed}
use Rattle.capriccio_call.proofs.OutcomeKinds.{IsFree, IsRunFor}
use Rattle.capriccio_call.proofs.ToldFiles.{certificate-read, does-asked, image-read, loaded, outcome-of, program-read}

-- ---- a run that came to its stop

-- an outcome is that of a run that came to this stop
record CameToStop (o : Outcome) : Type 0 where
  pub setup : Setup
  pub ready : IsReady setup
  pub trace : List ℕ
  pub entries : List Entry
  pub stop : StopLine
  pub end : World
  pub lawful : IsLawfulLog setup trace entries stop end
  pub status : o.status ≡ stop_status stop
  pub line : o.line ≡ []
  pub last : o.last ≡ Some (record { setup = setup; end = end })

ready : (g : Setup) → IsAccepted g → IsInRange g → IsReady g
ready g ok range = record { scoped = ok.scoped; valid = ok.valid; areas = areas-formed g ok range; fuel = range.fuel }

ran-to : (left : Option (List ℕ)) (g : Setup) (o : Outcome) → IsInRange g → RunsOn left g o → CameToStop o
ran-to left g o range h =
    let some = h.6 in
    record {
      setup = g;
      ready = ready g h.0 range;
      trace = some.bytes;
      entries = h.1;
      stop = h.2;
      end = h.3;
      lawful = some.run.lawful;
      status = ap (λ (x : Outcome). x.status) h.5;
      line = ap (λ (x : Outcome). x.line) h.5;
      last = ap (λ (x : Outcome). x.last) h.5;
    }

shown-to : (trace : List ℕ) (g : Setup) (o : Outcome) → IsInRange g → ShowsRun trace g o → CameToStop o
shown-to trace g o range h =
    let ran = h.4 in
    record {
      setup = g;
      ready = ready g h.0 range;
      trace = trace;
      entries = h.1;
      stop = h.2;
      end = h.3;
      lawful = ran.lawful;
      status = ap (λ (x : Outcome). x.status) h.5;
      line = ap (λ (x : Outcome). x.line) h.5;
      last = ap (λ (x : Outcome). x.last) h.5;
    }

-- what a request runs came to its stop
came : (request : Request) (left : Option (List ℕ)) (g : Setup) (o : Outcome) → IsRunFor request left g o → ((ran : Ran) → o.last ≡ Some ran → IsInRange ran.setup) → CameToStop o
came (Serve source placement policy) left g o h range = ran-to left g o (range (record { setup = g; end = h.3 }) (ap (λ (x : Outcome). x.last) h.5)) h
came (Run source image certificate policy) left g o h range = ran-to left g o (range (record { setup = g; end = h.3 }) (ap (λ (x : Outcome). x.last) h.5)) h
came (Demo number) left g o h range =
    let run = h.1 in
    shown-to (trace_text number) g o (range (record { setup = g; end = run.3 }) (ap (λ (x : Outcome). x.last) run.5)) run
came (Build source image certificate placement) left g o h range = absurd h
came (Check source image certificate) left g o h range = absurd h
came (Graph source placement) left g o h range = absurd h
came (Budget source image certificate) left g o h range = absurd h
came (Audit source log options) left g o h range = absurd h

-- ---- the stop

-- the stop is one for want of a chunk
record IsShort (line : StopLine) : Type 0 where
  pub thread : ℕ
  pub cost : ℕ
  pub free : ℕ
  pub is : line ≡ StopLine.Cut thread cut.NoChunk cost free

short : (line : StopLine) → stop_status line ≡ no_chunk → IsShort line
short StopLine.Done e = absurd (omega (arith, e))
short StopLine.Idle e = absurd (omega (arith, e))
short (StopLine.Trace line) e = absurd (omega (arith, e))
short (StopLine.Cut thread (cut.Trap kind) cost free) e = absurd (omega (arith, e))
short (StopLine.Cut thread cut.NoChunk cost free) e = record { thread = thread; cost = cost; free = free; is = refl }
short (StopLine.Cut thread cut.Fuel cost free) e = absurd (omega (arith, e))
short (StopLine.Cut thread cut.Threads cost free) e = absurd (omega (arith, e))

-- ---- by the world that is handed out

-- the world's pair, pool and threads are those of the run
of-world : (o : Outcome) (c : CameToStop o) (world : Held) (budget : budgets.Budget) (threads : ℕ) → IsWorldOf (record { setup = c.setup; end = c.end }) world →
    IsBudget (lowered (accepted_tree world.accepted)) world.accepted.certificate budget →
    threads * budget.per_thread ≤ roomy world.machine.areas.pool world.accepted.certificate.max_path → live world.setting world.machine ≤ threads → o.status ≢ no_chunk
of-world o c world budget threads is accepted room few e =
    let at = short c.stop (sym c.status ∙ e) in
    let lawful = subst (λ (line : StopLine). IsLawfulLog c.setup c.trace c.entries line c.end) at.is c.lawful in
    let budget_is = subst (λ (p : ProgramTree). IsBudget (lowered p) c.setup.certificate budget) is.program
    (subst (λ (certificate : Certificate). IsBudget (lowered (accepted_tree world.accepted)) certificate budget) is.certificate accepted) in
    let room_is = subst (λ (w : World). threads * budget.per_thread ≤ roomy w.areas.pool c.setup.certificate.max_path) is.machine
    (subst (λ (certificate : Certificate). threads * budget.per_thread ≤ roomy world.machine.areas.pool certificate.max_path) is.certificate room) in
    let few_is = subst (λ (w : World). live (setting_of c.setup) w ≤ threads) is.machine (subst (λ (s : Setting). live s world.machine ≤ threads) is.setting few) in
    enough-at-stop c.setup c.ready c.trace c.entries at.thread at.cost at.free c.end lawful budget threads budget_is room_is few_is

-- what was done is a run that came to the stop in the world that is handed out
handed : (words : List (List ℕ)) (before : Outside) (o : Outcome) (world : Held) → IsDue words before o → IsLast o.last (Some world) →
    (c : CameToStop o) × IsWorldOf (record { setup = c.setup; end = c.end }) world
handed words before o world due last =
    ⊎_elim
    (λ none. absurd (subst (λ (ran : Option Ran). IsLast ran (Some world)) none last))
    (λ x.
    let of_source = x.4 in
    let c = came x.0 before.left x.2 o x.3 (λ ran is. (of_source ran is).range) in
    (c, subst (λ (ran : Option Ran). IsLast ran (Some world)) c.last last))
    (of-due words before o due)

by-world : (words : List (List ℕ)) (before after : Outside) (err err' : Option (List ℕ)) (faults faults' : ℕ) (status : ℕ) (world : Held) (budget : budgets.Budget) (threads : ℕ) →
    IsAnswer words before after err err' faults faults' (Some world) status →
    IsBudget (lowered (accepted_tree world.accepted)) world.accepted.certificate budget →
    threads * budget.per_thread ≤ roomy world.machine.areas.pool world.accepted.certificate.max_path → live world.setting world.machine ≤ threads → status ≢ no_chunk
by-world words before after err err' faults faults' status world budget threads (Ok o, done, exact, told, last) accepted room few e =
    let found = handed words before o world done.0 last in
    let c = found.0 in
    of-world o c world budget threads found.1 accepted room few (sym (status-told o.status o.line err err' faults faults' status c.line told) ∙ e)
by-world words before after err err' faults faults' status world budget threads (Err fault, done, exact, told, last) accepted room few e = absurd last

-- ---- by the words, the files and the trace

-- an outcome of a refusal has another status
other-status : {P : Type 0} (o p : Outcome) → o ≡ p → o.status ≡ no_chunk → p.status ≢ no_chunk → P
other-status o p same e differs = absurd (differs (sym (ap (λ (x : Outcome). x.status) same) ∙ e))

-- what is due is the run of this pair under these options
pair-runs : (left : Option (List ℕ)) (options : RunOptions) (p : ProgramTree) (i : Image) (c : Certificate) (o : Outcome) → IsRunPolicy options → RunsPair left options p i c o → o.status ≡ no_chunk →
    RunsOn left (setup_of p i c options) o × IsInRange (setup_of p i c options)
pair-runs left options p i c o ranges h e =
    ⊎_elim
    (λ x. other-status o (refusal (cause.Rejected x.0 x.1 x.2)) x.4 e (λ wrong. omega (arith, wrong)))
    (λ x. ⊎_elim
    (λ y. other-status o (refusal (cause.Pool (pool_bytes options c))) y.1 e (λ wrong. omega (arith, wrong)))
    (λ y. (y.1, in-range options p i c ranges y.0)) x.1)
    h

unbuilt-other : {P : Type 0} (sizes : Options) (p : ProgramTree) (o : Outcome) → IsUnbuilt sizes p o → o.status ≡ no_chunk → P
unbuilt-other sizes p o h e =
    ⊎_elim (λ x. other-status o _ x.is e (λ wrong. omega (arith, wrong))) (λ x. other-status o (refusal (cause.Code x.1)) x.3 e (λ wrong. omega (arith, wrong))) h

laid-runs : (left : Option (List ℕ)) (sizes : Options) (options : RunOptions) (p : ProgramTree) (i : Image) (c : Certificate) (o : Outcome) → IsRunPolicy options → IsWithinPool options sizes.chunk → IsWellScoped p →
    IsLaidOut (lowered p) sizes i c → ServesProgram left sizes options p o → o.status ≡ no_chunk → RunsOn left (setup_of p i c options) o × IsInRange (setup_of p i c options)
laid-runs left sizes options p i c o ranges fits scoped laid h e =
    ⊎_elim
    (λ x. unbuilt-other sizes p o x e)
    (λ x.
    let is = laid.2 in
    let plans = plans-are-one p scoped sizes.max_path x.4.0 laid.0 x.4.1 laid.1 in
    let pairs = pairs-are-one (lowered p) sizes x.2 i x.3 c x.4 laid plans in
    let image : RunsOn left (setup_of p i x.3 options) o = subst (λ (image : Image). RunsOn left (setup_of p image x.3 options) o) pairs.0 x.5 in
    let runs : RunsOn left (setup_of p i c options) o = subst (λ (certificate : Certificate). RunsOn left (setup_of p i certificate options) o) pairs.1 image in
    (runs, in-range options p i c ranges (subst (IsWithinPool options) (sym is.chunk) fits)))
    h

-- the run under these options is the setup's
under : (left : Option (List ℕ)) (options : RunOptions) (g : Setup) (o : Outcome) → g.policy ≡ policy_of options → RunsOn left (setup_of g.program g.image g.certificate options) o × IsInRange (setup_of g.program g.image g.certificate options) →
    RunsOn left g o × IsInRange g
under left options g o same h = subst (λ (policy : Policy). RunsOn left (record g { policy = policy }) o × IsInRange (record g { policy = policy })) (sym same) h

files-run : (words : List (List ℕ)) (files : Files) (left : Option (List ℕ)) (g : Setup) (o : Outcome) (asks : RunsFiles words files g) →
    Runs (Some files) left asks.source_name asks.image_name asks.certificate_name asks.options o → o.status ≡ no_chunk → RunsOn left g o × IsInRange g
files-run words files left g o asks h e =
    let options = asks.options in
    let bytes = loaded document.Certificate files asks.certificate_name asks.certificate (RunsBytes left options asks.source asks.image) o asks.certificate_there
    (loaded document.Image files asks.image_name asks.image (λ image. AfterLoad document.Certificate (Some files) asks.certificate_name (RunsBytes left options asks.source image)) o asks.image_there
    (loaded document.Source files asks.source_name asks.source (λ source. AfterLoad document.Image (Some files) asks.image_name (λ image. AfterLoad document.Certificate (Some files) asks.certificate_name (RunsBytes left options source image))) o asks.source_there h)) in
    let pair = certificate-read asks.certificate g.certificate (λ c. RunsPair left options g.program g.image c) o asks.certificate_is
    (image-read asks.image g.image (λ i. AfterCertificate asks.certificate (λ c. RunsPair left options g.program i c)) o asks.image_is
    (program-read asks.source g.program (λ p. AfterImage asks.image (λ i. AfterCertificate asks.certificate (λ c. RunsPair left options p i c))) o asks.source_is bytes)) in
    under left options g o asks.policy_is
    (pair-runs left options g.program g.image g.certificate o (run-policy words asks.source_name asks.image_name asks.certificate_name options asks.asked) pair e)

source-served : (words : List (List ℕ)) (files : Files) (left : Option (List ℕ)) (g : Setup) (o : Outcome) (asks : ServesSource words files g) →
    Serves (Some files) left asks.source_name (sizes_of asks.placement) asks.options o → o.status ≡ no_chunk → RunsOn left g o × IsInRange g
source-served words files left g o asks h e =
    let options = asks.options in
    let sizes = sizes_of asks.placement in
    let is = asks.source_is in
    let program = program-read asks.source g.program (ServesProgram left sizes options) o is
    (loaded document.Source files asks.source_name asks.source (λ source. AfterSource source (ServesProgram left sizes options)) o asks.source_there h) in
    under left options g o asks.policy_is
    (laid-runs left sizes options g.program g.image g.certificate o (serve-policy words asks.source_name asks.placement options asks.asked) (serve-pool words asks.source_name asks.placement options asks.asked)
    is.scoped asks.laid_out program e)

asked-runs : (words : List (List ℕ)) (before : Outside) (g : Setup) (o : Outcome) → AsksForRun words before g → IsDue words before o → o.status ≡ no_chunk → RunsOn before.left g o × IsInRange g
asked-runs words before g o asks due e =
    ⊎_elim
    (λ r.
    let P : Option Files → Type 0 = λ files. Runs files before.left r.source_name r.image_name r.certificate_name r.options o in
    files-run words asks.files before.left g o r (subst P asks.files_told (does-asked words before (Run r.source_name r.image_name r.certificate_name r.options) o r.asked due)) e)
    (λ r.
    let P : Option Files → Type 0 = λ files. Serves files before.left r.source_name (sizes_of r.placement) r.options o in
    source-served words asks.files before.left g o r (subst P asks.files_told (does-asked words before (Serve r.source_name r.placement r.options) o r.asked due)) e)
    asks.run

-- the run has enough chunks
run-enough : (left : Option (List ℕ)) (g : Setup) (o : Outcome) (budget : budgets.Budget) (threads : ℕ) → RunsOn left g o → IsInRange g → IsBudget (lowered g.program) g.certificate budget → HasRoom g (threads * budget.per_thread) → LivesWithin left g threads →
    o.status ≢ no_chunk
run-enough left g o budget threads runs range accepted room few e =
    let some = runs.6 in
    let lawful = some.run.lawful in
    let ok = runs.0 in
    let at = short runs.2 (sym (ap (λ (x : Outcome). x.status) runs.5) ∙ e) in
    let log = subst (λ (line : StopLine). IsLawfulLog g some.bytes runs.1 line runs.3) at.is lawful in
    let first = first_roomy g ok.valid in
    let all : threads * budget.per_thread ≤ roomy (start_areas g).pool g.certificate.max_path =
    ⊎_elim (λ (h : threads * budget.per_thread ≤ g.policy.chunks). omega (arith, h, first)) (λ (h : threads * budget.per_thread ≤ roomy (start_areas g).pool g.certificate.max_path). h) room in
    enough-in-new g (ready g ok range) some.bytes runs.1 at.thread at.cost at.free runs.3 log budget threads accepted all (few some.bytes some.told runs.1 runs.2 runs.3 lawful)

by-words : (words : List (List ℕ)) (before after : Outside) (err err' : Option (List ℕ)) (faults faults' : ℕ) (last : Option Held) (status : ℕ) (g : Setup) (budget : budgets.Budget) (threads : ℕ) →
    IsAnswer words before after err err' faults faults' last status → AsksForRun words before g → IsBudget (lowered g.program) g.certificate budget →
    HasRoom g (threads * budget.per_thread) → LivesWithin before.left g threads → status ≢ no_chunk
by-words words before after err err' faults faults' last status g budget threads answer asks accepted room few e =
    let found = outcome-of words before after err err' faults faults' last status answer (subst IsFree (sym e) (inr (omega arith))) in
    let is = found.2 ∙ e in
    let runs = asked-runs words before g found.0 asks found.1 is in
    run-enough before.left g found.0 budget threads runs.0 runs.1 accepted room few is

-- ---- the clause

pub enough : (words : List (List ℕ)) (before after : Outside) (err err' : Option (List ℕ)) (faults faults' : ℕ) (last : Option Held) (status : ℕ) → IsAnswer words before after err err' faults faults' last status → HasEnoughChunks words before last status
enough words before after err err' faults faults' last status answer = record {
  asked = λ g budget threads asks accepted room few. by-words words before after err err' faults faults' last status g budget threads answer asks accepted room few;
  ran = λ world budget threads is accepted room few.
      let same : IsAnswer words before after err err' faults faults' (Some world) status = subst (λ (handed : Option Held). IsAnswer words before after err err' faults faults' handed status) is answer in
      by-world words before after err err' faults faults' status world budget threads same accepted room few;
}
