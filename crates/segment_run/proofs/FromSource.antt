-- What the law of the source gives a segment: no step is wrong, and its answer is what the source thread comes to next.
use Rattle.segment_run.proofs.Common.{◌≡◌, ℕ, ◌<◌, List, length, Option, Some, None, Ok, refl, sym, ap, ◌∙◌, subst, arith, length-map, Asks, Stops, moves, lowered, ProgramTree, IsWellScoped, IsValid, signature_of, Op, formed, entries, program_zeroes, AreGlobals, Frame, Local, LocalMove, Calls, Starts, NoRoom, Wrong, local_step, Checked, IsAtCall, IsResting, AtCall, Instr, instruction_at, CodeFacts-valid, CodeFacts, HasForm, AsksAt, IsSafeMove, StaysSafe, IsAtSpawn, IsAtAsk, IsEnd, IsSegment, WaitsBefore, Segment, AsksCall, WaitsAsSource, IsStepAsSource, RunsAsSource, fact_at, need_of, kind_of, Certificate, Image, Leads-comes}
use Rattle.cap_word.specs.Calls.{Call, Blocking, Immediate, Question, Finish, spawn_of}
use Rattle.cap_word.specs.declared.calls.Ask.{Ask}
use Rattle.cap_word.specs.declared.traps.TrapKind.{TrapKind}
use Rattle.c_mean.specs.Frames.{Running, Waiting}
use Rattle.c_mean.specs.Steps.{source_machine}
use Rattle.machine_world.specs.Local as local
use Rattle.segment_run.specs.Sources.{CallsNext, StopsNext, IsSourceAnswer}
use Rattle.segment_run.specs.declared.segments.Segment.TheVariants as answer
use Rattle.machine_meaning.proofs.SourceLaws as source

-- ---- safe steps

asks_at : (c : Checked) (code : List ℕ) (facts : CodeFacts c code) (l : Local) (question : local.Question) (call : Call) (f i : ℕ) (op : Op) (word : ℕ) (frames : List Frame) → IsAtCall c l.areas.pool l.core f i op word frames → AsksCall c op question call → AsksAt c l question
asks_at c code facts l question call f i (Op.Model site d n args) word frames at h =
    subst (AsksAt c l) (sym h.2) (site, n, d, args, record { function = f; operation = i; word = word; frames = frames; at = at })
asks_at c code facts l question call f i (Op.Spawn site d g x) word frames at h =
    let is = (facts.operation f i (Op.Spawn site d g x) at.frames_are.at.0 at.operation).formed in
    let within : g < length c.flat.functions = omega (arith, is.0, length-map c.flat.functions signature_of) in
    subst (AsksAt c l) (sym h.2) (site, g, x, d, within, record { function = f; operation = i; word = word; frames = frames; at = at }, refl, refl)
asks_at c code facts l question call f i _ word frames at h = absurd h

safe_move : (c : Checked) (code : List ℕ) → CodeFacts c code → (program : ProgramTree) (running : Running) (at : Local) (move : LocalMove) → IsStepAsSource c program running at move → IsSafeMove c at move
safe_move c code facts program running at (Asks question still) h = (let w = h.1.4 in asks_at c code facts at question h.1.1.call w.function w.operation w.op w.word w.frames w.rests w.same)
safe_move c code facts program running at (Stops NoRoom) h = h
safe_move c code facts program running at (Stops Wrong) h = h.3
safe_move c code facts program running at _ h = tt

pub stays_safe : (program : ProgramTree) (image : Image) (certificate : Certificate) (l : Local) → IsWellScoped program → IsValid (lowered program) image certificate → HasForm (record { flat = lowered program; certificate = certificate }) l
    → IsResting (record { flat = lowered program; certificate = certificate }) l.areas.pool l.core → (instruction_at image.code l.core.pc ≡ Ok Instr.Ecall → ⊥) → StaysSafe (record { flat = lowered program; certificate = certificate }) image.code l
stays_safe program image certificate l scoped valid form rests none =
    let c : Checked = record { flat = lowered program; certificate = certificate } in
    let facts = CodeFacts-valid (lowered program) image certificate (formed program image certificate scoped valid) (program_zeroes program scoped) valid in
    let run = source.runs program image certificate l scoped valid form rests (source.may_run program image certificate l scoped valid rests none) in
    record { safe = λ n after comes. let a = run.1.along n after comes in record { good = a.good; move = safe_move c image.code facts program run.0 after (local_step image.code after) a.step } }

-- ---- answers

module _ (program : ProgramTree) (image : Image) (certificate : Certificate) (scoped : IsWellScoped program) (valid : IsValid (lowered program) image certificate) (running : Running) where
  abbrev checked : Checked
  checked = record { flat = lowered program; certificate = certificate }

  -- a call by the question at its ECALL: a call of the package
  same_call : (op : Op) (asked call : Call) → AsksCall checked op (Calls asked) call → call ≡ asked
  same_call (Op.Model site d n args) asked call h = let e : Calls asked ≡ Calls call = h.2 in let same : asked ≡ call = cc in sym same
  same_call (Op.Spawn site d g x) asked call h = absurd (let e = h.2 in cc)
  same_call _ asked call h = absurd h

  -- the start of a thread
  same_start : (at : Local) (f i : ℕ) (op : Op) (word : ℕ) (frames : List Frame) (function argument need : ℕ) (call : Call) → IsAtCall checked at.areas.pool at.core f i op word frames → function < length (lowered program).functions
      → AsksCall checked op (Starts (fact_at certificate function).entry argument need) call → call ≡ spawn_of function argument
  same_start at f i (Op.Model site d n args) word frames function argument need call rests there h = absurd (let e = h.2 in cc)
  same_start at f i (Op.Spawn site d g x) word frames function argument need call rests there h =
      let facts = CodeFacts-valid (lowered program) image certificate (formed program image certificate scoped valid) (program_zeroes program scoped) valid in
      let is = (facts.operation f i (Op.Spawn site d g x) rests.frames_are.at.0 rests.operation).formed in
      let within : g < length (lowered program).functions = omega (arith, is.0, length-map (lowered program).functions signature_of) in
      let e : Starts (fact_at certificate function).entry argument need ≡ Starts (fact_at certificate g).entry h.0 (need_of (kind_of certificate (Op.Spawn site d g x))) = h.2 in
      let entry : (fact_at certificate function).entry ≡ (fact_at certificate g).entry = cc in
      let given : argument ≡ h.0 = cc in
      let same : function ≡ g = entries (lowered program) image certificate function g valid there within entry in
      h.1 ∙ (λ k. spawn_of (sym same k) (sym given k))
  same_start at f i _ word frames function argument need call rests there h = absurd h

  calls_next : (at after : Local) (question : local.Question) (asked : Question) (waiting : Waiting) (n : ℕ) (call : Call) → moves (source_machine program) n running ≡ Asks asked waiting → WaitsAsSource checked program at question asked waiting → asked.call ≡ call → after ≡ at
      → CallsNext checked program running call after
  calls_next at after question asked waiting n call comes w same stays = record {
    steps = n;
    globals = asked.globals;
    waiting = waiting;
    asks = comes ∙ ap (λ (c : Call). Asks (record { call = c; globals = asked.globals }) waiting) same;
    waits = subst (λ (l : Local). WaitsBefore checked program l waiting asked.globals) (sym stays)
        (record { stands = record { rests = AtCall w.function w.operation w.op w.word w.frames w.rests; stands = w.stands; globals_are = w.globals_are }; before = tt });
  }

  called_next : (at after : Local) (call : Call) → IsStepAsSource checked program running at (local_step image.code at) → local_step image.code at ≡ Asks (Calls call) at → after ≡ at → CallsNext checked program running call after
  called_next at after call step e stays =
      let h = subst (IsStepAsSource checked program running at) e step in
      calls_next at after (Calls call) h.1.1 h.1.2 h.1.0 call h.1.3 h.1.4 (same_call h.1.4.op call h.1.1.call h.1.4.same) stays

  started_next : (at after : Local) (function argument : ℕ) → IsStepAsSource checked program running at (local_step image.code at) → IsAtSpawn checked image.code at function argument → after ≡ at → CallsNext checked program running (spawn_of function argument) after
  started_next at after function argument step spawn stays =
      let need = need_of (kind_of certificate (Op.Spawn spawn.site spawn.place function spawn.variable)) in
      let h = subst (IsStepAsSource checked program running at) spawn.asks step in
      let w = h.1.4 in
      calls_next at after (Starts (fact_at certificate function).entry argument need) h.1.1 h.1.2 h.1.0 (spawn_of function argument) h.1.3 w
      (same_start at w.function w.operation w.op w.word w.frames function argument need h.1.1.call w.rests spawn.there w.same) stays

  asked_next : (at after : Local) (ask : Ask) → IsStepAsSource checked program running at (local_step image.code at) → IsAtAsk checked image.code at ask → after ≡ at → CallsNext checked program running (Immediate ask) after
  asked_next at after (Ask.Spawn function argument) step h stays = started_next at after function argument step h stays
  asked_next at after (Ask.Put value) step h stays = called_next at after (Immediate (Ask.Put value)) step h.asks stays
  asked_next at after (Ask.Give resource amount) step h stays = called_next at after (Immediate (Ask.Give resource amount)) step h.asks stays
  asked_next at after Ask.SelfNumber step h stays = called_next at after (Immediate Ask.SelfNumber) step h.asks stays

  stops_next : (after : Local) (n : ℕ) (finish : Finish) (trap : Option TrapKind) → moves (source_machine program) n running ≡ Stops finish → finish.trap ≡ trap → AreGlobals (lowered program) finish.globals after.areas.globals → StopsNext checked program running trap after
  stops_next after n finish trap comes same globals = record {
    steps = n;
    globals = finish.globals;
    stops = comes ∙ ap (λ (t : Option TrapKind). Stops (record { trap = t; globals = finish.globals })) same;
    globals_are = globals;
  }

  answered : (segment : Segment) (at after : Local) (left left_after : ℕ) → IsStepAsSource checked program running at (local_step image.code at) → IsEnd checked image.code segment at left after left_after → IsSourceAnswer checked program running segment after
  answered (answer.Blocks block) at after left left_after step h = called_next at after (Blocking block) step h.1.asks h.2
  answered (answer.Asks ask) at after left left_after step h = asked_next at after ask step h.1 h.2
  answered answer.Ends at after left left_after step h =
      let s = subst (IsStepAsSource checked program running at) h.0 step in stops_next after s.0 s.1 None s.2 s.3.0 s.3.1
  answered (answer.Traps kind) at after left left_after step h =
      let s = subst (IsStepAsSource checked program running at) h.1 step in
      stops_next after s.0 s.1 (Some kind) s.2 s.3.0 (subst (λ (l : Local). AreGlobals (lowered program) s.1.globals l.areas.globals) (sym h.2) s.3.1)
  answered _ at after left left_after step h = tt

  -- the answer of a segment is what the source thread comes to next
  pub source_answer : (segment : Segment) (before after : Local) (left left_after : ℕ) → RunsAsSource checked image.code program before running → IsSegment checked image.code segment before left after left_after → IsSourceAnswer checked program running segment after
  source_answer segment before after left left_after runs h =
      answered segment h.at after h.spare left_after (runs.along h.steps h.at (Leads-comes checked image.code h.steps before h.at h.leads)).step h.end
