-- A thread at rest, at a function's first word or just behind an ECALL: good steps lead to where it stands for the flat thread
-- that runs on.
use Rattle.segment_laws.proofs.Common.{◌≡◌, ℕ, zero, suc, ◌+◌, ◌<◌, List, [], ◌∷◌, length, Option, Some, None, slice_get, refl, sym, ap, subst, ◌∙◌, arith, payload_place_of, read, Op, FlatCode, function_at, operation_at, result_place, FlatFrame, FlatThread, standing, with_result, place_in, Image, size, result_size, kind_of, Certificate, LinkKind, IsValid, AreGlobals, Frame, IsStack, FramesAt, TpIsFront, HasFrames, a0, Local, Checked, Place, InPrologue, IsAt, Whole, Empty, row_in, IsResting, AtStart, AtCall, PastCall, ecall_word, IsPastCall, IsFlatStart, AreFlatFrames, AreFlatPast, StandsForFlat, CallFacts, EntryFacts, Arrives, FollowsAsks, MayRun, running_on}
use Rattle.segment_laws.proofs.Entering.{Entered, enters}
use Rattle.segment_laws.proofs.Standing.{Standing}
use Rattle.segment_laws.proofs.Facts.{CodeFacts}
use Rattle.segment_laws.proofs.Simulation.{Reaches}
use Rattle.segment_laws.proofs.Ways.{HasForm}
use Rattle.segment_laws.proofs.Past.{behind, function_of_op, past_arrives}

-- ---- an operation that asks

pub record AskShape (op : Op) (word : ℕ) : Type 0 where
  pub size_is : (sizes : List ℕ) (kind : LinkKind) → size sizes kind op ≡ word + 1 + result_size (result_place op)
  pub whole : (kind : LinkKind) (w : ℕ) → row_in kind w op ≡ Whole

abbrev no_word : Option ℕ
no_word = None

abbrev some_word : ℕ → Option ℕ
some_word n = Some n

pub ask_shape : (op : Op) (word : ℕ) → ecall_word op ≡ Some word → AskShape op word
ask_shape (Op.Model site d n args) word e =
    let word_is : length args + 1 ≡ word = (let same : some_word (length args + 1) ≡ Some word = e in cc) in
    record { size_is = λ sizes kind. omega (arith, word_is); whole = λ kind w. refl }
ask_shape (Op.Spawn site d g x) word e =
    let word_is : 6 ≡ word = (let same : some_word 6 ≡ Some word = e in cc) in
    record { size_is = λ sizes kind. omega (arith, word_is); whole = λ kind w. refl }
ask_shape _ word e = absurd (let same : no_word ≡ Some word = e in cc)

-- the operation behind one that asks
pub some_at : {A : Type 0} (xs : List A) (i : ℕ) → i < length xs → (x : A) × (slice_get xs i ≡ Some x)
some_at [] i lt = absurd (omega arith)
some_at (x ∷ xs) zero lt = (x, refl)
some_at (x ∷ xs) (suc i) lt = some_at xs i (omega arith)

-- ---- at a function's first word

empty_thread : (c : Checked) (l : Local) (f : ℕ) (chain : List ℕ) (frame : Frame) (below : List Frame) → HasForm c l → HasFrames c l.areas.pool l.core (InPrologue f 0) (frame ∷ below) → l.core.chain ≡ chain → FramesAt c l.areas.pool l.core (InPrologue f 0) Empty chain (frame ∷ below) →
    TpIsFront l.areas.pool l.core chain → Standing c l (InPrologue frame.function 0) Empty frame below
empty_thread c l f [] frame below form has chain_is at front = absurd at
empty_thread c l f (chunk ∷ chain) frame below form has chain_is at front =
    let running = at.0 in
    let function : frame.function ≡ f = running.function in
    let chunk_is : frame.chunk ≡ chunk = running.chunk_is in
    record {
      form = form;
      at = subst (λ (g : ℕ). IsAt c l.core.pc (InPrologue g 0)) (sym function) has.at;
      row_is = refl;
      sp_is = sym running.low_is;
      tp_is = front ∙ ap (payload_place_of l.areas.pool) (sym chunk_is);
      front = record { rest = chain; is = chain_is ∙ ap (λ (k : ℕ). k ∷ chain) (sym chunk_is) };
      function = refl;
      operation = running.operation;
      holds = (running.bytes_are, running.returns_are);
      stack = subst (λ (ch : List ℕ). IsStack c l.areas.pool ch frame below) (sym chain_is) at.1;
      headers = has.headers;
    }

arrives_by : (c : Checked) (code : List ℕ) (l : Local) (t : FlatThread) → Reaches c code l t → Arrives c code l t
arrives_by c code l t reaches = record { steps = suc reaches.steps; after = reaches.after; leads = reaches.leads; simulates = reaches.simulates }

start_arrives : (c : Checked) (code : List ℕ) (l : Local) (f : ℕ) (frame : Frame) (below : List Frame) (t : FlatThread) → CodeFacts c code → CallFacts c → HasForm c l → HasFrames c l.areas.pool l.core (InPrologue f 0) (frame ∷ below) → IsFlatStart c l.core frame t.frame →
    AreFlatFrames c l.areas.pool below t.below → AreGlobals c.flat t.globals l.areas.globals → Arrives c code l t
start_arrives c code l f frame below t facts calls form has start flats globals =
    let standing = empty_thread c l f l.core.chain frame below form has refl has.frames_are has.front in
    let entry : EntryFacts c frame.function = calls.entries frame.function standing.at.0 in
    let entered : Entered c l frame below start.arguments t.below t.globals = record {
      standing = standing;
      count = start.count;
      arguments_in = λ k lt. sym (start.registers k lt);
      flats_are = flats;
      globals_are = globals;
    } in
    arrives_by c code l t
    (subst (λ (g : FlatFrame). Reaches c code l (record { frame = g; below = t.below; globals = t.globals })) (sym start.pushed_so) (enters c code l frame below start.arguments t.below t.globals facts entry entered))

-- ---- just behind an ECALL

past_runs : (flat : FlatCode) (image : Image) (certificate : Certificate) (l : Local) (f i word : ℕ) (op : Op) (place : Place) (frames : List Frame) (t : FlatThread) → CodeFacts (record { flat = flat; certificate = certificate }) image.code → IsValid flat image certificate → FollowsAsks flat →
    HasForm (record { flat = flat; certificate = certificate }) l → IsPastCall (record { flat = flat; certificate = certificate }) l.areas.pool l.core f i op word place frames → AreFlatPast (record { flat = flat; certificate = certificate }) l.areas.pool i frames (t.frame ∷ t.below) →
    AreGlobals flat t.globals l.areas.globals →
    Arrives (record { flat = flat; certificate = certificate }) image.code l (record t { frame = with_result t.frame (place_in (standing flat t.frame)) (read l.core.x a0) })
past_runs flat image certificate l f i word op place frames t facts valid follows form past stands globals =
    let c : Checked = record { flat = flat; certificate = certificate } in
    let there = function_of_op flat f i op past.operation in
    let next = some_at (function_at flat f).ops (i + 1) (follows f i word op there past.operation past.ecall) in
    let shape = ask_shape op word past.ecall in
    let within = behind flat image certificate l f i word op next.0 (result_place op) place frames t facts valid form past next.1 (shape.size_is (function_at flat f).sizes (kind_of certificate op)) (shape.whole (kind_of certificate op)) stands globals in
    let stands_at : standing flat t.frame ≡ Some op = sym (λ k. operation_at flat (within.function k) (within.next k)) ∙ past.operation in
    subst (λ (d : Option ℕ). Arrives c image.code l (record t { frame = with_result t.frame d (read l.core.x a0) })) (sym (ap place_in stands_at))
    (past_arrives flat image certificate l f i word (read l.core.x a0) op next.0 place frames t facts valid form past next.1 stands globals refl)

-- ---- both

pub rest_arrives : (flat : FlatCode) (image : Image) (certificate : Certificate) (l : Local) (t : FlatThread) → CodeFacts (record { flat = flat; certificate = certificate }) image.code → CallFacts (record { flat = flat; certificate = certificate }) → IsValid flat image certificate → FollowsAsks flat →
    HasForm (record { flat = flat; certificate = certificate }) l → (rests : IsResting (record { flat = flat; certificate = certificate }) l.areas.pool l.core) → MayRun (record { flat = flat; certificate = certificate }) l.areas.pool l.core rests →
    StandsForFlat (record { flat = flat; certificate = certificate }) l.areas.pool l.core rests (t.frame ∷ t.below) → AreGlobals flat t.globals l.areas.globals →
    Arrives (record { flat = flat; certificate = certificate }) image.code l (running_on (record { flat = flat; certificate = certificate }) l.areas.pool l.core rests t)
rest_arrives flat image certificate l t facts calls valid follows form (AtStart f [] has) may stands globals = absurd stands
rest_arrives flat image certificate l t facts calls valid follows form (AtStart f (frame ∷ below) has) may stands globals =
    start_arrives (record { flat = flat; certificate = certificate }) image.code l f frame below t facts calls form has stands.0 stands.1 globals
rest_arrives flat image certificate l t facts calls valid follows form (AtCall f i op word frames at) may stands globals = absurd may
rest_arrives flat image certificate l t facts calls valid follows form (PastCall f i op word place frames past) may stands globals =
    past_runs flat image certificate l f i word op place frames t facts valid follows form past stands globals
