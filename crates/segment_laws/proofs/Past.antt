-- A thread just behind the ECALL at which a flat thread waits stands within that operation.
use Rattle.segment_laws.proofs.Common.{◌≡◌, ℕ, ◌+◌, ◌*◌, ◌<◌, ◌≤◌, Bool, false, List, [], ◌∷◌, length, get_or, Option, Some, None, refl, sym, ap, subst, ◌∙◌, arith, cond, slice_get, ⊎_elim, ◌||◌, ne_eqb, cases_lt, get_or_past, FlatFunction, Pool, payload_place_of, read, FlatCode, function_at, operation_at, result_place, FlatThread, standing, with_result, Op, BinOp, Image, begin, size, transfer_size, result_size, kind_of, Certificate, LinkKind, IsValid, AreGlobals, Frame, frame_bytes, return_word, IsRunning, IsStack, FramesAt, HeadersName, TpIsFront, HasFrames, sp, tp, a0, Core, Local, Checked, Place, InOperation, IsAt, Row, Whole, Linking, is_linking, row_in, row_at, size_in, IsPastCall, AreFlatPast, Arrives, CodeFacts, HasForm}
use Rattle.segment_laws.specs.Simulation.{IsFront, During}
use Rattle.segment_laws.proofs.AskSteps.{answered, started}
use Rattle.segment_laws.proofs.Finish.{frame_at}
use Rattle.segment_laws.proofs.Stacks.{IsStack-operation}
use Rattle.segment_laws.proofs.OnePlace.{one_place}

-- ---- the first word of an operation

not_linking : (kind : LinkKind) (n : ℕ) → is_linking kind n 0 ≡ false
not_linking (LinkKind.Linked need) n =
    (λ i. ne_eqb 0 (n + 8) (λ e. omega arith) i || ne_eqb 0 (n + 9) (λ e. omega arith) i || ne_eqb 0 (n + 10) (λ e. omega arith) i)
not_linking _ n = refl

abbrev row_or : Bool → Row
row_or b = cond b Linking Whole

-- the frame is whole there
pub row_first : (kind : LinkKind) (op : Op) → row_in kind 0 op ≡ Whole
row_first kind (Op.Return None) = refl
row_first kind (Op.Return (Some s)) = refl
row_first kind (Op.Call site d f args) = ap (λ (b : Bool). row_or b) (not_linking kind (length args))
row_first kind (Op.CallTable site d t i s) = ap (λ (b : Bool). row_or b) (not_linking kind 13)
row_first kind (Op.Const d value) = refl
row_first kind (Op.Copy d s) = refl
row_first kind (Op.Neg d s) = refl
row_first kind (Op.Not d s) = refl
row_first kind (Op.Flip d s) = refl
row_first kind (Op.Bin op d a b) = refl
row_first kind (Op.Zero a) = refl
row_first kind (Op.LoadGlobal d g) = refl
row_first kind (Op.StoreGlobal g s) = refl
row_first kind (Op.LoadLocal d a i) = refl
row_first kind (Op.LoadArray d a i) = refl
row_first kind (Op.StoreLocal a i s) = refl
row_first kind (Op.StoreArray a i s) = refl
row_first kind (Op.Jump to) = refl
row_first kind (Op.JumpZero s to) = refl
row_first kind (Op.Model site d n args) = refl
row_first kind (Op.Spawn site d f s) = refl

-- ---- the frames of a thread at a place with a whole frame

-- what such a thread has
record IsWholeThread (c : Checked) (pool : Pool) (core : Core) (place : Place) (frame : Frame) (below : List Frame) (chain : List ℕ) : Type 0 where
  front : IsFront chain frame.chunk
  running : IsRunning place core frame.chunk (read core.x sp) (frame_bytes c frame.function) (return_word c pool frame.function frame.chunk (read core.x sp)) frame
  stack : IsStack c pool chain frame below

whole_thread : (c : Checked) (pool : Pool) (core : Core) (f i w : ℕ) (chain : List ℕ) (frame : Frame) (below : List Frame) → FramesAt c pool core (InOperation f i w) Whole chain (frame ∷ below) → IsWholeThread c pool core (InOperation f i w) frame below chain
whole_thread c pool core f i w [] frame below at = absurd at
whole_thread c pool core f i w (chunk ∷ chain) frame below at =
    let chunk_is : frame.chunk ≡ chunk = at.0.chunk_is in
    let function : frame.function ≡ f = at.0.function in
    record {
      front = record { rest = chain; is = ap (λ (k : ℕ). k ∷ chain) (sym chunk_is) };
      running = record {
        function = at.0.function;
        operation = at.0.operation;
        chunk_is = refl;
        low_is = at.0.low_is;
        bytes_are = at.0.bytes_are ∙ ap (frame_bytes c) (sym function);
        returns_are = at.0.returns_are ∙ sym (λ j. return_word c pool (function j) (chunk_is j) (read core.x sp));
      };
      stack = at.1;
    }

tp_is_front : (l : Local) (chain : List ℕ) (chunk : ℕ) → IsFront chain chunk → TpIsFront l.areas.pool l.core chain → read l.core.x tp ≡ payload_place_of l.areas.pool chunk
tp_is_front l [] chunk front is = absurd is
tp_is_front l (k ∷ chain) chunk front is = is ∙ (let same : k ≡ chunk = (let e : k ∷ chain ≡ chunk ∷ front.rest = front.is in cc) in ap (payload_place_of l.areas.pool) same)

-- ---- just behind an ECALL

-- the thread is within the operation, behind its ECALL
pub record IsWithin (c : Checked) (l : Local) (t : FlatThread) (f i w : ℕ) : Type 0 where
  pub frame : Frame
  pub below : List Frame
  pub during : During c l t w frame below
  pub function : f ≡ t.frame.function
  pub next : i ≡ t.frame.next

-- at a place with a whole frame, whose pc is behind the ECALL of the operation at which the flat frame waits
within_at : (c : Checked) (l : Local) (f i j v w : ℕ) (frames : List Frame) (t : FlatThread) → HasForm c l → IsAt c l.core.pc (InOperation f j v) → FramesAt c l.areas.pool l.core (InOperation f j v) Whole l.core.chain frames → TpIsFront l.areas.pool l.core l.core.chain → HeadersName l.areas.pool l.core.chain →
    l.core.pc ≡ begin c.flat c.certificate f i + 4 * w → AreFlatPast c l.areas.pool i frames (t.frame ∷ t.below) → AreGlobals c.flat t.globals l.areas.globals → IsWithin c l t f i w
within_at c l f i j v w [] t form at frames tp_front headers pc stands globals = absurd stands
within_at c l f i j v w (frame ∷ below) t form at frames tp_front headers pc stands globals =
    let is = whole_thread c l.areas.pool l.core f j v l.core.chain frame below frames in
    let past = stands.0 in
    let function : frame.function ≡ t.frame.function = past.function in
    let f_is : f ≡ t.frame.function = sym is.running.function ∙ function in
    let i_is : i ≡ t.frame.next = sym past.operation in
    let new : Frame = frame_at frame t.frame.next in
    record {
      frame = new;
      below = below;
      during = record {
        inside = record {
          form = form;
          pc = pc ∙ (λ k. begin c.flat c.certificate (f_is k) (i_is k) + 4 * w);
          sp_is = sym is.running.low_is;
          tp_is = tp_is_front l l.core.chain frame.chunk is.front tp_front;
          front = is.front;
          body = record {
            function = function;
            operation = refl;
            bytes = is.running.bytes_are ∙ ap (frame_bytes c) function;
            returns = is.running.returns_are ∙ (let low = is.running.low_is in (λ k. return_word c l.areas.pool (function k) frame.chunk (sym low k)));
          };
          stack = IsStack-operation c l.areas.pool l.core.chain frame below t.frame.next is.stack;
          headers = headers;
        };
        shape = past.shape;
        variables = past.variables;
        flats = stands.1;
        globals = globals;
      };
      function = f_is;
      next = i_is;
    }

-- where the place is known
within_place : (flat : FlatCode) (image : Image) (certificate : Certificate) (l : Local) (f i j v word : ℕ) (op : Op) (place : Place) (frames : List Frame) (t : FlatThread) → IsValid flat image certificate → HasForm (record { flat = flat; certificate = certificate }) l →
    IsPastCall (record { flat = flat; certificate = certificate }) l.areas.pool l.core f i op word place frames → IsAt (record { flat = flat; certificate = certificate }) l.core.pc (InOperation f j v) → row_at certificate v (operation_at flat f j) ≡ Whole →
    AreFlatPast (record { flat = flat; certificate = certificate }) l.areas.pool i frames (t.frame ∷ t.below) → AreGlobals flat t.globals l.areas.globals → IsWithin (record { flat = flat; certificate = certificate }) l t f i (word + 1)
within_place flat image certificate l f i j v word op place frames t valid form past at row stands globals =
    let c : Checked = record { flat = flat; certificate = certificate } in
    let same : place ≡ InOperation f j v = one_place flat image certificate l.core.pc place (InOperation f j v) valid past.frames_are.at at in
    let has : HasFrames c l.areas.pool l.core (InOperation f j v) frames = subst (λ (p : Place). HasFrames c l.areas.pool l.core p frames) same past.frames_are in
    within_at c l f i j v (word + 1) frames t form at
    (subst (λ (r : Row). FramesAt c l.areas.pool l.core (InOperation f j v) r l.core.chain frames) row has.frames_are) has.front has.headers past.pc stands globals

-- each operation has a word
middle_some : (op : BinOp) (n : ℕ) → 0 < 3 + n
middle_some op n = omega arith

transfer_some : (kind : LinkKind) → 0 < transfer_size kind
transfer_some LinkKind.Plain = omega arith
transfer_some _ = omega arith

pub size_some : (sizes : List ℕ) (kind : LinkKind) (op : Op) → ((a : ℕ) → op ≡ Op.Zero a → 0 < get_or sizes a 0) → 0 < size sizes kind op
size_some sizes kind (Op.Zero a) zeroes = zeroes a refl
size_some sizes kind (Op.Call site d f args) zeroes = omega (arith, transfer_some kind)
size_some sizes kind (Op.Return None) zeroes = omega arith
size_some sizes kind (Op.Return (Some s)) zeroes = omega arith
size_some sizes kind (Op.Const d value) zeroes = omega arith
size_some sizes kind (Op.Copy d s) zeroes = omega arith
size_some sizes kind (Op.Neg d s) zeroes = omega arith
size_some sizes kind (Op.Not d s) zeroes = omega arith
size_some sizes kind (Op.Flip d s) zeroes = omega arith
size_some sizes kind (Op.Bin op d a b) zeroes = middle_some op _
size_some sizes kind (Op.LoadGlobal d g) zeroes = omega arith
size_some sizes kind (Op.StoreGlobal g s) zeroes = omega arith
size_some sizes kind (Op.LoadLocal d a i) zeroes = omega arith
size_some sizes kind (Op.LoadArray d a i) zeroes = omega arith
size_some sizes kind (Op.StoreLocal a i s) zeroes = omega arith
size_some sizes kind (Op.StoreArray a i s) zeroes = omega arith
size_some sizes kind (Op.Jump to) zeroes = omega arith
size_some sizes kind (Op.JumpZero s to) zeroes = omega arith
size_some sizes kind (Op.CallTable site d t i s) zeroes = omega arith
size_some sizes kind (Op.Model site d n args) zeroes = omega arith
size_some sizes kind (Op.Spawn site d f s) zeroes = omega arith

abbrev no_op : Option Op
no_op = None

-- a function with an operation is there
pub function_of_op : (flat : FlatCode) (f i : ℕ) (op : Op) → operation_at flat f i ≡ Some op → f < length flat.functions
function_of_op flat f i op is = ⊎_elim (λ (within : f < length flat.functions). within)
    (λ (past : length flat.functions ≤ f). absurd (let none : function_at flat f ≡ record { params = 0; gives = false; sizes = []; ops = [] } = get_or_past flat.functions f _ past in
    let e : no_op ≡ Some op = sym (ap (λ (g : FlatFunction). slice_get g.ops i) none) ∙ is in cc))
    (cases_lt f (length flat.functions))

-- the words of an operation that asks: a place for the result behind the ECALL, or the next operation's first word
pub behind : (flat : FlatCode) (image : Image) (certificate : Certificate) (l : Local) (f i word : ℕ) (op next : Op) (d : Option ℕ) (place : Place) (frames : List Frame) (t : FlatThread) → CodeFacts (record { flat = flat; certificate = certificate }) image.code → IsValid flat image certificate → HasForm (record { flat = flat; certificate = certificate }) l →
    IsPastCall (record { flat = flat; certificate = certificate }) l.areas.pool l.core f i op word place frames → operation_at flat f (i + 1) ≡ Some next → size (function_at flat f).sizes (kind_of certificate op) op ≡ word + 1 + result_size d → ((w : ℕ) → row_in (kind_of certificate op) w op ≡ Whole) →
    AreFlatPast (record { flat = flat; certificate = certificate }) l.areas.pool i frames (t.frame ∷ t.below) → AreGlobals flat t.globals l.areas.globals → IsWithin (record { flat = flat; certificate = certificate }) l t f i (word + 1)
behind flat image certificate l f i word op next (Some d) place frames t facts valid form past followed size_is whole stands globals =
    let c : Checked = record { flat = flat; certificate = certificate } in
    let there = function_of_op flat f i op past.operation in
    within_place flat image certificate l f i i (word + 1) word op place frames t valid form past
    (there, subst (λ (o : Option Op). word + 1 < size_in c f o) (sym past.operation) (omega (arith, size_is)), past.pc)
    (ap (row_at certificate (word + 1)) past.operation ∙ whole (word + 1)) stands globals
behind flat image certificate l f i word op next None place frames t facts valid form past followed size_is whole stands globals =
    let c : Checked = record { flat = flat; certificate = certificate } in
    let there = function_of_op flat f i op past.operation in
    let here = facts.operation f i op there past.operation in
    let some : 0 < size (function_at flat f).sizes (kind_of certificate next) next =
    size_some (function_at flat f).sizes (kind_of certificate next) next (λ a is. facts.zeroed f (i + 1) a there (followed ∙ ap Some is)) in
    let step = here.next in
    let pc = past.pc in
    within_place flat image certificate l f i (i + 1) 0 word op place frames t valid form past
    (there, subst (λ (o : Option Op). 0 < size_in c f o) (sym followed) some, (let e : l.core.pc ≡ begin flat certificate f (i + 1) + 4 * 0 = omega (arith, pc, step, size_is) in e))
    (ap (row_at certificate 0) followed ∙ row_first (kind_of certificate next) next) stands globals

-- no word
abbrev no_word : Option ℕ
no_word = None

abbrev some_word : ℕ → Option ℕ
some_word n = Some n

pub past_arrives : (flat : FlatCode) (image : Image) (certificate : Certificate) (l : Local) (f i word v : ℕ) (op next : Op) (place : Place) (frames : List Frame) (t : FlatThread) → CodeFacts (record { flat = flat; certificate = certificate }) image.code → IsValid flat image certificate → HasForm (record { flat = flat; certificate = certificate }) l →
    IsPastCall (record { flat = flat; certificate = certificate }) l.areas.pool l.core f i op word place frames → operation_at flat f (i + 1) ≡ Some next →
    AreFlatPast (record { flat = flat; certificate = certificate }) l.areas.pool i frames (t.frame ∷ t.below) → AreGlobals flat t.globals l.areas.globals → read l.core.x a0 ≡ v →
    Arrives (record { flat = flat; certificate = certificate }) image.code l (record t { frame = with_result t.frame (result_place op) v })
past_arrives flat image certificate l f i word v (Op.Model site d n args) next place frames t facts valid form past followed stands globals value =
    let word_is : length args + 1 ≡ word = (let e : some_word (length args + 1) ≡ Some word = past.ecall in cc) in
    let within = behind flat image certificate l f i word (Op.Model site d n args) next d place frames t facts valid form past followed (omega (arith, word_is)) (λ w. refl) stands globals in
    let at : standing flat t.frame ≡ Some (Op.Model site d n args) = sym (λ k. operation_at flat (within.function k) (within.next k)) ∙ past.operation in
    let count : word + 1 ≡ length args + 2 = omega (arith, word_is) in
    answered (record { flat = flat; certificate = certificate }) image.code l t site n v d args within.frame within.below facts at
    (subst (λ (w : ℕ). During (record { flat = flat; certificate = certificate }) l t w within.frame within.below) count within.during) value
past_arrives flat image certificate l f i word v (Op.Spawn site d g x) next place frames t facts valid form past followed stands globals value =
    let word_is : 6 ≡ word = (let e : some_word 6 ≡ Some word = past.ecall in cc) in
    let within = behind flat image certificate l f i word (Op.Spawn site d g x) next d place frames t facts valid form past followed (omega (arith, word_is)) (λ w. refl) stands globals in
    let at : standing flat t.frame ≡ Some (Op.Spawn site d g x) = sym (λ k. operation_at flat (within.function k) (within.next k)) ∙ past.operation in
    let count : word + 1 ≡ 7 = omega (arith, word_is) in
    started (record { flat = flat; certificate = certificate }) image.code l t site g x v d within.frame within.below facts at
    (subst (λ (w : ℕ). During (record { flat = flat; certificate = certificate }) l t w within.frame within.below) count within.during) value
past_arrives flat image certificate l f i word v _ next place frames t facts valid form past followed stands globals value = absurd (let e : no_word ≡ Some word = past.ecall in cc)
