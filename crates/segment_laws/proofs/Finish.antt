-- The last instruction of an operation: the thread then stands for the flat thread after its step.
use Rattle.cap_word.specs.Word as word
use Rattle.segment_laws.proofs.Common.{◌≡◌, ℕ, suc, ◌+◌, ◌*◌, ◌%◌, ◌<◌, ◌≤◌, List, [], ◌∷◌, length, get_or, ℤ, pos, Ok, refl, sym, ap, subst, ◌∙◌, arith, word_of, Pool, Instr, read, instruction_at, Op, function_at, FlatThread, at, set_to, with_scalar, fact_at, begin, size, kind_of, Areas, AreGlobals, Frame, frame_bytes, Local, Checked, variable_word, HoldsVariables, AreFlatFrames}
use Rattle.segment_laws.proofs.Facts.{CodeFacts, FrameFacts, IsOperationAt}
use Rattle.segment_laws.proofs.FrameWords.{InFrame-inside, store_at, once_of}
use Rattle.segment_laws.proofs.Inside.{Inside, IsWholeWord}
use Rattle.segment_laws.proofs.Simulation.{During, Simulates, Reaches, IsOneWord, IsWordPlace-variable}
use Rattle.segment_laws.proofs.Stacks.{stack_away, IsStack-operation, AreFlatFrames-with_word}
use Rattle.segment_laws.proofs.Variables.{offset_of, written_pool, HasWord, IsShaped-set, HoldsVariables-set}
use Rattle.segment_laws.proofs.Ways.{Leads, Leads-then}
use Rattle.segment_laws.proofs.Words.{word_number}

-- ---- at another operation

-- the same frame, at operation i
abbrev pub frame_at : Frame → ℕ → Frame
frame_at frame i = record frame { operation = i }

pub Inside-at : (c : Checked) (l : Local) (f i w next : ℕ) (frame : Frame) (below : List Frame) → Inside c l f i w frame below → l.core.pc ≡ begin c.flat c.certificate f next + 4 * 0 → Inside c l f next 0 (frame_at frame next) below
Inside-at c l f i w next frame below is pc = record {
  form = is.form;
  pc = pc;
  sp_is = is.sp_is;
  tp_is = is.tp_is;
  front = is.front;
  body = record { function = is.body.function; operation = refl; bytes = is.body.bytes; returns = is.body.returns };
  stack = IsStack-operation c l.areas.pool l.core.chain frame below next is.stack;
  headers = is.headers;
}

-- a flat thread at operation n of its function
abbrev pub flat_at : FlatThread → ℕ → FlatThread
flat_at t n = record t { frame = at t.frame n }

-- the thread at the operation that pc says, with nothing else changed
pub Simulates-at : (c : Checked) (l : Local) (t : FlatThread) (w next : ℕ) (frame : Frame) (below : List Frame) → During c l t w frame below → l.core.pc ≡ begin c.flat c.certificate t.frame.function next + 4 * 0 → Simulates c l (flat_at t next)
Simulates-at c l t w next frame below during pc = record {
  frame = frame_at frame next;
  below = below;
  during = record {
    inside = Inside-at c l t.frame.function t.frame.next w next frame below during.inside pc;
    shape = record { count = during.shape.count; words = during.shape.words };
    variables = during.variables;
    flats = during.flats;
    globals = during.globals;
  };
}

-- pc behind the last word of an operation is at the next one
pub behind_last : (c : Checked) (code : List ℕ) (l : Local) (f i w : ℕ) (op : Op) (frame : Frame) (below : List Frame) → IsOperationAt c code f i op → Inside c l f i (w + 1) frame below → w + 1 ≡ size (function_at c.flat f).sizes (kind_of c.certificate op) op →
    l.core.pc ≡ begin c.flat c.certificate f (i + 1) + 4 * 0
behind_last c code l f i w op frame below there is last =
    let pc = is.pc in
    let next = there.next in
    omega (arith, pc, next, last)

-- ---- a word of a variable is stored

-- the thread after that: the variable is set to this row
pub record StoresWord (c : Checked) (code : List ℕ) (l : Local) (t : FlatThread) (w : ℕ) (frame : Frame) (below : List Frame) (x : ℕ) (row : List ℕ) : Type 0 where
  pub next : Local
  pub leads : Leads c code 1 l next
  pub during : During c next (record t { frame = set_to t.frame x row }) (w + 1) frame below
  pub registers : (r : ℕ) → read next.core.x r ≡ read l.core.x r

pub store_variable : (c : Checked) (code : List ℕ) (l : Local) (t : FlatThread) (w : ℕ) (op : Op) (frame : Frame) (below : List Frame) (rs1 rs2 x j value : ℕ) (imm : ℤ) (row : List ℕ) →
    CodeFacts c code → IsOperationAt c code t.frame.function t.frame.next op → IsWholeWord c t.frame.function w op → During c l t w frame below →
    instruction_at code l.core.pc ≡ Ok (Instr.Sw rs1 rs2 imm) → HasWord c frame x j → word.add (read l.core.x rs1) (word_of imm) ≡ frame.low + offset_of c frame x j → read l.core.x rs2 ≡ value →
    length row ≡ get_or (function_at c.flat frame.function).sizes x 0 → get_or row j 0 ≡ value → ((k : ℕ) → k < length row → (k ≡ j → ⊥) → get_or row k 0 ≡ variable_word c l.areas.pool frame x k) →
    StoresWord c code l t w frame below x row
store_variable c code l t w op frame below rs1 rs2 x j value imm row facts there word during fetch has address value_is same at_j others =
    let f = t.frame.function in
    let i = t.frame.next in
    let is = during.inside in
    let function : frame.function ≡ f = is.body.function in
    let fact : FrameFacts c frame.function = facts.frame frame.function (subst (λ (g : ℕ). g < length c.flat.functions) (sym function) there.function) in
    let place = IsWordPlace-variable c code frame.function x j fact has.0 has.1 in
    let fits : offset_of c frame x j + 4 ≤ frame_bytes c f = subst (λ (g : ℕ). offset_of c frame x j + 4 ≤ frame_bytes c g) function place.fits in
    let not_ra : offset_of c frame x j ≡ (fact_at c.certificate f).ra → ⊥ = (λ (e : offset_of c frame x j ≡ (fact_at c.certificate f).ra). place.not_ra (e ∙ ap (λ (g : ℕ). (fact_at c.certificate g).ra) (sym function))) in
    let in_frame = InFrame-inside c code l f i w frame below (offset_of c frame x j) facts there.function is place.aligned fits in
    let stored = store_at c code l f i w op frame below rs1 rs2 (offset_of c frame x j) value imm facts there word is fetch in_frame address place.aligned not_ra value_is in
    let away = stack_away c l.areas.pool l.core.chain frame below is.stack is.front (once_of c l f i w frame below is) in
    let sizes : get_or (function_at c.flat frame.function).sizes x 0 ≡ get_or (function_at c.flat f).sizes x 0 = ap (λ (g : ℕ). get_or (function_at c.flat g).sizes x 0) function in
    let x_there : x < length (function_at c.flat f).sizes = subst (λ (g : ℕ). x < length (function_at c.flat g).sizes) function has.0 in
    let after : Pool = written_pool c l.areas.pool frame x j value in
    let pool : stored.next.areas.pool ≡ after = ap (λ (a : Areas). a.pool) stored.areas in
    record {
      next = stored.next;
      leads = stored.leads;
      during = record {
        inside = stored.inside;
        shape = IsShaped-set c t.frame x row during.shape x_there (same ∙ sizes);
        variables = subst (λ (p : Pool). HoldsVariables c p frame (set_to t.frame x row)) (sym pool)
            (HoldsVariables-set c l frame t.frame x j value row fact is.form.areas.pool in_frame has function during.shape during.variables same at_j others);
        flats = subst (λ (p : Pool). AreFlatFrames c p below t.below) (sym pool)
            (AreFlatFrames-with_word c l.areas.pool below t.below frame.chunk (word_number l.areas.pool frame.chunk (frame.low + offset_of c frame x j)) value (frame.low + frame.bytes) in_frame.ends away during.flats);
        globals = subst (λ (a : Areas). AreGlobals c.flat t.globals a.globals) (sym stored.areas) during.globals;
      };
      registers = stored.registers;
    }

-- sw rs, [d], as the last word of an operation whose step sets the scalar d
pub store_scalar : (c : Checked) (code : List ℕ) (l : Local) (t : FlatThread) (w : ℕ) (op : Op) (frame : Frame) (below : List Frame) (rs d value : ℕ) →
    CodeFacts c code → IsOperationAt c code t.frame.function t.frame.next op → IsWholeWord c t.frame.function w op → During c l t w frame below →
    instruction_at code l.core.pc ≡ Ok (Instr.Sw 2 rs (pos (get_or (fact_at c.certificate t.frame.function).places d 0))) → IsOneWord c t.frame.function d → read l.core.x rs ≡ value →
    w + 1 ≡ size (function_at c.flat t.frame.function).sizes (kind_of c.certificate op) op →
    Reaches c code l (record t { frame = with_scalar t.frame d value })
store_scalar c code l t w op frame below rs d value facts there word during fetch one value_is last =
    let f = t.frame.function in
    let is = during.inside in
    let function : frame.function ≡ f = is.body.function in
    let has : HasWord c frame d 0 = (subst (λ (g : ℕ). d < length (function_at c.flat g).sizes) (sym function) one.there, subst (λ (g : ℕ). 0 < get_or (function_at c.flat g).sizes d 0) (sym function) (omega (arith, one.one))) in
    let offset = get_or (fact_at c.certificate f).places d 0 in
    let offset_is : offset_of c frame d 0 ≡ offset = (let e : get_or (fact_at c.certificate frame.function).places d 0 + 4 * 0 ≡ get_or (fact_at c.certificate frame.function).places d 0 = omega arith in e) ∙ ap (λ (g : ℕ). get_or (fact_at c.certificate g).places d 0) function in
    let fact = facts.frame f there.function in
    let place = IsWordPlace-variable c code f d 0 fact one.there (omega (arith, one.one)) in
    let zero_more : get_or (fact_at c.certificate f).places d 0 + 4 * 0 ≡ offset = omega arith in
    let in_frame = InFrame-inside c code l f t.frame.next w frame below offset facts there.function is (subst (λ (o : ℕ). o % 4 ≡ 0) zero_more place.aligned) (subst (λ (o : ℕ). o + 4 ≤ frame_bytes c f) zero_more place.fits) in
    let one_word : length (value ∷ []) ≡ get_or (function_at c.flat frame.function).sizes d 0 = sym (ap (λ (g : ℕ). get_or (function_at c.flat g).sizes d 0) function ∙ one.one) in
    let stores = store_variable c code l t w op frame below 2 rs d 0 value (pos offset) (value ∷ []) facts there word during fetch has
    (in_frame.address ∙ ap (λ (o : ℕ). frame.low + o) (sym offset_is)) value_is one_word refl
    (λ k small not_first. absurd (not_first (omega arith))) in
    let set : FlatThread = record t { frame = set_to t.frame d (value ∷ []) } in
    record {
      steps = 0;
      after = stores.next;
      leads = stores.leads;
      simulates = Simulates-at c stores.next set (w + 1) (t.frame.next + 1) frame below stores.during
          (behind_last c code stores.next f t.frame.next w op frame below there stores.during.inside last);
    }

-- good steps before
pub Reaches-after : (c : Checked) (code : List ℕ) (n : ℕ) (l middle : Local) (t : FlatThread) → Leads c code n l middle → Reaches c code middle t → Reaches c code l t
Reaches-after c code n l middle t first rest = record {
  steps = n + rest.steps;
  after = rest.after;
  leads = (let sum : n + suc rest.steps ≡ suc (n + rest.steps) = omega arith in subst (λ (k : ℕ). Leads c code k l rest.after) sum (Leads-then c code n (suc rest.steps) l middle rest.after first rest.leads));
  simulates = rest.simulates;
}
