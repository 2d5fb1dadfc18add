-- A machine thread within an operation of a flat thread, and at its start, where it stands for it. What one instruction that
-- sets a register or stores a scalar leaves of that.
use Rattle.segment_laws.proofs.Common.{◌≡◌, ℕ, ◌+◌, ◌*◌, ◌%◌, ◌<◌, ◌≤◌, List, ◌∷◌, length, get_or, set, pos, Option, Some, None, Ok, sym, ap, subst, ◌∙◌, arith, Pool, Instr, accessed, effect, read, sets, instruction_at, Op, function_at, FlatThread, variable, first, scalar, fact_at, Areas, AreGlobals, Frame, word_in, frame_bytes, IsGoodAccess, Local, machine_of, Checked, variable_word, HoldsVariables, AreFlatFrames}
use Rattle.segment_laws.proofs.Facts.{CodeFacts, FrameFacts, IsOperationAt}
use Rattle.segment_laws.proofs.FrameWords.{load_word}
use Rattle.segment_laws.proofs.Inside.{IsWholeWord, IsValueRegister, IsSet, set_register}
use Rattle.segment_laws.proofs.Ways.{Leads}
pub use Rattle.segment_laws.specs.Simulation.{During, Simulates, Reaches}

-- ---- a register is set

pub record Sets (c : Checked) (code : List ℕ) (l : Local) (t : FlatThread) (w : ℕ) (frame : Frame) (below : List Frame) (rd value : ℕ) : Type 0 where
  pub next : Local
  pub leads : Leads c code 1 l next
  pub during : During c next t (w + 1) frame below
  pub value_is : read next.core.x rd ≡ value
  pub others : (r : ℕ) → (r ≡ rd → ⊥) → read next.core.x r ≡ read l.core.x r
  pub areas : next.areas ≡ l.areas

-- nothing changes in the areas
pub Sets-register : (c : Checked) (code : List ℕ) (l : Local) (t : FlatThread) (w : ℕ) (frame : Frame) (below : List Frame) (rd value : ℕ) → During c l t w frame below → IsSet c code l t.frame.function t.frame.next w frame below rd value → Sets c code l t w frame below rd value
Sets-register c code l t w frame below rd value during set = record {
  next = set.next;
  leads = set.leads;
  during = record {
    inside = set.inside;
    shape = during.shape;
    variables = subst (λ (a : Areas). HoldsVariables c a.pool frame t.frame) (sym set.areas) during.variables;
    flats = subst (λ (a : Areas). AreFlatFrames c a.pool below t.below) (sym set.areas) during.flats;
    globals = subst (λ (a : Areas). AreGlobals c.flat t.globals a.globals) (sym set.areas) during.globals;
  };
  value_is = set.value_is;
  others = set.others;
  areas = set.areas;
}

-- an instruction that sets a register from registers
pub set_value : (c : Checked) (code : List ℕ) (l : Local) (t : FlatThread) (w : ℕ) (op : Op) (frame : Frame) (below : List Frame) (instr : Instr) (rd value : ℕ) → IsOperationAt c code t.frame.function t.frame.next op → IsWholeWord c t.frame.function w op → During c l t w frame below →
    instruction_at code l.core.pc ≡ Ok instr → effect instr (machine_of l) ≡ sets (machine_of l) rd value → accessed instr (machine_of l) ≡ None → IsValueRegister rd →
    Sets c code l t w frame below rd value
set_value c code l t w op frame below instr rd value there word during fetch does none register =
    Sets-register c code l t w frame below rd value during
    (set_register c code l t.frame.function t.frame.next w op frame below instr rd value there word during.inside fetch does (subst (IsGoodAccess c (frame ∷ below)) (sym none) tt) register)

-- ---- scalars

-- a variable of one word
pub record IsOneWord (c : Checked) (f x : ℕ) : Type 0 where
  pub there : x < length (function_at c.flat f).sizes
  pub one : get_or (function_at c.flat f).sizes x 0 ≡ 1

-- the place of a variable's word is a word of the frame
pub record IsWordPlace (c : Checked) (f offset : ℕ) : Type 0 where
  pub aligned : offset % 4 ≡ 0
  pub fits : offset + 4 ≤ frame_bytes c f
  pub not_ra : offset ≡ (fact_at c.certificate f).ra → ⊥

pub IsWordPlace-variable : (c : Checked) (code : List ℕ) (f x j : ℕ) → FrameFacts c f → x < length (function_at c.flat f).sizes → j < get_or (function_at c.flat f).sizes x 0 → IsWordPlace c f (get_or (fact_at c.certificate f).places x 0 + 4 * j)
IsWordPlace-variable c code f x j fact there small =
    let aligned = fact.place_aligned x there in
    let inside = fact.place_inside x there in
    record {
      aligned = omega (arith, aligned);
      fits = omega (arith, inside, small);
      not_ra = fact.ra_apart x j there small;
    }

pub IsWordPlace-scalar : (c : Checked) (code : List ℕ) (f x : ℕ) → FrameFacts c f → IsOneWord c f x → IsWordPlace c f (get_or (fact_at c.certificate f).places x 0)
IsWordPlace-scalar c code f x fact one =
    let same : get_or (fact_at c.certificate f).places x 0 + 4 * 0 ≡ get_or (fact_at c.certificate f).places x 0 = omega arith in
    subst (IsWordPlace c f) same (IsWordPlace-variable c code f x 0 fact one.there (omega (arith, one.one)))

-- the word of a scalar that is set
pub scalar_word : (o : Option (List ℕ)) (v : ℕ) → first o ≡ Some v → (ws : List ℕ) × (o ≡ Some (v ∷ ws))
scalar_word (Some (w ∷ ws)) v e = (ws, (let same : w ≡ v = cc in ap (λ (k : ℕ). Some (k ∷ ws)) same))
scalar_word _ v e = absurd (cc)

variable_word-first : (c : Checked) (pool : Pool) (frame : Frame) (x : ℕ) → variable_word c pool frame x 0 ≡ word_in pool frame.chunk (frame.low + get_or (fact_at c.certificate frame.function).places x 0)
variable_word-first c pool frame x =
    let same : frame.low + get_or (fact_at c.certificate frame.function).places x 0 + 4 * 0 ≡ frame.low + get_or (fact_at c.certificate frame.function).places x 0 = omega arith in
    ap (word_in pool frame.chunk) same

-- lw rd, [x]
pub load_scalar : (c : Checked) (code : List ℕ) (l : Local) (t : FlatThread) (w : ℕ) (op : Op) (frame : Frame) (below : List Frame) (rd x v : ℕ) → CodeFacts c code → IsOperationAt c code t.frame.function t.frame.next op → IsWholeWord c t.frame.function w op → During c l t w frame below →
    instruction_at code l.core.pc ≡ Ok (Instr.Lw rd 2 (pos (get_or (fact_at c.certificate t.frame.function).places x 0))) → IsOneWord c t.frame.function x → scalar t x ≡ Some v → IsValueRegister rd →
    Sets c code l t w frame below rd v
load_scalar c code l t w op frame below rd x v facts there word during fetch one value register =
    let f = t.frame.function in
    let offset = get_or (fact_at c.certificate f).places x 0 in
    let place = IsWordPlace-scalar c code f x (facts.frame f there.function) one in
    let row = scalar_word (variable t.frame x) v value in
    let held : variable_word c l.areas.pool frame x 0 ≡ v = during.variables x (v ∷ row.0) row.1 0 (omega arith) in
    let here : word_in l.areas.pool frame.chunk (frame.low + offset) ≡ v =
    ap (λ (g : ℕ). word_in l.areas.pool frame.chunk (frame.low + get_or (fact_at c.certificate g).places x 0)) (sym during.inside.body.function)
    ∙ sym (variable_word-first c l.areas.pool frame x) ∙ held in
    Sets-register c code l t w frame below rd v during
    (subst (IsSet c code l f t.frame.next w frame below rd) here (load_word c code l f t.frame.next w op frame below rd offset facts there word during.inside fetch place.aligned place.fits register))
