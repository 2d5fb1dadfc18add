-- Words of globals, loaded and stored by a thread within an operation.
use Rattle.cap_word.specs.Word as word
use Rattle.segment_laws.proofs.Common.{◌≡◌, ℕ, ◌+◌, ◌-◌, ◌*◌, ◌/◌, ◌^◌, ◌<◌, List, ◌∷◌, length, get_or, set, ℤ, Some, Ok, ap, subst, ◌∙◌, arith, inl, inr, word_of, word_at, with_word, Goes, Instr, accessed, read, instruction_at, read-below, Op, FlatThread, global_address, Areas, globals_place, with_byte, Frame, IsGoodAccess, Local, machine_of, local_step, Checked}
use Rattle.rv_machine.specs.Bytes as bytes
use Rattle.segment_laws.proofs.Facts.{CodeFacts, IsOperationAt, Fit-areas}
use Rattle.segment_laws.proofs.Inside.{IsWholeWord, IsGoodState-inside, pc_next, IsValueRegister, set_register}
use Rattle.segment_laws.proofs.Registers.{step-is, with_areas, effect-lw, move-sw}
use Rattle.segment_laws.proofs.Rows.{HasGlobal, AreGlobals-set}
use Rattle.segment_laws.proofs.Simulation.{During, Sets, Sets-register}
use Rattle.segment_laws.proofs.Ways.{Leads, Leads-one, HasForm-next}
use Rattle.segment_laws.proofs.Words.{GlobalWord, loaded-global, stored-global, writable-global}

-- the address of word k of global g
abbrev pub element_of : Checked → ℕ → ℕ → ℕ
element_of c g k = global_address c.flat g + 4 * k

GlobalWord-at : (c : Checked) (areas : Areas) (rows : List (List ℕ)) (g k : ℕ) → HasGlobal c.flat rows areas.globals g k → GlobalWord areas (element_of c g k)
GlobalWord-at c areas rows g k has =
    let address = has.address in
    let inside = has.inside in
    record { low = omega (arith, address); high = omega (arith, address, inside); aligned = omega (arith, address) }

number-is : (c : Checked) (areas : Areas) (rows : List (List ℕ)) (g k : ℕ) → (has : HasGlobal c.flat rows areas.globals g k) → (element_of c g k - globals_place) / 4 ≡ has.number
number-is c areas rows g k has = let address = has.address in omega (arith, address)

global_lw : (c : Checked) (l : Local) (frames : List Frame) (rows : List (List ℕ)) (rd rs1 g k : ℕ) (imm : ℤ) → g < length c.flat.globals → HasGlobal c.flat rows l.areas.globals g k → word.add (read l.core.x rs1) (word_of imm) ≡ element_of c g k →
    IsGoodAccess c frames (accessed (Instr.Lw rd rs1 imm) (machine_of l))
unfolding accessed
global_lw c l frames rows rd rs1 g k imm there has address = let small = has.small in inr (inl (g, there, (omega (arith, address), omega (arith, address, small))))

global_sw : (c : Checked) (l : Local) (frames : List Frame) (rows : List (List ℕ)) (rs1 rs2 g k : ℕ) (imm : ℤ) → g < length c.flat.globals → HasGlobal c.flat rows l.areas.globals g k → word.add (read l.core.x rs1) (word_of imm) ≡ element_of c g k →
    IsGoodAccess c frames (accessed (Instr.Sw rs1 rs2 imm) (machine_of l))
unfolding accessed
global_sw c l frames rows rs1 rs2 g k imm there has address = let small = has.small in inr (inl (g, there, (omega (arith, address), omega (arith, address, small))))

-- lw rd, imm(rs1), where that is word k of global g
pub load_global : (c : Checked) (code : List ℕ) (l : Local) (t : FlatThread) (w : ℕ) (op : Op) (frame : Frame) (below : List Frame) (rd rs1 g k : ℕ) (imm : ℤ) → CodeFacts c code → IsOperationAt c code t.frame.function t.frame.next op → IsWholeWord c t.frame.function w op → During c l t w frame below →
    instruction_at code l.core.pc ≡ Ok (Instr.Lw rd rs1 imm) → g < length c.flat.globals → HasGlobal c.flat t.globals l.areas.globals g k → word.add (read l.core.x rs1) (word_of imm) ≡ element_of c g k → IsValueRegister rd →
    Sets c code l t w frame below rd (word_at t.globals g k)
load_global c code l t w op frame below rd rs1 g k imm facts there whole during fetch is_global has address register =
    let at = GlobalWord-at c l.areas t.globals g k has in
    let value = loaded-global l.areas (element_of c g k) (Fit-areas c code l.areas facts during.inside.form.areas) at
    ∙ ap (λ (n : ℕ). Some (get_or l.areas.globals n 0)) (number-is c l.areas t.globals g k has) ∙ ap Some has.value in
    Sets-register c code l t w frame below rd (word_at t.globals g k) during
    (set_register c code l t.frame.function t.frame.next w op frame below (Instr.Lw rd rs1 imm) rd (word_at t.globals g k) there whole during.inside fetch
    (effect-lw l rd rs1 (element_of c g k) (word_at t.globals g k) imm address at.aligned value)
    (global_lw c l (frame ∷ below) t.globals rd rs1 g k imm is_global has address) register)

-- the thread after a word of a global is stored
pub record StoresGlobal (c : Checked) (code : List ℕ) (l : Local) (t : FlatThread) (w : ℕ) (frame : Frame) (below : List Frame) (g k value : ℕ) : Type 0 where
  pub next : Local
  pub leads : Leads c code 1 l next
  pub during : During c next (record t { globals = with_word t.globals g k value }) (w + 1) frame below

-- sw rs2, imm(rs1), where that is word k of global g
pub store_global : (c : Checked) (code : List ℕ) (l : Local) (t : FlatThread) (w : ℕ) (op : Op) (frame : Frame) (below : List Frame) (rs1 rs2 g k value : ℕ) (imm : ℤ) → CodeFacts c code → IsOperationAt c code t.frame.function t.frame.next op → IsWholeWord c t.frame.function w op → During c l t w frame below →
    instruction_at code l.core.pc ≡ Ok (Instr.Sw rs1 rs2 imm) → g < length c.flat.globals → HasGlobal c.flat t.globals l.areas.globals g k → word.add (read l.core.x rs1) (word_of imm) ≡ element_of c g k → read l.core.x rs2 ≡ value →
    StoresGlobal c code l t w frame below g k value
store_global c code l t w op frame below rs1 rs2 g k value imm facts there whole during fetch is_global has address value_is =
    let is = during.inside in
    let fit = Fit-areas c code l.areas facts is.form.areas in
    let at = GlobalWord-at c l.areas t.globals g k has in
    let value_below : value < 2 ^ 32 = subst (λ (n : ℕ). n < 2 ^ 32) value_is (read-below l.core.x rs2 is.form.core.registers) in
    let after : Areas = record l.areas { globals = set l.areas.globals has.number value } in
    let written : bytes.with_word with_byte l.areas (element_of c g k) (read l.core.x rs2) ≡ after =
    ap (bytes.with_word with_byte l.areas (element_of c g k)) value_is ∙ stored-global l.areas (element_of c g k) value fit at value_below
    ∙ ap (λ (n : ℕ). record l.areas { globals = set l.areas.globals n value }) (number-is c l.areas t.globals g k has) in
    let next : Local = with_areas l after in
    let step : local_step code l ≡ Goes next =
    step-is code l (Instr.Sw rs1 rs2 imm) fetch ∙ move-sw l rs1 rs2 (element_of c g k) imm address at.aligned (writable-global l.areas (element_of c g k) at)
    ∙ ap (λ (a : Areas). Goes (with_areas l a)) written in
    record {
      next = next;
      leads = Leads-one c code l next (IsGoodState-inside c code l t.frame.function t.frame.next w op frame below (Instr.Sw rs1 rs2 imm) there whole is fetch (global_sw c l (frame ∷ below) t.globals rs1 rs2 g k imm is_global has address)) step;
      during = record {
        inside = record {
          form = HasForm-next c code l next is.form step;
          pc = pc_next c code l t.frame.function t.frame.next w op there whole.small is.pc;
          sp_is = is.sp_is;
          tp_is = is.tp_is;
          front = is.front;
          body = is.body;
          stack = is.stack;
          headers = is.headers;
        };
        shape = during.shape;
        variables = during.variables;
        flats = during.flats;
        globals = AreGlobals-set c.flat t.globals l.areas.globals g k value during.globals has;
      };
    }
