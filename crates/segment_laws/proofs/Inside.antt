-- A thread in a word of an operation, where its running frame is whole: what an instruction there needs, and what it leaves.
use Rattle.cap_word.specs.Word as word
use Rattle.segment_laws.proofs.Common.{◌≡◌, ℕ, ◌+◌, ◌*◌, ◌<◌, List, ◌∷◌, Option, Ok, refl, sym, ap, subst, ◌∙◌, arith, Goes, payload_place_of, Instr, accessed, effect, read, sets, instruction_at, Op, function_at, operation_at, begin, size, kind_of, Frame, return_word, IsStack, FramesAt, TpIsFront, HasFrames, IsGoodAccess, tp, Local, machine_of, local_move, local_step, Checked, InOperation, Row, Whole, row_in, row_at, size_in, read-write_same}
use Rattle.segment_laws.proofs.Facts.{IsOperationAt}
use Rattle.segment_laws.proofs.Registers.{read-write_other, add-small, step-is, access-is, with_register, move-sets}
use Rattle.segment_laws.proofs.Ways.{IsGoodState, Leads, Leads-one, HasForm-next}
pub use Rattle.segment_laws.specs.Simulation.{IsBody, Inside}

-- the word is one of the operation, and the frame is whole there
pub record IsWholeWord (c : Checked) (f w : ℕ) (op : Op) : Type 0 where
  pub small : w < size (function_at c.flat f).sizes (kind_of c.certificate op) op
  pub row_is : row_in (kind_of c.certificate op) w op ≡ Whole

-- ---- in place

frames_whole : (c : Checked) (l : Local) (f i w : ℕ) (frame : Frame) (below : List Frame) (rest : List ℕ) → Inside c l f i w frame below → l.core.chain ≡ frame.chunk ∷ rest →
    FramesAt c l.areas.pool l.core (InOperation f i w) Whole (frame.chunk ∷ rest) (frame ∷ below)
frames_whole c l f i w frame below rest is chain =
    let low = sym is.sp_is in (
      record {
        function = is.body.function;
        operation = is.body.operation;
        chunk_is = refl;
        low_is = low;
        bytes_are = is.body.bytes;
        returns_are = is.body.returns ∙ ap (return_word c l.areas.pool f frame.chunk) low;
      },
      subst (λ (ch : List ℕ). IsStack c l.areas.pool ch frame below) chain is.stack,
    )

tp_front : (l : Local) (chunk : ℕ) (rest : List ℕ) → read l.core.x tp ≡ payload_place_of l.areas.pool chunk → l.core.chain ≡ chunk ∷ rest → TpIsFront l.areas.pool l.core l.core.chain
tp_front l chunk rest is chain = subst (TpIsFront l.areas.pool l.core) (sym chain) is

pub HasFrames-inside : (c : Checked) (code : List ℕ) (l : Local) (f i w : ℕ) (op : Op) (frame : Frame) (below : List Frame) → IsOperationAt c code f i op → IsWholeWord c f w op → Inside c l f i w frame below →
    HasFrames c l.areas.pool l.core (InOperation f i w) (frame ∷ below)
HasFrames-inside c code l f i w op frame below at word is = record {
  at = (at.function, subst (λ (o : Option Op). w < size_in c f o) (sym at.there) word.small, is.pc);
  frames_are =
      let row : row_at c.certificate w (operation_at c.flat f i) ≡ Whole = ap (row_at c.certificate w) at.there ∙ word.row_is in
      subst (λ (r : Row). FramesAt c l.areas.pool l.core (InOperation f i w) r l.core.chain (frame ∷ below)) (sym row)
      (subst (λ (ch : List ℕ). FramesAt c l.areas.pool l.core (InOperation f i w) Whole ch (frame ∷ below)) (sym is.front.is)
      (frames_whole c l f i w frame below is.front.rest is is.front.is));
  front = tp_front l frame.chunk is.front.rest is.tp_is is.front.is;
  headers = is.headers;
}

-- an instruction at the word, whose access is good
pub IsGoodState-inside : (c : Checked) (code : List ℕ) (l : Local) (f i w : ℕ) (op : Op) (frame : Frame) (below : List Frame) (instr : Instr) → IsOperationAt c code f i op → IsWholeWord c f w op → Inside c l f i w frame below →
    instruction_at code l.core.pc ≡ Ok instr → IsGoodAccess c (frame ∷ below) (accessed instr (machine_of l)) → IsGoodState c code l
IsGoodState-inside c code l f i w op frame below instr at word is fetch good = record {
  place = InOperation f i w;
  frames = frame ∷ below;
  in_place = HasFrames-inside c code l f i w op frame below at word is;
  access = subst (IsGoodAccess c (frame ∷ below)) (sym (access-is code l instr fetch)) good;
}

-- pc after an instruction that goes on
pub pc_next : (c : Checked) (code : List ℕ) (l : Local) (f i w : ℕ) (op : Op) → IsOperationAt c code f i op → w < size (function_at c.flat f).sizes (kind_of c.certificate op) op → l.core.pc ≡ begin c.flat c.certificate f i + 4 * w →
    word.add l.core.pc 4 ≡ begin c.flat c.certificate f i + 4 * (w + 1)
pc_next c code l f i w op at small pc =
    let room = at.room in
    add-small l.core.pc 4 (omega (arith, pc, room, small)) ∙ (let sum : l.core.pc + 4 ≡ begin c.flat c.certificate f i + 4 * (w + 1) = omega (arith, pc) in sum)

-- ---- a register is set

-- a register that templates use for values
pub record IsValueRegister (rd : ℕ) : Type 0 where
  pub some : 0 < rd
  pub there : rd < 32
  pub not_sp : rd ≡ 2 → ⊥
  pub not_tp : rd ≡ 4 → ⊥

-- the thread after one instruction that set a register
pub record IsSet (c : Checked) (code : List ℕ) (l : Local) (f i w : ℕ) (frame : Frame) (below : List Frame) (rd value : ℕ) : Type 0 where
  pub next : Local
  pub leads : Leads c code 1 l next
  pub inside : Inside c next f i (w + 1) frame below
  pub value_is : read next.core.x rd ≡ value
  pub others : (r : ℕ) → (r ≡ rd → ⊥) → read next.core.x r ≡ read l.core.x r
  pub areas : next.areas ≡ l.areas

pub set_register : (c : Checked) (code : List ℕ) (l : Local) (f i w : ℕ) (op : Op) (frame : Frame) (below : List Frame) (instr : Instr) (rd value : ℕ) → IsOperationAt c code f i op → IsWholeWord c f w op → Inside c l f i w frame below →
    instruction_at code l.core.pc ≡ Ok instr → effect instr (machine_of l) ≡ sets (machine_of l) rd value → IsGoodAccess c (frame ∷ below) (accessed instr (machine_of l)) → IsValueRegister rd →
    IsSet c code l f i w frame below rd value
set_register c code l f i w op frame below instr rd value at word is fetch does good register =
    let next : Local = with_register l rd value in
    let step : local_step code l ≡ Goes next = step-is code l instr fetch ∙ ap (local_move l) does ∙ move-sets l rd value in
    record {
      next = next;
      leads = Leads-one c code l next (IsGoodState-inside c code l f i w op frame below instr at word is fetch good) step;
      inside = record {
        form = HasForm-next c code l next is.form step;
        pc = pc_next c code l f i w op at word.small is.pc;
        sp_is = read-write_other l.core.x rd value 2 (λ same. register.not_sp (sym same)) ∙ is.sp_is;
        tp_is = read-write_other l.core.x rd value 4 (λ same. register.not_tp (sym same)) ∙ is.tp_is;
        front = is.front;
        body = is.body;
        stack = is.stack;
        headers = is.headers;
      };
      value_is = read-write_same l.core.x rd value register.some (subst (λ (n : ℕ). rd < n) (sym is.form.core.count) register.there);
      others = λ r apart. read-write_other l.core.x rd value r apart;
      areas = refl;
    }
