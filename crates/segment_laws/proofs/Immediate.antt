-- A value that is put into a register by one or two instructions, and the instructions of an operation by their number.
use Rattle.segment_laws.proofs.Common.{◌≡◌, ℕ, ◌+◌, ◌^◌, ◌<◌, List, ℤ, pos, Some, None, Ok, refl, ap, subst, ◌∙◌, arith, slice_get, word_of, Instr, accessed, effect, upper, read, sets, instruction_at, Op, function_at, FlatThread, fact_at, upper_part, lower_part, begin, row, setting, Frame, Local, machine_of, Checked}
use Rattle.cap_word.specs.Word as word
use Rattle.rv_machine.specs.Rows as rows
use Rattle.segment_laws.proofs.Facts.{IsOperationAt}
use Rattle.segment_laws.proofs.Inside.{Inside, IsWholeWord, IsValueRegister}
use Rattle.segment_laws.proofs.Numbers.{li_value}
use Rattle.segment_laws.proofs.Simulation.{During, Sets, set_value}
use Rattle.segment_laws.proofs.Ways.{Leads, Leads-then}

-- the instructions of operation i of function f
abbrev pub words_of : Checked → ℕ → ℕ → Op → List Instr
words_of c f i op = row (fact_at c.certificate f) (function_at c.flat f).sizes (setting c.flat c.certificate f (begin c.flat c.certificate f i) op) op

-- the instruction at word w of an operation
pub fetch_at : (c : Checked) (code : List ℕ) (l : Local) (f i w : ℕ) (op : Op) (frame : Frame) (below : List Frame) (instr : Instr) → IsOperationAt c code f i op → Inside c l f i w frame below → slice_get (words_of c f i op) w ≡ Some instr →
    instruction_at code l.core.pc ≡ Ok instr
fetch_at c code l f i w op frame below instr there is e = ap (λ (pc : ℕ). instruction_at code pc) is.pc ∙ there.fetch w instr e

-- the registers t0, t1, t2, a0, a1, a2 and a7 take values
pub is_t0 : IsValueRegister 5
is_t0 = record { some = omega arith; there = omega arith; not_sp = λ e. absurd (omega arith); not_tp = λ e. absurd (omega arith) }

pub is_t1 : IsValueRegister 6
is_t1 = record { some = omega arith; there = omega arith; not_sp = λ e. absurd (omega arith); not_tp = λ e. absurd (omega arith) }

pub is_t2 : IsValueRegister 7
is_t2 = record { some = omega arith; there = omega arith; not_sp = λ e. absurd (omega arith); not_tp = λ e. absurd (omega arith) }

pub is_a0 : IsValueRegister 10
is_a0 = record { some = omega arith; there = omega arith; not_sp = λ e. absurd (omega arith); not_tp = λ e. absurd (omega arith) }

pub is_a1 : IsValueRegister 11
is_a1 = record { some = omega arith; there = omega arith; not_sp = λ e. absurd (omega arith); not_tp = λ e. absurd (omega arith) }

pub is_a2 : IsValueRegister 12
is_a2 = record { some = omega arith; there = omega arith; not_sp = λ e. absurd (omega arith); not_tp = λ e. absurd (omega arith) }

pub is_a7 : IsValueRegister 17
is_a7 = record { some = omega arith; there = omega arith; not_sp = λ e. absurd (omega arith); not_tp = λ e. absurd (omega arith) }

-- so many instructions set one register, and nothing else
pub record SetsBy (c : Checked) (code : List ℕ) (l : Local) (t : FlatThread) (w n : ℕ) (frame : Frame) (below : List Frame) (rd value : ℕ) : Type 0 where
  pub next : Local
  pub leads : Leads c code n l next
  pub during : During c next t (w + n) frame below
  pub value_is : read next.core.x rd ≡ value
  pub others : (r : ℕ) → (r ≡ rd → ⊥) → read next.core.x r ≡ read l.core.x r
  pub areas : next.areas ≡ l.areas

-- the same register, twice
pub SetsBy-two : (c : Checked) (code : List ℕ) (l : Local) (t : FlatThread) (w : ℕ) (frame : Frame) (below : List Frame) (rd first value : ℕ) → (one : Sets c code l t w frame below rd first) → Sets c code one.next t (w + 1) frame below rd value →
    SetsBy c code l t w 2 frame below rd value
SetsBy-two c code l t w frame below rd first value one two = record {
  next = two.next;
  leads = Leads-then c code 1 1 l one.next two.next one.leads two.leads;
  during = (let sum : w + 1 + 1 ≡ w + 2 = omega arith in subst (λ (k : ℕ). During c two.next t k frame below) sum two.during);
  value_is = two.value_is;
  others = λ r apart. two.others r apart ∙ one.others r apart;
  areas = two.areas ∙ one.areas;
}

does_lui : (m : rows.Machine) (rd : ℕ) (imm : ℤ) → effect (Instr.Lui rd imm) m ≡ sets m rd (upper imm)
unfolding effect
does_lui m rd imm = refl

does_addi : (m : rows.Machine) (rd rs1 v : ℕ) (imm : ℤ) → word.add (read m.x rs1) (word_of imm) ≡ v → effect (Instr.Addi rd rs1 imm) m ≡ sets m rd v
unfolding effect
does_addi m rd rs1 v imm e = ap (sets m rd) e

none_lui : (m : rows.Machine) (rd : ℕ) (imm : ℤ) → accessed (Instr.Lui rd imm) m ≡ None
unfolding accessed
none_lui m rd imm = refl

none_addi : (m : rows.Machine) (rd rs1 : ℕ) (imm : ℤ) → accessed (Instr.Addi rd rs1 imm) m ≡ None
unfolding accessed
none_addi m rd rs1 imm = refl

-- addi rd, rs1, imm
pub add_immediate : (c : Checked) (code : List ℕ) (l : Local) (t : FlatThread) (w : ℕ) (op : Op) (frame : Frame) (below : List Frame) (rd rs1 v : ℕ) (imm : ℤ) → IsOperationAt c code t.frame.function t.frame.next op → IsWholeWord c t.frame.function w op → During c l t w frame below →
    slice_get (words_of c t.frame.function t.frame.next op) w ≡ Some (Instr.Addi rd rs1 imm) → IsValueRegister rd → word.add (read l.core.x rs1) (word_of imm) ≡ v → Sets c code l t w frame below rd v
add_immediate c code l t w op frame below rd rs1 v imm there word during e register value =
    set_value c code l t w op frame below (Instr.Addi rd rs1 imm) rd v there word during (fetch_at c code l t.frame.function t.frame.next w op frame below (Instr.Addi rd rs1 imm) there during.inside e)
    (does_addi (machine_of l) rd rs1 v imm value) (none_addi (machine_of l) rd rs1 imm) register

-- li rd, v
pub load_immediate : (c : Checked) (code : List ℕ) (l : Local) (t : FlatThread) (w : ℕ) (op : Op) (frame : Frame) (below : List Frame) (rd v : ℕ) → IsOperationAt c code t.frame.function t.frame.next op → IsWholeWord c t.frame.function w op → IsWholeWord c t.frame.function (w + 1) op → During c l t w frame below →
    slice_get (words_of c t.frame.function t.frame.next op) w ≡ Some (Instr.Lui rd (pos (upper_part v))) → slice_get (words_of c t.frame.function t.frame.next op) (w + 1) ≡ Some (Instr.Addi rd rd (lower_part v)) → IsValueRegister rd → v < 2 ^ 32 →
    SetsBy c code l t w 2 frame below rd v
load_immediate c code l t w op frame below rd v there first second during e1 e2 register below_32 =
    let one = set_value c code l t w op frame below (Instr.Lui rd (pos (upper_part v))) rd (upper (pos (upper_part v))) there first during
    (fetch_at c code l t.frame.function t.frame.next w op frame below (Instr.Lui rd (pos (upper_part v))) there during.inside e1)
    (does_lui (machine_of l) rd (pos (upper_part v))) (none_lui (machine_of l) rd (pos (upper_part v))) register in
    SetsBy-two c code l t w frame below rd (upper (pos (upper_part v))) v one
    (add_immediate c code one.next t (w + 1) op frame below rd rd v (lower_part v) there second one.during e2 register
    (ap (λ (n : ℕ). word.add n (word_of (lower_part v))) one.value_is ∙ li_value v below_32))
