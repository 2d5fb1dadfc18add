-- Registers read and written, small sums, and what one instruction makes of a thread.
use Rattle.segment_laws.proofs.Common.{◌≡◌, ℕ, ◌+◌, ◌%◌, ◌^◌, ◌<◌, List, get_or, set, ℤ, pos, Result, Ok, Err, Option, Some, refl, ap, ◌∙◌, arith, cond, get_or-set_other, Bool, true, nat_eq, cond_both, eq-eqb, word_of, Goes, Instr, FaultKind, Misaligned, accessed, access_of, next_access, effect, read, write, sets, loads, found, word_loaded, stores, word_stored, instruction_at, started, outcome, Areas, byte_at, is_writable, with_byte, Local, machine_of, local_move, local_step, access_at}
use Rattle.cap_word.specs.Word as word
use Rattle.rv_machine.specs.Bytes.{word_at, word_is_writable, with_word, Word}
use Rattle.rv_machine.specs.Rows as rows

pub read-write_other : (x : List ℕ) (r v s : ℕ) → (s ≡ r → ⊥) → read (write x r v) s ≡ read x s
read-write_other x r v s apart =
    ap (cond (nat_eq s 0) 0) (cond_both (nat_eq r 0) x (set x r v) (λ (y : List ℕ). get_or y s 0 ≡ get_or x s 0) (λ _. refl) (λ _. get_or-set_other x r s v 0 apart))

pub add-small : (a b : ℕ) → a + b < 2 ^ 32 → word.add a b ≡ a + b
unfolding word.add
add-small a b below = omega arith

pub word_of-small : (n : ℕ) → n < 2 ^ 32 → word_of (pos n) ≡ n
unfolding word_of
word_of-small n below = omega arith

-- a step is what its instruction does
pub step-is : (code : List ℕ) (l : Local) (instr : Instr) → instruction_at code l.core.pc ≡ Ok instr → local_step code l ≡ local_move l (effect instr (machine_of l))
unfolding local_step outcome started
step-is code l instr fetch = ap (λ (r : Result Instr FaultKind). local_move l (started r (machine_of l))) fetch

pub access-is : (code : List ℕ) (l : Local) (instr : Instr) → instruction_at code l.core.pc ≡ Ok instr → access_at code l ≡ accessed instr (machine_of l)
unfolding next_access
access-is code l instr fetch = ap (λ (r : Result Instr FaultKind). access_of r (machine_of l)) fetch

-- the thread after a register is set
abbrev pub with_register : Local → ℕ → ℕ → Local
with_register l rd value = record { areas = l.areas; core = record { pc = word.add l.core.pc 4; x = write l.core.x rd value; chain = l.core.chain } }

pub move-sets : (l : Local) (rd value : ℕ) → local_move l (sets (machine_of l) rd value) ≡ Goes (with_register l rd value)
unfolding sets
move-sets l rd value = refl

-- the thread after a word is stored
abbrev pub with_areas : Local → Areas → Local
with_areas l areas = record { areas = areas; core = record { pc = word.add l.core.pc 4; x = l.core.x; chain = l.core.chain } }

-- a word is loaded from an address that is a multiple of 4
pub effect-lw : (l : Local) (rd rs1 at value : ℕ) (imm : ℤ) → word.add (read l.core.x rs1) (word_of imm) ≡ at → at % 4 ≡ 0 → word_at (byte_at l.areas) at ≡ Some value → effect (Instr.Lw rd rs1 imm) (machine_of l) ≡ sets (machine_of l) rd value
unfolding effect loads word_loaded
effect-lw l rd rs1 at value imm address aligned held =
    ap (λ (a : ℕ). loads (machine_of l) rd (word_loaded (byte_at l.areas) a)) address
    ∙ ap (λ (b : Bool). loads (machine_of l) rd (cond b (found (word_at (byte_at l.areas) at)) (Err Misaligned))) (eq-eqb (at % 4) 0 aligned)
    ∙ ap (λ (o : Option ℕ). loads (machine_of l) rd (found o)) held

-- a word is stored to an address that is a multiple of 4
pub move-sw : (l : Local) (rs1 rs2 at : ℕ) (imm : ℤ) → word.add (read l.core.x rs1) (word_of imm) ≡ at → at % 4 ≡ 0 → word_is_writable (is_writable l.areas) at ≡ true →
    local_move l (effect (Instr.Sw rs1 rs2 imm) (machine_of l)) ≡ Goes (with_areas l (with_word with_byte l.areas at (read l.core.x rs2)))
unfolding effect word_stored
move-sw l rs1 rs2 at imm address aligned writable =
    ap (λ (a : ℕ). local_move l (word_stored (machine_of l) a (read l.core.x rs2))) address
    ∙ ap (λ (b : Bool). local_move l (cond b (stores (machine_of l) (word_is_writable (is_writable l.areas) at) (Word at (read l.core.x rs2))) (rows.Fails Misaligned))) (eq-eqb (at % 4) 0 aligned)
    ∙ ap (λ (b : Bool). local_move l (stores (machine_of l) b (Word at (read l.core.x rs2)))) writable
