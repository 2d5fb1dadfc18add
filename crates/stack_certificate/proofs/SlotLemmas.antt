-- When the instructions that name a place, a frame or a jump's target fit.
use Rattle.stack_certificate.proofs.Common.{◌≡◌, ℕ, ◌<◌, ℤ, pos, arith, sym, Some, None, ints, IsInRange, IsImmediate, IsJumpOffset, Instr, checked, sp}
use Rattle.stack_certificate.proofs.FitsLemmas.{checked-in, checked-out}

pub place_over : (offset : ℕ) → 2047 < offset → ¬ (IsImmediate (pos offset))
place_over offset h f = omega (arith, ints, f.1)

load_range : (rd base : ℕ) (z : ℤ) → rd < 32 → base < 32 → IsImmediate z → IsInRange (Instr.Lw rd base z)
unfolding IsInRange
load_range rd base z r b h = (r, b, h)

load_immediate : (rd base : ℕ) (z : ℤ) → IsInRange (Instr.Lw rd base z) → IsImmediate z
unfolding IsInRange
load_immediate rd base z f = f.2

store_range : (base source : ℕ) (z : ℤ) → base < 32 → source < 32 → IsImmediate z → IsInRange (Instr.Sw base source z)
unfolding IsInRange
store_range base source z b r h = (b, r, h)

store_immediate : (base source : ℕ) (z : ℤ) → IsInRange (Instr.Sw base source z) → IsImmediate z
unfolding IsInRange
store_immediate base source z f = f.2

add_range : (z : ℤ) → IsImmediate z → IsInRange (Instr.Addi sp sp z)
unfolding IsInRange
add_range z h = (omega arith, omega arith, h)

add_immediate : (z : ℤ) → IsInRange (Instr.Addi sp sp z) → IsImmediate z
unfolding IsInRange
add_immediate z f = f.2

jump_range : (rd : ℕ) (z : ℤ) → rd < 32 → IsJumpOffset z → IsInRange (Instr.Jal rd z)
unfolding IsInRange
jump_range rd z r h = (r, h)

jump_immediate : (rd : ℕ) (z : ℤ) → IsInRange (Instr.Jal rd z) → IsJumpOffset z
unfolding IsInRange
jump_immediate rd z f = f.1

pub checked_load : (rd base : ℕ) (imm z : ℤ) → rd < 32 → base < 32 → imm ≡ z → IsImmediate z → Some (Instr.Lw rd base imm) ≡ checked (Instr.Lw rd base z)
checked_load rd base imm z r b e h = rw (e, checked-in (Instr.Lw rd base z) (load_range rd base z r b h))

pub no_load : (rd base : ℕ) (z : ℤ) → ¬ (IsImmediate z) → None ≡ checked (Instr.Lw rd base z)
no_load rd base z h = sym (checked-out _ (λ f. h (load_immediate rd base z f)))

pub checked_store : (base source : ℕ) (imm z : ℤ) → base < 32 → source < 32 → imm ≡ z → IsImmediate z → Some (Instr.Sw base source imm) ≡ checked (Instr.Sw base source z)
checked_store base source imm z b r e h = rw (e, checked-in (Instr.Sw base source z) (store_range base source z b r h))

pub no_store : (base source : ℕ) (z : ℤ) → ¬ (IsImmediate z) → None ≡ checked (Instr.Sw base source z)
no_store base source z h = sym (checked-out _ (λ f. h (store_immediate base source z f)))

pub checked_add : (imm z : ℤ) → imm ≡ z → IsImmediate z → Some (Instr.Addi sp sp imm) ≡ checked (Instr.Addi sp sp z)
checked_add imm z e h = rw (e, checked-in (Instr.Addi sp sp z) (add_range z h))

pub no_add : (z : ℤ) → ¬ (IsImmediate z) → None ≡ checked (Instr.Addi sp sp z)
no_add z h = sym (checked-out _ (λ f. h (add_immediate z f)))

pub checked_jump : (rd : ℕ) (imm z : ℤ) → rd < 32 → imm ≡ z → IsJumpOffset z → Some (Instr.Jal rd imm) ≡ checked (Instr.Jal rd z)
checked_jump rd imm z r e h = rw (e, checked-in (Instr.Jal rd z) (jump_range rd z r h))

pub no_jump : (rd : ℕ) (z : ℤ) → ¬ (IsJumpOffset z) → None ≡ checked (Instr.Jal rd z)
no_jump rd z h = sym (checked-out _ (λ f. h (jump_immediate rd z f)))
