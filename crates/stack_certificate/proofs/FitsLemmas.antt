-- The test of an instruction's numbers tells whether they are in their ranges.
use Rattle.stack_certificate.proofs.Common.{◌≡◌, ℕ, ◌<◌, Bool, true, false, ◌&&◌, nat_lt, nat_eq, ℤ, pos, negsuc, ◌≤ℤ◌, arith, refl, Some, None, int_le, if◌then◌else◌, common_steps, ints, IsInRange, IsRegister, IsImmediate, IsUpperImmediate, IsShiftCount, IsBranchOffset, IsJumpOffset, Instr, fits_register, fits_immediate, fits_branch, fits_jump, fits_upper, fits_shift, fits, checked}
use Rattle.rv_code.specs.Field.{low_bits}
use Rattle.rv_code.specs.declared.instructions.Instr.TheVariants.{Lui, Auipc, Jal, Jalr, Beq, Bne, Blt, Bge, Bltu, Bgeu, Lb, Lh, Lw, Lbu, Lhu, Sb, Sh, Sw, Addi, Slti, Sltiu, Xori, Ori, Andi, Slli, Srli, Srai, Add, Sub, Sll, Slt, Sltu, Xor, Srl, Sra, Or, And, Fence, Mul, Mulh, Mulhsu, Mulhu, Div, Divu, Rem, Remu}

-- a test that tells whether a fact holds
record Answers (test : Bool) (P : Type 0) : Type 0 where
  yes : test ≡ true → P
  no : test ≡ false → ¬ P

always : Answers true (Unit {0})
always = record { yes = λ h. tt; no = λ h. cc }

and2 : {a b : Bool} {P Q : Type 0} → Answers a P → Answers b Q → Answers (a && b) (P × Q)
and2 {a = true} {b = true} p q = record { yes = λ h. (p.yes refl, q.yes refl); no = λ h. cc }
and2 {a = true} {b = false} p q = record { yes = λ h. cc; no = λ h f. q.no refl f.1 }
and2 {a = false} {b = b} p q = record { yes = λ h. cc; no = λ h f. p.no refl f.0 }

and3 : {a b c : Bool} {P Q R : Type 0} → Answers a P → Answers b Q → Answers c R → Answers (a && b && c) (P × Q × R)
and3 {a = true} {b = true} {c = true} p q r = record { yes = λ h. (p.yes refl, q.yes refl, r.yes refl); no = λ h. cc }
and3 {a = true} {b = true} {c = false} p q r = record { yes = λ h. cc; no = λ h f. r.no refl f.2 }
and3 {a = true} {b = false} {c = c} p q r = record { yes = λ h. cc; no = λ h f. q.no refl f.1 }
and3 {a = false} {b = b} {c = c} p q r = record { yes = λ h. cc; no = λ h f. p.no refl f.0 }

at_most : (x y : ℤ) → Answers (int_le x y) (x ≤ℤ y)
at_most x y = record { yes = λ h. grind (arith, common_steps, ints); no = λ h f. grind (arith, common_steps, ints) }

below : (x y : ℕ) → Answers (nat_lt x y) (x < y)
below x y = record { yes = λ h. grind (arith, common_steps); no = λ h f. grind (arith, common_steps) }

same : (x y : ℕ) → Answers (nat_eq x y) (x ≡ y)
same x y = record { yes = λ h. grind (arith, common_steps); no = λ h f. grind (arith, common_steps) }

register : (number : ℕ) → Answers (fits_register number) (IsRegister number)
register number = below number 32

immediate : (z : ℤ) → Answers (fits_immediate z) (IsImmediate z)
immediate z = and2 (at_most (negsuc 2047) z) (at_most z (pos 2047))

branch : (z : ℤ) → Answers (fits_branch z) (IsBranchOffset z)
branch z = and3 (at_most (negsuc 4095) z) (at_most z (pos 4095)) (same (low_bits 1 z) 0)

jump : (z : ℤ) → Answers (fits_jump z) (IsJumpOffset z)
jump z = and3 (at_most (negsuc 1048575) z) (at_most z (pos 1048575)) (same (low_bits 1 z) 0)

upper : (z : ℤ) → Answers (fits_upper z) (IsUpperImmediate z)
upper z = and2 (at_most (pos 0) z) (at_most z (pos 1048575))

shift : (z : ℤ) → Answers (fits_shift z) (IsShiftCount z)
shift z = and2 (at_most (pos 0) z) (at_most z (pos 31))

fits_answers : (instr : Instr) → Answers (fits instr) (IsInRange instr)
unfolding fits IsInRange
fits_answers (Lui rd imm) = and2 (register rd) (upper imm)
fits_answers (Auipc rd imm) = and2 (register rd) (upper imm)
fits_answers (Jal rd imm) = and2 (register rd) (jump imm)
fits_answers (Jalr rd rs1 imm) = and3 (register rd) (register rs1) (immediate imm)
fits_answers (Beq rs1 rs2 imm) = and3 (register rs1) (register rs2) (branch imm)
fits_answers (Bne rs1 rs2 imm) = and3 (register rs1) (register rs2) (branch imm)
fits_answers (Blt rs1 rs2 imm) = and3 (register rs1) (register rs2) (branch imm)
fits_answers (Bge rs1 rs2 imm) = and3 (register rs1) (register rs2) (branch imm)
fits_answers (Bltu rs1 rs2 imm) = and3 (register rs1) (register rs2) (branch imm)
fits_answers (Bgeu rs1 rs2 imm) = and3 (register rs1) (register rs2) (branch imm)
fits_answers (Lb rd rs1 imm) = and3 (register rd) (register rs1) (immediate imm)
fits_answers (Lh rd rs1 imm) = and3 (register rd) (register rs1) (immediate imm)
fits_answers (Lw rd rs1 imm) = and3 (register rd) (register rs1) (immediate imm)
fits_answers (Lbu rd rs1 imm) = and3 (register rd) (register rs1) (immediate imm)
fits_answers (Lhu rd rs1 imm) = and3 (register rd) (register rs1) (immediate imm)
fits_answers (Sb rs1 rs2 imm) = and3 (register rs1) (register rs2) (immediate imm)
fits_answers (Sh rs1 rs2 imm) = and3 (register rs1) (register rs2) (immediate imm)
fits_answers (Sw rs1 rs2 imm) = and3 (register rs1) (register rs2) (immediate imm)
fits_answers (Addi rd rs1 imm) = and3 (register rd) (register rs1) (immediate imm)
fits_answers (Slti rd rs1 imm) = and3 (register rd) (register rs1) (immediate imm)
fits_answers (Sltiu rd rs1 imm) = and3 (register rd) (register rs1) (immediate imm)
fits_answers (Xori rd rs1 imm) = and3 (register rd) (register rs1) (immediate imm)
fits_answers (Ori rd rs1 imm) = and3 (register rd) (register rs1) (immediate imm)
fits_answers (Andi rd rs1 imm) = and3 (register rd) (register rs1) (immediate imm)
fits_answers (Slli rd rs1 imm) = and3 (register rd) (register rs1) (shift imm)
fits_answers (Srli rd rs1 imm) = and3 (register rd) (register rs1) (shift imm)
fits_answers (Srai rd rs1 imm) = and3 (register rd) (register rs1) (shift imm)
fits_answers (Add rd rs1 rs2) = and3 (register rd) (register rs1) (register rs2)
fits_answers (Sub rd rs1 rs2) = and3 (register rd) (register rs1) (register rs2)
fits_answers (Sll rd rs1 rs2) = and3 (register rd) (register rs1) (register rs2)
fits_answers (Slt rd rs1 rs2) = and3 (register rd) (register rs1) (register rs2)
fits_answers (Sltu rd rs1 rs2) = and3 (register rd) (register rs1) (register rs2)
fits_answers (Xor rd rs1 rs2) = and3 (register rd) (register rs1) (register rs2)
fits_answers (Srl rd rs1 rs2) = and3 (register rd) (register rs1) (register rs2)
fits_answers (Sra rd rs1 rs2) = and3 (register rd) (register rs1) (register rs2)
fits_answers (Or rd rs1 rs2) = and3 (register rd) (register rs1) (register rs2)
fits_answers (And rd rs1 rs2) = and3 (register rd) (register rs1) (register rs2)
fits_answers (Fence rd rs1 imm) = and3 (register rd) (register rs1) (immediate imm)
fits_answers (Mul rd rs1 rs2) = and3 (register rd) (register rs1) (register rs2)
fits_answers (Mulh rd rs1 rs2) = and3 (register rd) (register rs1) (register rs2)
fits_answers (Mulhsu rd rs1 rs2) = and3 (register rd) (register rs1) (register rs2)
fits_answers (Mulhu rd rs1 rs2) = and3 (register rd) (register rs1) (register rs2)
fits_answers (Div rd rs1 rs2) = and3 (register rd) (register rs1) (register rs2)
fits_answers (Divu rd rs1 rs2) = and3 (register rd) (register rs1) (register rs2)
fits_answers (Rem rd rs1 rs2) = and3 (register rd) (register rs1) (register rs2)
fits_answers (Remu rd rs1 rs2) = and3 (register rd) (register rs1) (register rs2)
fits_answers _ = always

chosen-in : (test : Bool) (instr : Instr) → Answers test (IsInRange instr) → IsInRange instr → (if test then Some instr else None) ≡ Some instr
chosen-in true instr answers h = refl
chosen-in false instr answers h = absurd (answers.no refl h)

chosen-out : (test : Bool) (instr : Instr) → Answers test (IsInRange instr) → ¬ (IsInRange instr) → (if test then Some instr else None) ≡ None
chosen-out true instr answers h = absurd (h (answers.yes refl))
chosen-out false instr answers h = refl

chosen-some : (test : Bool) (instr found : Instr) → Answers test (IsInRange instr) → (if test then Some instr else None) ≡ Some found → (IsInRange instr) × (found ≡ instr)
chosen-some true instr found answers h = (answers.yes refl, cc)
chosen-some false instr found answers h = cc

chosen-none : (test : Bool) (instr : Instr) → Answers test (IsInRange instr) → (if test then Some instr else None) ≡ None → ¬ (IsInRange instr)
chosen-none true instr answers h = cc
chosen-none false instr answers h = answers.no refl

pub checked-in : (instr : Instr) → IsInRange instr → checked instr ≡ Some instr
unfolding checked
checked-in instr h = chosen-in (fits instr) instr (fits_answers instr) h

pub checked-out : (instr : Instr) → ¬ (IsInRange instr) → checked instr ≡ None
unfolding checked
checked-out instr h = chosen-out (fits instr) instr (fits_answers instr) h

-- what the test lets through is the instruction, in range
pub checked-some : (instr found : Instr) → checked instr ≡ Some found → (IsInRange instr) × (found ≡ instr)
unfolding checked
checked-some instr found h = chosen-some (fits instr) instr found (fits_answers instr) h

pub checked-none : (instr : Instr) → checked instr ≡ None → ¬ (IsInRange instr)
unfolding checked
checked-none instr h = chosen-none (fits instr) instr (fits_answers instr) h
