-- Of an instruction it is decided whether it stands at an address.
use Rattle.decisions.proofs.Common.{ℕ, ◌≡◌, ◌<◌, ◌≤◌, inl, inr, Some, decided_by, both_decided, number_same, option_same, ℤ, pos, negsuc, ◌≤ℤ◌, encoding, Instr, Image, word_at, Stands, Decided}
use Rattle.std.specs.Int.Signed.{◌<ℤ◌, clash_ℤ}
use Rattle.std.proofs.lemmas.Int.{by_lt_z}
use Rattle.rv_code.specs.Field.{low_bits}
use Rattle.rv_code.specs.Range.{IsRegister, IsImmediate, IsUpperImmediate, IsShiftCount, IsBranchOffset, IsJumpOffset}
use Rattle.rv_code.specs.Operands.{IsInRange}
use Rattle.rv_code.specs.declared.instructions.Instr.TheVariants.{Lui, Auipc, Jal, Jalr, Beq, Bne, Blt, Bge, Bltu, Bgeu, Lb, Lh, Lw, Lbu, Lhu, Sb, Sh, Sw, Addi, Slti, Sltiu, Xori, Ori, Andi, Slli, Srli, Srai, Add, Sub, Sll, Slt, Sltu, Xor, Srl, Sra, Or, And, Fence, Mul, Mulh, Mulhsu, Mulhu, Div, Divu, Rem, Remu}
use Rattle.decisions.proofs.Decisions.{lt_decided}

pub three_decided : {P Q R : Type 0} → Decided P → Decided Q → Decided R → Decided (P × Q × R)
three_decided {P} {Q} {R} p q r = decided_by (λ (h : P × (Q × R)). (h.0, h.1.0, h.1.1)) (λ h. (h.0, (h.1, h.2))) (both_decided p (both_decided q r))

whole_decided : (a b : ℤ) → Decided (a ≤ℤ b)
whole_decided a b = by_lt_z {P = Decided (a ≤ℤ b)} b a (λ (below : b <ℤ a). inr (λ le. clash_ℤ below le)) (λ le. inl le)

register_decided : (number : ℕ) → Decided (IsRegister number)
register_decided number = lt_decided number 32

immediate_decided : (z : ℤ) → Decided (IsImmediate z)
immediate_decided z = both_decided (whole_decided (negsuc 2047) z) (whole_decided z (pos 2047))

upper_decided : (z : ℤ) → Decided (IsUpperImmediate z)
upper_decided z = both_decided (whole_decided (pos 0) z) (whole_decided z (pos 1048575))

shift_decided : (z : ℤ) → Decided (IsShiftCount z)
shift_decided z = both_decided (whole_decided (pos 0) z) (whole_decided z (pos 31))

branch_decided : (z : ℤ) → Decided (IsBranchOffset z)
branch_decided z = three_decided (whole_decided (negsuc 4095) z) (whole_decided z (pos 4095)) (number_same (low_bits 1 z) 0)

jump_decided : (z : ℤ) → Decided (IsJumpOffset z)
jump_decided z = three_decided (whole_decided (negsuc 1048575) z) (whole_decided z (pos 1048575)) (number_same (low_bits 1 z) 0)

range_decided : (instr : Instr) → Decided (IsInRange instr)
unfolding IsInRange
range_decided (Lui rd imm) = both_decided (register_decided rd) (upper_decided imm)
range_decided (Auipc rd imm) = both_decided (register_decided rd) (upper_decided imm)
range_decided (Jal rd imm) = both_decided (register_decided rd) (jump_decided imm)
range_decided (Jalr rd rs1 imm) = three_decided (register_decided rd) (register_decided rs1) (immediate_decided imm)
range_decided (Beq rs1 rs2 imm) = three_decided (register_decided rs1) (register_decided rs2) (branch_decided imm)
range_decided (Bne rs1 rs2 imm) = three_decided (register_decided rs1) (register_decided rs2) (branch_decided imm)
range_decided (Blt rs1 rs2 imm) = three_decided (register_decided rs1) (register_decided rs2) (branch_decided imm)
range_decided (Bge rs1 rs2 imm) = three_decided (register_decided rs1) (register_decided rs2) (branch_decided imm)
range_decided (Bltu rs1 rs2 imm) = three_decided (register_decided rs1) (register_decided rs2) (branch_decided imm)
range_decided (Bgeu rs1 rs2 imm) = three_decided (register_decided rs1) (register_decided rs2) (branch_decided imm)
range_decided (Lb rd rs1 imm) = three_decided (register_decided rd) (register_decided rs1) (immediate_decided imm)
range_decided (Lh rd rs1 imm) = three_decided (register_decided rd) (register_decided rs1) (immediate_decided imm)
range_decided (Lw rd rs1 imm) = three_decided (register_decided rd) (register_decided rs1) (immediate_decided imm)
range_decided (Lbu rd rs1 imm) = three_decided (register_decided rd) (register_decided rs1) (immediate_decided imm)
range_decided (Lhu rd rs1 imm) = three_decided (register_decided rd) (register_decided rs1) (immediate_decided imm)
range_decided (Sb rs1 rs2 imm) = three_decided (register_decided rs1) (register_decided rs2) (immediate_decided imm)
range_decided (Sh rs1 rs2 imm) = three_decided (register_decided rs1) (register_decided rs2) (immediate_decided imm)
range_decided (Sw rs1 rs2 imm) = three_decided (register_decided rs1) (register_decided rs2) (immediate_decided imm)
range_decided (Addi rd rs1 imm) = three_decided (register_decided rd) (register_decided rs1) (immediate_decided imm)
range_decided (Slti rd rs1 imm) = three_decided (register_decided rd) (register_decided rs1) (immediate_decided imm)
range_decided (Sltiu rd rs1 imm) = three_decided (register_decided rd) (register_decided rs1) (immediate_decided imm)
range_decided (Xori rd rs1 imm) = three_decided (register_decided rd) (register_decided rs1) (immediate_decided imm)
range_decided (Ori rd rs1 imm) = three_decided (register_decided rd) (register_decided rs1) (immediate_decided imm)
range_decided (Andi rd rs1 imm) = three_decided (register_decided rd) (register_decided rs1) (immediate_decided imm)
range_decided (Slli rd rs1 imm) = three_decided (register_decided rd) (register_decided rs1) (shift_decided imm)
range_decided (Srli rd rs1 imm) = three_decided (register_decided rd) (register_decided rs1) (shift_decided imm)
range_decided (Srai rd rs1 imm) = three_decided (register_decided rd) (register_decided rs1) (shift_decided imm)
range_decided (Add rd rs1 rs2) = three_decided (register_decided rd) (register_decided rs1) (register_decided rs2)
range_decided (Sub rd rs1 rs2) = three_decided (register_decided rd) (register_decided rs1) (register_decided rs2)
range_decided (Sll rd rs1 rs2) = three_decided (register_decided rd) (register_decided rs1) (register_decided rs2)
range_decided (Slt rd rs1 rs2) = three_decided (register_decided rd) (register_decided rs1) (register_decided rs2)
range_decided (Sltu rd rs1 rs2) = three_decided (register_decided rd) (register_decided rs1) (register_decided rs2)
range_decided (Xor rd rs1 rs2) = three_decided (register_decided rd) (register_decided rs1) (register_decided rs2)
range_decided (Srl rd rs1 rs2) = three_decided (register_decided rd) (register_decided rs1) (register_decided rs2)
range_decided (Sra rd rs1 rs2) = three_decided (register_decided rd) (register_decided rs1) (register_decided rs2)
range_decided (Or rd rs1 rs2) = three_decided (register_decided rd) (register_decided rs1) (register_decided rs2)
range_decided (And rd rs1 rs2) = three_decided (register_decided rd) (register_decided rs1) (register_decided rs2)
range_decided (Fence rd rs1 imm) = three_decided (register_decided rd) (register_decided rs1) (immediate_decided imm)
range_decided (Mul rd rs1 rs2) = three_decided (register_decided rd) (register_decided rs1) (register_decided rs2)
range_decided (Mulh rd rs1 rs2) = three_decided (register_decided rd) (register_decided rs1) (register_decided rs2)
range_decided (Mulhsu rd rs1 rs2) = three_decided (register_decided rd) (register_decided rs1) (register_decided rs2)
range_decided (Mulhu rd rs1 rs2) = three_decided (register_decided rd) (register_decided rs1) (register_decided rs2)
range_decided (Div rd rs1 rs2) = three_decided (register_decided rd) (register_decided rs1) (register_decided rs2)
range_decided (Divu rd rs1 rs2) = three_decided (register_decided rd) (register_decided rs1) (register_decided rs2)
range_decided (Rem rd rs1 rs2) = three_decided (register_decided rd) (register_decided rs1) (register_decided rs2)
range_decided (Remu rd rs1 rs2) = three_decided (register_decided rd) (register_decided rs1) (register_decided rs2)
range_decided _ = inl tt

pub stands_decided : (image : Image) (address : ℕ) (instr : Instr) → Decided (Stands image address instr)
stands_decided image address instr =
    decided_by (λ (h : IsInRange instr × (word_at image address ≡ Some (encoding instr))). record { fits = h.0; word = h.1 }) (λ s. (s.fits, s.word))
    (both_decided (range_decided instr) (option_same number_same (word_at image address) (Some (encoding instr))))
