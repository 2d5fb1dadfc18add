-- The operands of an instruction are in their ranges, which the types of its fields enforce.
use Rattle.rv_code.specs.Range.{IsRegister, IsImmediate, IsUpperImmediate, IsShiftCount, IsBranchOffset, IsJumpOffset}
use Rattle.rv_code.specs.declared.instructions.Instr.{Instr}
use Rattle.rv_code.specs.declared.instructions.Instr.TheVariants.{Lui, Auipc, Jal, Jalr, Beq, Bne, Blt, Bge, Bltu, Bgeu, Lb, Lh, Lw, Lbu, Lhu, Sb, Sh, Sw, Addi, Slti, Sltiu, Xori, Ori, Andi, Slli, Srli, Srai, Add, Sub, Sll, Slt, Sltu, Xor, Srl, Sra, Or, And, Fence, Ecall, Ebreak, Mul, Mulh, Mulhsu, Mulhu, Div, Divu, Rem, Remu}

-- each operand is in its range
unfoldable pub IsInRange : Instr → Type 0
IsInRange (Lui rd imm) = IsRegister rd × IsUpperImmediate imm
IsInRange (Auipc rd imm) = IsRegister rd × IsUpperImmediate imm
IsInRange (Jal rd imm) = IsRegister rd × IsJumpOffset imm
IsInRange (Jalr rd rs1 imm) = IsRegister rd × IsRegister rs1 × IsImmediate imm
IsInRange (Beq rs1 rs2 imm) = IsRegister rs1 × IsRegister rs2 × IsBranchOffset imm
IsInRange (Bne rs1 rs2 imm) = IsRegister rs1 × IsRegister rs2 × IsBranchOffset imm
IsInRange (Blt rs1 rs2 imm) = IsRegister rs1 × IsRegister rs2 × IsBranchOffset imm
IsInRange (Bge rs1 rs2 imm) = IsRegister rs1 × IsRegister rs2 × IsBranchOffset imm
IsInRange (Bltu rs1 rs2 imm) = IsRegister rs1 × IsRegister rs2 × IsBranchOffset imm
IsInRange (Bgeu rs1 rs2 imm) = IsRegister rs1 × IsRegister rs2 × IsBranchOffset imm
IsInRange (Lb rd rs1 imm) = IsRegister rd × IsRegister rs1 × IsImmediate imm
IsInRange (Lh rd rs1 imm) = IsRegister rd × IsRegister rs1 × IsImmediate imm
IsInRange (Lw rd rs1 imm) = IsRegister rd × IsRegister rs1 × IsImmediate imm
IsInRange (Lbu rd rs1 imm) = IsRegister rd × IsRegister rs1 × IsImmediate imm
IsInRange (Lhu rd rs1 imm) = IsRegister rd × IsRegister rs1 × IsImmediate imm
IsInRange (Sb rs1 rs2 imm) = IsRegister rs1 × IsRegister rs2 × IsImmediate imm
IsInRange (Sh rs1 rs2 imm) = IsRegister rs1 × IsRegister rs2 × IsImmediate imm
IsInRange (Sw rs1 rs2 imm) = IsRegister rs1 × IsRegister rs2 × IsImmediate imm
IsInRange (Addi rd rs1 imm) = IsRegister rd × IsRegister rs1 × IsImmediate imm
IsInRange (Slti rd rs1 imm) = IsRegister rd × IsRegister rs1 × IsImmediate imm
IsInRange (Sltiu rd rs1 imm) = IsRegister rd × IsRegister rs1 × IsImmediate imm
IsInRange (Xori rd rs1 imm) = IsRegister rd × IsRegister rs1 × IsImmediate imm
IsInRange (Ori rd rs1 imm) = IsRegister rd × IsRegister rs1 × IsImmediate imm
IsInRange (Andi rd rs1 imm) = IsRegister rd × IsRegister rs1 × IsImmediate imm
IsInRange (Slli rd rs1 imm) = IsRegister rd × IsRegister rs1 × IsShiftCount imm
IsInRange (Srli rd rs1 imm) = IsRegister rd × IsRegister rs1 × IsShiftCount imm
IsInRange (Srai rd rs1 imm) = IsRegister rd × IsRegister rs1 × IsShiftCount imm
IsInRange (Add rd rs1 rs2) = IsRegister rd × IsRegister rs1 × IsRegister rs2
IsInRange (Sub rd rs1 rs2) = IsRegister rd × IsRegister rs1 × IsRegister rs2
IsInRange (Sll rd rs1 rs2) = IsRegister rd × IsRegister rs1 × IsRegister rs2
IsInRange (Slt rd rs1 rs2) = IsRegister rd × IsRegister rs1 × IsRegister rs2
IsInRange (Sltu rd rs1 rs2) = IsRegister rd × IsRegister rs1 × IsRegister rs2
IsInRange (Xor rd rs1 rs2) = IsRegister rd × IsRegister rs1 × IsRegister rs2
IsInRange (Srl rd rs1 rs2) = IsRegister rd × IsRegister rs1 × IsRegister rs2
IsInRange (Sra rd rs1 rs2) = IsRegister rd × IsRegister rs1 × IsRegister rs2
IsInRange (Or rd rs1 rs2) = IsRegister rd × IsRegister rs1 × IsRegister rs2
IsInRange (And rd rs1 rs2) = IsRegister rd × IsRegister rs1 × IsRegister rs2
IsInRange (Fence rd rs1 imm) = IsRegister rd × IsRegister rs1 × IsImmediate imm
IsInRange Ecall = Unit {0}
IsInRange Ebreak = Unit {0}
IsInRange (Mul rd rs1 rs2) = IsRegister rd × IsRegister rs1 × IsRegister rs2
IsInRange (Mulh rd rs1 rs2) = IsRegister rd × IsRegister rs1 × IsRegister rs2
IsInRange (Mulhsu rd rs1 rs2) = IsRegister rd × IsRegister rs1 × IsRegister rs2
IsInRange (Mulhu rd rs1 rs2) = IsRegister rd × IsRegister rs1 × IsRegister rs2
IsInRange (Div rd rs1 rs2) = IsRegister rd × IsRegister rs1 × IsRegister rs2
IsInRange (Divu rd rs1 rs2) = IsRegister rd × IsRegister rs1 × IsRegister rs2
IsInRange (Rem rd rs1 rs2) = IsRegister rd × IsRegister rs1 × IsRegister rs2
IsInRange (Remu rd rs1 rs2) = IsRegister rd × IsRegister rs1 × IsRegister rs2
