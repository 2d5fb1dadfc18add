-- Whether the numbers of an instruction fit their fields, as a test that can be computed.
use Rattle.std.specs.Prelude.{ℕ, Bool, true, ◌&&◌, nat_lt, nat_eq, if◌then◌else◌, ℤ, pos, negsuc, int_le, Option, Some, None}
use Rattle.rv_code.specs.Field.{low_bits}
use Rattle.rv_code.specs.declared.instructions.Instr.{Instr}
use Rattle.rv_code.specs.declared.instructions.Instr.TheVariants.{Lui, Auipc, Jal, Jalr, Beq, Bne, Blt, Bge, Bltu, Bgeu, Lb, Lh, Lw, Lbu, Lhu, Sb, Sh, Sw, Addi, Slti, Sltiu, Xori, Ori, Andi, Slli, Srli, Srai, Add, Sub, Sll, Slt, Sltu, Xor, Srl, Sra, Or, And, Fence, Ecall, Ebreak, Mul, Mulh, Mulhsu, Mulhu, Div, Divu, Rem, Remu}

-- ---- one number and its field

abbrev pub fits_register : ℕ → Bool
fits_register number = nat_lt number 32

abbrev pub fits_immediate : ℤ → Bool
fits_immediate z = int_le (negsuc 2047) z && int_le z (pos 2047)

abbrev pub fits_branch : ℤ → Bool
fits_branch z = int_le (negsuc 4095) z && int_le z (pos 4095) && nat_eq (low_bits 1 z) 0

abbrev pub fits_jump : ℤ → Bool
fits_jump z = int_le (negsuc 1048575) z && int_le z (pos 1048575) && nat_eq (low_bits 1 z) 0

abbrev pub fits_upper : ℤ → Bool
fits_upper z = int_le (pos 0) z && int_le z (pos 1048575)

abbrev pub fits_shift : ℤ → Bool
fits_shift z = int_le (pos 0) z && int_le z (pos 31)

-- each number fits its field
unfoldable pub fits : Instr → Bool
fits (Lui rd imm) = fits_register rd && fits_upper imm
fits (Auipc rd imm) = fits_register rd && fits_upper imm
fits (Jal rd imm) = fits_register rd && fits_jump imm
fits (Jalr rd rs1 imm) = fits_register rd && fits_register rs1 && fits_immediate imm
fits (Beq rs1 rs2 imm) = fits_register rs1 && fits_register rs2 && fits_branch imm
fits (Bne rs1 rs2 imm) = fits_register rs1 && fits_register rs2 && fits_branch imm
fits (Blt rs1 rs2 imm) = fits_register rs1 && fits_register rs2 && fits_branch imm
fits (Bge rs1 rs2 imm) = fits_register rs1 && fits_register rs2 && fits_branch imm
fits (Bltu rs1 rs2 imm) = fits_register rs1 && fits_register rs2 && fits_branch imm
fits (Bgeu rs1 rs2 imm) = fits_register rs1 && fits_register rs2 && fits_branch imm
fits (Lb rd rs1 imm) = fits_register rd && fits_register rs1 && fits_immediate imm
fits (Lh rd rs1 imm) = fits_register rd && fits_register rs1 && fits_immediate imm
fits (Lw rd rs1 imm) = fits_register rd && fits_register rs1 && fits_immediate imm
fits (Lbu rd rs1 imm) = fits_register rd && fits_register rs1 && fits_immediate imm
fits (Lhu rd rs1 imm) = fits_register rd && fits_register rs1 && fits_immediate imm
fits (Sb rs1 rs2 imm) = fits_register rs1 && fits_register rs2 && fits_immediate imm
fits (Sh rs1 rs2 imm) = fits_register rs1 && fits_register rs2 && fits_immediate imm
fits (Sw rs1 rs2 imm) = fits_register rs1 && fits_register rs2 && fits_immediate imm
fits (Addi rd rs1 imm) = fits_register rd && fits_register rs1 && fits_immediate imm
fits (Slti rd rs1 imm) = fits_register rd && fits_register rs1 && fits_immediate imm
fits (Sltiu rd rs1 imm) = fits_register rd && fits_register rs1 && fits_immediate imm
fits (Xori rd rs1 imm) = fits_register rd && fits_register rs1 && fits_immediate imm
fits (Ori rd rs1 imm) = fits_register rd && fits_register rs1 && fits_immediate imm
fits (Andi rd rs1 imm) = fits_register rd && fits_register rs1 && fits_immediate imm
fits (Slli rd rs1 imm) = fits_register rd && fits_register rs1 && fits_shift imm
fits (Srli rd rs1 imm) = fits_register rd && fits_register rs1 && fits_shift imm
fits (Srai rd rs1 imm) = fits_register rd && fits_register rs1 && fits_shift imm
fits (Add rd rs1 rs2) = fits_register rd && fits_register rs1 && fits_register rs2
fits (Sub rd rs1 rs2) = fits_register rd && fits_register rs1 && fits_register rs2
fits (Sll rd rs1 rs2) = fits_register rd && fits_register rs1 && fits_register rs2
fits (Slt rd rs1 rs2) = fits_register rd && fits_register rs1 && fits_register rs2
fits (Sltu rd rs1 rs2) = fits_register rd && fits_register rs1 && fits_register rs2
fits (Xor rd rs1 rs2) = fits_register rd && fits_register rs1 && fits_register rs2
fits (Srl rd rs1 rs2) = fits_register rd && fits_register rs1 && fits_register rs2
fits (Sra rd rs1 rs2) = fits_register rd && fits_register rs1 && fits_register rs2
fits (Or rd rs1 rs2) = fits_register rd && fits_register rs1 && fits_register rs2
fits (And rd rs1 rs2) = fits_register rd && fits_register rs1 && fits_register rs2
fits (Fence rd rs1 imm) = fits_register rd && fits_register rs1 && fits_immediate imm
fits Ecall = true
fits Ebreak = true
fits (Mul rd rs1 rs2) = fits_register rd && fits_register rs1 && fits_register rs2
fits (Mulh rd rs1 rs2) = fits_register rd && fits_register rs1 && fits_register rs2
fits (Mulhsu rd rs1 rs2) = fits_register rd && fits_register rs1 && fits_register rs2
fits (Mulhu rd rs1 rs2) = fits_register rd && fits_register rs1 && fits_register rs2
fits (Div rd rs1 rs2) = fits_register rd && fits_register rs1 && fits_register rs2
fits (Divu rd rs1 rs2) = fits_register rd && fits_register rs1 && fits_register rs2
fits (Rem rd rs1 rs2) = fits_register rd && fits_register rs1 && fits_register rs2
fits (Remu rd rs1 rs2) = fits_register rd && fits_register rs1 && fits_register rs2

-- the instruction, if each number fits its field
unfoldable pub checked : Instr → Option Instr
checked instr = if fits instr then Some instr else None
