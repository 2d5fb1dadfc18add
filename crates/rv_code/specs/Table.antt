-- The table of instructions: the word of each, in the order of the tables of the RISC-V unprivileged manual
-- (chapters "RV32I", version 2.1, and "M", version 2.0).
use Rattle.std.specs.Prelude.{ℕ}
use Rattle.rv_code.specs.Format.{r_type, i_type, shift_type, s_type, b_type, u_type, j_type}
use Rattle.rv_code.specs.declared.instructions.Instr.{Instr}
use Rattle.rv_code.specs.declared.instructions.Instr.TheVariants.{Lui, Auipc, Jal, Jalr, Beq, Bne, Blt, Bge, Bltu, Bgeu, Lb, Lh, Lw, Lbu, Lhu, Sb, Sh, Sw, Addi, Slti, Sltiu, Xori, Ori, Andi, Slli, Srli, Srai, Add, Sub, Sll, Slt, Sltu, Xor, Srl, Sra, Or, And, Fence, Ecall, Ebreak, Mul, Mulh, Mulhsu, Mulhu, Div, Divu, Rem, Remu}

-- the word of an instruction
unfoldable pub encoding : Instr → ℕ
encoding (Lui rd imm) = u_type imm rd 0b0110111
encoding (Auipc rd imm) = u_type imm rd 0b0010111
encoding (Jal rd imm) = j_type imm rd 0b1101111
encoding (Jalr rd rs1 imm) = i_type imm rs1 0b000 rd 0b1100111
encoding (Beq rs1 rs2 imm) = b_type imm rs2 rs1 0b000 0b1100011
encoding (Bne rs1 rs2 imm) = b_type imm rs2 rs1 0b001 0b1100011
encoding (Blt rs1 rs2 imm) = b_type imm rs2 rs1 0b100 0b1100011
encoding (Bge rs1 rs2 imm) = b_type imm rs2 rs1 0b101 0b1100011
encoding (Bltu rs1 rs2 imm) = b_type imm rs2 rs1 0b110 0b1100011
encoding (Bgeu rs1 rs2 imm) = b_type imm rs2 rs1 0b111 0b1100011
encoding (Lb rd rs1 imm) = i_type imm rs1 0b000 rd 0b0000011
encoding (Lh rd rs1 imm) = i_type imm rs1 0b001 rd 0b0000011
encoding (Lw rd rs1 imm) = i_type imm rs1 0b010 rd 0b0000011
encoding (Lbu rd rs1 imm) = i_type imm rs1 0b100 rd 0b0000011
encoding (Lhu rd rs1 imm) = i_type imm rs1 0b101 rd 0b0000011
encoding (Sb rs1 rs2 imm) = s_type imm rs2 rs1 0b000 0b0100011
encoding (Sh rs1 rs2 imm) = s_type imm rs2 rs1 0b001 0b0100011
encoding (Sw rs1 rs2 imm) = s_type imm rs2 rs1 0b010 0b0100011
encoding (Addi rd rs1 imm) = i_type imm rs1 0b000 rd 0b0010011
encoding (Slti rd rs1 imm) = i_type imm rs1 0b010 rd 0b0010011
encoding (Sltiu rd rs1 imm) = i_type imm rs1 0b011 rd 0b0010011
encoding (Xori rd rs1 imm) = i_type imm rs1 0b100 rd 0b0010011
encoding (Ori rd rs1 imm) = i_type imm rs1 0b110 rd 0b0010011
encoding (Andi rd rs1 imm) = i_type imm rs1 0b111 rd 0b0010011
encoding (Slli rd rs1 imm) = shift_type 0b0000000 imm rs1 0b001 rd 0b0010011
encoding (Srli rd rs1 imm) = shift_type 0b0000000 imm rs1 0b101 rd 0b0010011
encoding (Srai rd rs1 imm) = shift_type 0b0100000 imm rs1 0b101 rd 0b0010011
encoding (Add rd rs1 rs2) = r_type 0b0000000 rs2 rs1 0b000 rd 0b0110011
encoding (Sub rd rs1 rs2) = r_type 0b0100000 rs2 rs1 0b000 rd 0b0110011
encoding (Sll rd rs1 rs2) = r_type 0b0000000 rs2 rs1 0b001 rd 0b0110011
encoding (Slt rd rs1 rs2) = r_type 0b0000000 rs2 rs1 0b010 rd 0b0110011
encoding (Sltu rd rs1 rs2) = r_type 0b0000000 rs2 rs1 0b011 rd 0b0110011
encoding (Xor rd rs1 rs2) = r_type 0b0000000 rs2 rs1 0b100 rd 0b0110011
encoding (Srl rd rs1 rs2) = r_type 0b0000000 rs2 rs1 0b101 rd 0b0110011
encoding (Sra rd rs1 rs2) = r_type 0b0100000 rs2 rs1 0b101 rd 0b0110011
encoding (Or rd rs1 rs2) = r_type 0b0000000 rs2 rs1 0b110 rd 0b0110011
encoding (And rd rs1 rs2) = r_type 0b0000000 rs2 rs1 0b111 rd 0b0110011
encoding (Fence rd rs1 imm) = i_type imm rs1 0b000 rd 0b0001111
encoding Ecall = 0x00000073
encoding Ebreak = 0x00100073
encoding (Mul rd rs1 rs2) = r_type 0b0000001 rs2 rs1 0b000 rd 0b0110011
encoding (Mulh rd rs1 rs2) = r_type 0b0000001 rs2 rs1 0b001 rd 0b0110011
encoding (Mulhsu rd rs1 rs2) = r_type 0b0000001 rs2 rs1 0b010 rd 0b0110011
encoding (Mulhu rd rs1 rs2) = r_type 0b0000001 rs2 rs1 0b011 rd 0b0110011
encoding (Div rd rs1 rs2) = r_type 0b0000001 rs2 rs1 0b100 rd 0b0110011
encoding (Divu rd rs1 rs2) = r_type 0b0000001 rs2 rs1 0b101 rd 0b0110011
encoding (Rem rd rs1 rs2) = r_type 0b0000001 rs2 rs1 0b110 rd 0b0110011
encoding (Remu rd rs1 rs2) = r_type 0b0000001 rs2 rs1 0b111 rd 0b0110011
