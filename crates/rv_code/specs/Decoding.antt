-- Decoding: the row of the table that a word fits, by its opcode, and then by funct3 and funct7 if the format
-- has them.
use Rattle.std.specs.Prelude.{◌≡◌, ℕ, ◌==◌, ◌&&◌, if◌then◌else◌, Option, Some, None}
use Rattle.rv_code.specs.Operands.{IsInRange}
use Rattle.rv_code.specs.Table.{encoding}
use Rattle.rv_code.specs.Format.{opcode_of, rd_of, funct3_of, rs1_of, rs2_of, funct7_of, i_immediate, shift_count, s_immediate, b_immediate, u_immediate, j_immediate}
use Rattle.rv_code.specs.declared.instructions.Instr.{Instr}
use Rattle.rv_code.specs.declared.instructions.Instr.TheVariants.{Lui, Auipc, Jal, Jalr, Beq, Bne, Blt, Bge, Bltu, Bgeu, Lb, Lh, Lw, Lbu, Lhu, Sb, Sh, Sw, Addi, Slti, Sltiu, Xori, Ori, Andi, Slli, Srli, Srai, Add, Sub, Sll, Slt, Sltu, Xor, Srl, Sra, Or, And, Fence, Ecall, Ebreak, Mul, Mulh, Mulhsu, Mulhu, Div, Divu, Rem, Remu}

-- JALR
unfoldable pub jump_register : ℕ → Option Instr
jump_register word =
    if funct3_of word == 0b000 then Some (Jalr (rd_of word) (rs1_of word) (i_immediate word)) else
    None

-- the branches
unfoldable pub branch : ℕ → Option Instr
branch word =
    if funct3_of word == 0b000 then Some (Beq (rs1_of word) (rs2_of word) (b_immediate word)) else
    if funct3_of word == 0b001 then Some (Bne (rs1_of word) (rs2_of word) (b_immediate word)) else
    if funct3_of word == 0b100 then Some (Blt (rs1_of word) (rs2_of word) (b_immediate word)) else
    if funct3_of word == 0b101 then Some (Bge (rs1_of word) (rs2_of word) (b_immediate word)) else
    if funct3_of word == 0b110 then Some (Bltu (rs1_of word) (rs2_of word) (b_immediate word)) else
    if funct3_of word == 0b111 then Some (Bgeu (rs1_of word) (rs2_of word) (b_immediate word)) else
    None

-- the loads
unfoldable pub load : ℕ → Option Instr
load word =
    if funct3_of word == 0b000 then Some (Lb (rd_of word) (rs1_of word) (i_immediate word)) else
    if funct3_of word == 0b001 then Some (Lh (rd_of word) (rs1_of word) (i_immediate word)) else
    if funct3_of word == 0b010 then Some (Lw (rd_of word) (rs1_of word) (i_immediate word)) else
    if funct3_of word == 0b100 then Some (Lbu (rd_of word) (rs1_of word) (i_immediate word)) else
    if funct3_of word == 0b101 then Some (Lhu (rd_of word) (rs1_of word) (i_immediate word)) else
    None

-- the stores
unfoldable pub store : ℕ → Option Instr
store word =
    if funct3_of word == 0b000 then Some (Sb (rs1_of word) (rs2_of word) (s_immediate word)) else
    if funct3_of word == 0b001 then Some (Sh (rs1_of word) (rs2_of word) (s_immediate word)) else
    if funct3_of word == 0b010 then Some (Sw (rs1_of word) (rs2_of word) (s_immediate word)) else
    None

-- the shifts by a count
unfoldable pub shift : ℕ → Option Instr
shift word =
    if (funct7_of word == 0b0000000) && (funct3_of word == 0b001) then Some (Slli (rd_of word) (rs1_of word) (shift_count word)) else
    if (funct7_of word == 0b0000000) && (funct3_of word == 0b101) then Some (Srli (rd_of word) (rs1_of word) (shift_count word)) else
    if (funct7_of word == 0b0100000) && (funct3_of word == 0b101) then Some (Srai (rd_of word) (rs1_of word) (shift_count word)) else
    None

-- the arithmetic with an immediate
unfoldable pub with_immediate : ℕ → Option Instr
with_immediate word =
    if funct3_of word == 0b000 then Some (Addi (rd_of word) (rs1_of word) (i_immediate word)) else
    if funct3_of word == 0b010 then Some (Slti (rd_of word) (rs1_of word) (i_immediate word)) else
    if funct3_of word == 0b011 then Some (Sltiu (rd_of word) (rs1_of word) (i_immediate word)) else
    if funct3_of word == 0b100 then Some (Xori (rd_of word) (rs1_of word) (i_immediate word)) else
    if funct3_of word == 0b110 then Some (Ori (rd_of word) (rs1_of word) (i_immediate word)) else
    if funct3_of word == 0b111 then Some (Andi (rd_of word) (rs1_of word) (i_immediate word)) else
    shift word

-- the arithmetic of two registers, funct7 0000000
unfoldable pub base : ℕ → Option Instr
base word =
    if funct3_of word == 0b000 then Some (Add (rd_of word) (rs1_of word) (rs2_of word)) else
    if funct3_of word == 0b001 then Some (Sll (rd_of word) (rs1_of word) (rs2_of word)) else
    if funct3_of word == 0b010 then Some (Slt (rd_of word) (rs1_of word) (rs2_of word)) else
    if funct3_of word == 0b011 then Some (Sltu (rd_of word) (rs1_of word) (rs2_of word)) else
    if funct3_of word == 0b100 then Some (Xor (rd_of word) (rs1_of word) (rs2_of word)) else
    if funct3_of word == 0b101 then Some (Srl (rd_of word) (rs1_of word) (rs2_of word)) else
    if funct3_of word == 0b110 then Some (Or (rd_of word) (rs1_of word) (rs2_of word)) else
    if funct3_of word == 0b111 then Some (And (rd_of word) (rs1_of word) (rs2_of word)) else
    None

-- SUB and SRA, funct7 0100000
unfoldable pub alternate : ℕ → Option Instr
alternate word =
    if funct3_of word == 0b000 then Some (Sub (rd_of word) (rs1_of word) (rs2_of word)) else
    if funct3_of word == 0b101 then Some (Sra (rd_of word) (rs1_of word) (rs2_of word)) else
    None

-- the arithmetic of the chapter "M", funct7 0000001
unfoldable pub multiply : ℕ → Option Instr
multiply word =
    if funct3_of word == 0b000 then Some (Mul (rd_of word) (rs1_of word) (rs2_of word)) else
    if funct3_of word == 0b001 then Some (Mulh (rd_of word) (rs1_of word) (rs2_of word)) else
    if funct3_of word == 0b010 then Some (Mulhsu (rd_of word) (rs1_of word) (rs2_of word)) else
    if funct3_of word == 0b011 then Some (Mulhu (rd_of word) (rs1_of word) (rs2_of word)) else
    if funct3_of word == 0b100 then Some (Div (rd_of word) (rs1_of word) (rs2_of word)) else
    if funct3_of word == 0b101 then Some (Divu (rd_of word) (rs1_of word) (rs2_of word)) else
    if funct3_of word == 0b110 then Some (Rem (rd_of word) (rs1_of word) (rs2_of word)) else
    if funct3_of word == 0b111 then Some (Remu (rd_of word) (rs1_of word) (rs2_of word)) else
    None

-- the arithmetic of two registers
unfoldable pub with_register : ℕ → Option Instr
with_register word =
    if funct7_of word == 0b0000000 then base word else
    if funct7_of word == 0b0100000 then alternate word else
    if funct7_of word == 0b0000001 then multiply word else
    None

-- FENCE
unfoldable pub fence : ℕ → Option Instr
fence word =
    if funct3_of word == 0b000 then Some (Fence (rd_of word) (rs1_of word) (i_immediate word)) else
    None

-- ECALL and EBREAK, which have no fields
unfoldable pub system : ℕ → Option Instr
system word =
    if word == 0x00000073 then Some Ecall else
    if word == 0x00100073 then Some Ebreak else
    None

-- the instruction of a word, or none if no row fits
unfoldable pub decoding : ℕ → Option Instr
decoding word =
    if opcode_of word == 0b0110111 then Some (Lui (rd_of word) (u_immediate word)) else
    if opcode_of word == 0b0010111 then Some (Auipc (rd_of word) (u_immediate word)) else
    if opcode_of word == 0b1101111 then Some (Jal (rd_of word) (j_immediate word)) else
    if opcode_of word == 0b1100111 then jump_register word else
    if opcode_of word == 0b1100011 then branch word else
    if opcode_of word == 0b0000011 then load word else
    if opcode_of word == 0b0100011 then store word else
    if opcode_of word == 0b0010011 then with_immediate word else
    if opcode_of word == 0b0110011 then with_register word else
    if opcode_of word == 0b0001111 then fence word else
    if opcode_of word == 0b1110011 then system word else
    None

-- the result of decoding a word: if there is one, its operands are in their ranges, and it has that word
abbrev pub FitsRow : ℕ → Option Instr → Type 0
FitsRow word None = Unit {0}
FitsRow word (Some instr) = IsInRange instr × (encoding instr ≡ word)
