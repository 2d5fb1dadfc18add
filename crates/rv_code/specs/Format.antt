-- The formats of instruction words, as sums of fields times powers of two: RISC-V unprivileged manual,
-- chapter "RV32I", sections "Base Instruction Formats" and "Immediate Encoding Variants". Each lists its
-- fields from bit 31 down.
use Rattle.std.specs.Prelude.{ℕ, ◌+◌, ◌*◌, ◌^◌, ℤ, pos}
use Rattle.rv_code.specs.Field.{field, low_bits, signed}

-- funct7 | rs2 | rs1 | funct3 | rd | opcode
abbrev pub r_type : (funct7 rs2 rs1 funct3 rd opcode : ℕ) → ℕ
r_type funct7 rs2 rs1 funct3 rd opcode =
    funct7 * 2 ^ 25 + rs2 * 2 ^ 20 + rs1 * 2 ^ 15 + funct3 * 2 ^ 12 + rd * 2 ^ 7 + opcode

-- imm[11:0] | rs1 | funct3 | rd | opcode
abbrev pub i_type : (imm : ℤ) (rs1 funct3 rd opcode : ℕ) → ℕ
i_type imm rs1 funct3 rd opcode =
    low_bits 12 imm * 2 ^ 20 + rs1 * 2 ^ 15 + funct3 * 2 ^ 12 + rd * 2 ^ 7 + opcode

-- funct7 | imm[4:0] | rs1 | funct3 | rd | opcode, for the shifts by a count
abbrev pub shift_type : (funct7 : ℕ) (imm : ℤ) (rs1 funct3 rd opcode : ℕ) → ℕ
shift_type funct7 imm rs1 funct3 rd opcode = r_type funct7 (low_bits 5 imm) rs1 funct3 rd opcode

-- imm[11:5] | rs2 | rs1 | funct3 | imm[4:0] | opcode
abbrev pub s_type : (imm : ℤ) (rs2 rs1 funct3 opcode : ℕ) → ℕ
s_type imm rs2 rs1 funct3 opcode =
    let bits = low_bits 12 imm in
    field bits 5 7 * 2 ^ 25 + rs2 * 2 ^ 20 + rs1 * 2 ^ 15 + funct3 * 2 ^ 12 + field bits 0 5 * 2 ^ 7 + opcode

-- imm[12] | imm[10:5] | rs2 | rs1 | funct3 | imm[4:1] | imm[11] | opcode
abbrev pub b_type : (imm : ℤ) (rs2 rs1 funct3 opcode : ℕ) → ℕ
b_type imm rs2 rs1 funct3 opcode =
    let bits = low_bits 13 imm in
    field bits 12 1 * 2 ^ 31 + field bits 5 6 * 2 ^ 25 + rs2 * 2 ^ 20 + rs1 * 2 ^ 15 + funct3 * 2 ^ 12 + field bits 1 4 * 2 ^ 8 + field bits 11 1 * 2 ^ 7 + opcode

-- imm[31:12] | rd | opcode; the immediate is this field of 20 bits
abbrev pub u_type : (imm : ℤ) (rd opcode : ℕ) → ℕ
u_type imm rd opcode = low_bits 20 imm * 2 ^ 12 + rd * 2 ^ 7 + opcode

-- imm[20] | imm[10:1] | imm[11] | imm[19:12] | rd | opcode
abbrev pub j_type : (imm : ℤ) (rd opcode : ℕ) → ℕ
j_type imm rd opcode =
    let bits = low_bits 21 imm in
    field bits 20 1 * 2 ^ 31 + field bits 1 10 * 2 ^ 21 + field bits 11 1 * 2 ^ 20 + field bits 12 8 * 2 ^ 12 + rd * 2 ^ 7 + opcode

-- ---- the fields of a word

abbrev pub opcode_of : ℕ → ℕ
opcode_of word = field word 0 7

abbrev pub rd_of : ℕ → ℕ
rd_of word = field word 7 5

abbrev pub funct3_of : ℕ → ℕ
funct3_of word = field word 12 3

abbrev pub rs1_of : ℕ → ℕ
rs1_of word = field word 15 5

abbrev pub rs2_of : ℕ → ℕ
rs2_of word = field word 20 5

abbrev pub funct7_of : ℕ → ℕ
funct7_of word = field word 25 7

-- ---- the immediate in a word of each format

abbrev pub i_immediate : ℕ → ℤ
i_immediate word = signed 12 (field word 20 12)

abbrev pub shift_count : ℕ → ℤ
shift_count word = pos (field word 20 5)

abbrev pub s_immediate : ℕ → ℤ
s_immediate word = signed 12 (field word 25 7 * 2 ^ 5 + field word 7 5)

abbrev pub b_immediate : ℕ → ℤ
b_immediate word =
    signed 13 (field word 31 1 * 2 ^ 12 + field word 7 1 * 2 ^ 11 + field word 25 6 * 2 ^ 5 + field word 8 4 * 2)

abbrev pub u_immediate : ℕ → ℤ
u_immediate word = pos (field word 12 20)

abbrev pub j_immediate : ℕ → ℤ
j_immediate word =
    signed 21 (field word 31 1 * 2 ^ 20 + field word 12 8 * 2 ^ 12 + field word 20 1 * 2 ^ 11 + field word 21 10 * 2)
