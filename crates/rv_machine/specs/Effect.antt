-- The table of instructions: the effect of each, in the order of the tables of the RISC-V unprivileged
-- manual (chapters "RV32I", version 2.1, and "M", version 2.0).
use Rattle.std.specs.Prelude.{ℕ, ℤ, ◌==◌, ◌-◌, ◌*◌, ◌%◌, ◌^◌, not, int_lt, nat_lt, bit_and, bit_or, bit_xor}
use Rattle.cap_word.specs.Word as word
use Rattle.cap_word.specs.Word.{word_of, signed}
use Rattle.cap_word.specs.declared.faults.FaultKind.TheVariants.{Break}
use Rattle.rv_code.specs.declared.instructions.Instr.{Instr}
use Rattle.rv_code.specs.declared.instructions.Instr.TheVariants.{Lui, Auipc, Jal, Jalr, Beq, Bne, Blt, Bge, Bltu, Bgeu, Lb, Lh, Lw, Lbu, Lhu, Sb, Sh, Sw, Addi, Slti, Sltiu, Xori, Ori, Andi, Slli, Srli, Srai, Add, Sub, Sll, Slt, Sltu, Xor, Srl, Sra, Or, And, Fence, Ecall, Ebreak, Mul, Mulh, Mulhsu, Mulhu, Div, Divu, Rem, Remu}
use Rattle.rv_machine.specs.Registers.{read}
use Rattle.rv_machine.specs.Rows.{Machine, Outcome, Asks, Fails, address, relative, passes, sets, jumps, branches, byte_loaded, half_loaded, word_loaded, extended, loads, byte_stored, half_stored, word_stored}

-- the value that LUI and AUIPC place
abbrev pub upper : ℤ → ℕ
upper imm = word_of imm * 2 ^ 12 % 2 ^ 32

-- the effect of an instruction on the machine
unfoldable pub effect : Instr → Machine → Outcome
effect (Lui rd imm) m = sets m rd (upper imm)
effect (Auipc rd imm) m = sets m rd (word.add m.pc (upper imm))
effect (Jal rd imm) m = jumps m rd (relative m imm)
effect (Jalr rd rs1 imm) m = jumps m rd (address m rs1 imm - address m rs1 imm % 2)
effect (Beq rs1 rs2 imm) m = branches m imm (read m.x rs1 == read m.x rs2)
effect (Bne rs1 rs2 imm) m = branches m imm (not (read m.x rs1 == read m.x rs2))
effect (Blt rs1 rs2 imm) m = branches m imm (int_lt (signed (read m.x rs1)) (signed (read m.x rs2)))
effect (Bge rs1 rs2 imm) m = branches m imm (not (int_lt (signed (read m.x rs1)) (signed (read m.x rs2))))
effect (Bltu rs1 rs2 imm) m = branches m imm (nat_lt (read m.x rs1) (read m.x rs2))
effect (Bgeu rs1 rs2 imm) m = branches m imm (not (nat_lt (read m.x rs1) (read m.x rs2)))
effect (Lb rd rs1 imm) m = loads m rd (extended 8 (byte_loaded m.bytes (address m rs1 imm)))
effect (Lh rd rs1 imm) m = loads m rd (extended 16 (half_loaded m.bytes (address m rs1 imm)))
effect (Lw rd rs1 imm) m = loads m rd (word_loaded m.bytes (address m rs1 imm))
effect (Lbu rd rs1 imm) m = loads m rd (byte_loaded m.bytes (address m rs1 imm))
effect (Lhu rd rs1 imm) m = loads m rd (half_loaded m.bytes (address m rs1 imm))
effect (Sb rs1 rs2 imm) m = byte_stored m (address m rs1 imm) (read m.x rs2)
effect (Sh rs1 rs2 imm) m = half_stored m (address m rs1 imm) (read m.x rs2)
effect (Sw rs1 rs2 imm) m = word_stored m (address m rs1 imm) (read m.x rs2)
effect (Addi rd rs1 imm) m = sets m rd (word.add (read m.x rs1) (word_of imm))
effect (Slti rd rs1 imm) m = sets m rd (word.slt (read m.x rs1) (word_of imm))
effect (Sltiu rd rs1 imm) m = sets m rd (word.sltu (read m.x rs1) (word_of imm))
effect (Xori rd rs1 imm) m = sets m rd (bit_xor (read m.x rs1) (word_of imm))
effect (Ori rd rs1 imm) m = sets m rd (bit_or (read m.x rs1) (word_of imm))
effect (Andi rd rs1 imm) m = sets m rd (bit_and (read m.x rs1) (word_of imm))
effect (Slli rd rs1 imm) m = sets m rd (word.sll (read m.x rs1) (word_of imm))
effect (Srli rd rs1 imm) m = sets m rd (word.srl (read m.x rs1) (word_of imm))
effect (Srai rd rs1 imm) m = sets m rd (word.sra (read m.x rs1) (word_of imm))
effect (Add rd rs1 rs2) m = sets m rd (word.add (read m.x rs1) (read m.x rs2))
effect (Sub rd rs1 rs2) m = sets m rd (word.sub (read m.x rs1) (read m.x rs2))
effect (Sll rd rs1 rs2) m = sets m rd (word.sll (read m.x rs1) (read m.x rs2))
effect (Slt rd rs1 rs2) m = sets m rd (word.slt (read m.x rs1) (read m.x rs2))
effect (Sltu rd rs1 rs2) m = sets m rd (word.sltu (read m.x rs1) (read m.x rs2))
effect (Xor rd rs1 rs2) m = sets m rd (bit_xor (read m.x rs1) (read m.x rs2))
effect (Srl rd rs1 rs2) m = sets m rd (word.srl (read m.x rs1) (read m.x rs2))
effect (Sra rd rs1 rs2) m = sets m rd (word.sra (read m.x rs1) (read m.x rs2))
effect (Or rd rs1 rs2) m = sets m rd (bit_or (read m.x rs1) (read m.x rs2))
effect (And rd rs1 rs2) m = sets m rd (bit_and (read m.x rs1) (read m.x rs2))
effect (Fence rd rs1 imm) m = passes m
effect Ecall m = Asks (read m.x 17)
effect Ebreak m = Fails Break
effect (Mul rd rs1 rs2) m = sets m rd (word.mul (read m.x rs1) (read m.x rs2))
effect (Mulh rd rs1 rs2) m = sets m rd (word.mulh (read m.x rs1) (read m.x rs2))
effect (Mulhsu rd rs1 rs2) m = sets m rd (word.mulhsu (read m.x rs1) (read m.x rs2))
effect (Mulhu rd rs1 rs2) m = sets m rd (word.mulhu (read m.x rs1) (read m.x rs2))
effect (Div rd rs1 rs2) m = sets m rd (word.div (read m.x rs1) (read m.x rs2))
effect (Divu rd rs1 rs2) m = sets m rd (word.divu (read m.x rs1) (read m.x rs2))
effect (Rem rd rs1 rs2) m = sets m rd (word.rem (read m.x rs1) (read m.x rs2))
effect (Remu rd rs1 rs2) m = sets m rd (word.remu (read m.x rs1) (read m.x rs2))
