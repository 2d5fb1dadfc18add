-- Decoding, a row of the table at a time: which instruction the opcode, funct3 and funct7 of a word choose.
use Rattle.std.proofs.Common.{◌≡◌, ℕ, Some, refl}
use Rattle.rv_code.specs.Format.{opcode_of, rd_of, funct3_of, rs1_of, rs2_of, funct7_of, i_immediate, shift_count, s_immediate, b_immediate, u_immediate, j_immediate}
use Rattle.rv_code.specs.Decoding.{jump_register, branch, load, store, shift, with_immediate, base, alternate, multiply, with_register, fence, decoding}
use Rattle.rv_code.specs.declared.instructions.Instr.TheVariants.{Lui, Auipc, Jal, Jalr, Beq, Bne, Blt, Bge, Bltu, Bgeu, Lb, Lh, Lw, Lbu, Lhu, Sb, Sh, Sw, Addi, Slti, Sltiu, Xori, Ori, Andi, Slli, Srli, Srai, Add, Sub, Sll, Slt, Sltu, Xor, Srl, Sra, Or, And, Fence, Mul, Mulh, Mulhsu, Mulhu, Div, Divu, Rem, Remu}

pub row-Lui : (word : ℕ) → opcode_of word ≡ 0b0110111 → decoding word ≡ Some (Lui (rd_of word) (u_immediate word))
unfolding decoding
row-Lui word opcode = rw (opcode) refl

pub row-Auipc : (word : ℕ) → opcode_of word ≡ 0b0010111 → decoding word ≡ Some (Auipc (rd_of word) (u_immediate word))
unfolding decoding
row-Auipc word opcode = rw (opcode) refl

pub row-Jal : (word : ℕ) → opcode_of word ≡ 0b1101111 → decoding word ≡ Some (Jal (rd_of word) (j_immediate word))
unfolding decoding
row-Jal word opcode = rw (opcode) refl

pub row-Jalr : (word : ℕ) → opcode_of word ≡ 0b1100111 → funct3_of word ≡ 0b000 → decoding word ≡ Some (Jalr (rd_of word) (rs1_of word) (i_immediate word))
unfolding decoding jump_register
row-Jalr word opcode funct3 = rw (opcode, funct3) refl

pub row-Beq : (word : ℕ) → opcode_of word ≡ 0b1100011 → funct3_of word ≡ 0b000 → decoding word ≡ Some (Beq (rs1_of word) (rs2_of word) (b_immediate word))
unfolding decoding branch
row-Beq word opcode funct3 = rw (opcode, funct3) refl

pub row-Bne : (word : ℕ) → opcode_of word ≡ 0b1100011 → funct3_of word ≡ 0b001 → decoding word ≡ Some (Bne (rs1_of word) (rs2_of word) (b_immediate word))
unfolding decoding branch
row-Bne word opcode funct3 = rw (opcode, funct3) refl

pub row-Blt : (word : ℕ) → opcode_of word ≡ 0b1100011 → funct3_of word ≡ 0b100 → decoding word ≡ Some (Blt (rs1_of word) (rs2_of word) (b_immediate word))
unfolding decoding branch
row-Blt word opcode funct3 = rw (opcode, funct3) refl

pub row-Bge : (word : ℕ) → opcode_of word ≡ 0b1100011 → funct3_of word ≡ 0b101 → decoding word ≡ Some (Bge (rs1_of word) (rs2_of word) (b_immediate word))
unfolding decoding branch
row-Bge word opcode funct3 = rw (opcode, funct3) refl

pub row-Bltu : (word : ℕ) → opcode_of word ≡ 0b1100011 → funct3_of word ≡ 0b110 → decoding word ≡ Some (Bltu (rs1_of word) (rs2_of word) (b_immediate word))
unfolding decoding branch
row-Bltu word opcode funct3 = rw (opcode, funct3) refl

pub row-Bgeu : (word : ℕ) → opcode_of word ≡ 0b1100011 → funct3_of word ≡ 0b111 → decoding word ≡ Some (Bgeu (rs1_of word) (rs2_of word) (b_immediate word))
unfolding decoding branch
row-Bgeu word opcode funct3 = rw (opcode, funct3) refl

pub row-Lb : (word : ℕ) → opcode_of word ≡ 0b0000011 → funct3_of word ≡ 0b000 → decoding word ≡ Some (Lb (rd_of word) (rs1_of word) (i_immediate word))
unfolding decoding load
row-Lb word opcode funct3 = rw (opcode, funct3) refl

pub row-Lh : (word : ℕ) → opcode_of word ≡ 0b0000011 → funct3_of word ≡ 0b001 → decoding word ≡ Some (Lh (rd_of word) (rs1_of word) (i_immediate word))
unfolding decoding load
row-Lh word opcode funct3 = rw (opcode, funct3) refl

pub row-Lw : (word : ℕ) → opcode_of word ≡ 0b0000011 → funct3_of word ≡ 0b010 → decoding word ≡ Some (Lw (rd_of word) (rs1_of word) (i_immediate word))
unfolding decoding load
row-Lw word opcode funct3 = rw (opcode, funct3) refl

pub row-Lbu : (word : ℕ) → opcode_of word ≡ 0b0000011 → funct3_of word ≡ 0b100 → decoding word ≡ Some (Lbu (rd_of word) (rs1_of word) (i_immediate word))
unfolding decoding load
row-Lbu word opcode funct3 = rw (opcode, funct3) refl

pub row-Lhu : (word : ℕ) → opcode_of word ≡ 0b0000011 → funct3_of word ≡ 0b101 → decoding word ≡ Some (Lhu (rd_of word) (rs1_of word) (i_immediate word))
unfolding decoding load
row-Lhu word opcode funct3 = rw (opcode, funct3) refl

pub row-Sb : (word : ℕ) → opcode_of word ≡ 0b0100011 → funct3_of word ≡ 0b000 → decoding word ≡ Some (Sb (rs1_of word) (rs2_of word) (s_immediate word))
unfolding decoding store
row-Sb word opcode funct3 = rw (opcode, funct3) refl

pub row-Sh : (word : ℕ) → opcode_of word ≡ 0b0100011 → funct3_of word ≡ 0b001 → decoding word ≡ Some (Sh (rs1_of word) (rs2_of word) (s_immediate word))
unfolding decoding store
row-Sh word opcode funct3 = rw (opcode, funct3) refl

pub row-Sw : (word : ℕ) → opcode_of word ≡ 0b0100011 → funct3_of word ≡ 0b010 → decoding word ≡ Some (Sw (rs1_of word) (rs2_of word) (s_immediate word))
unfolding decoding store
row-Sw word opcode funct3 = rw (opcode, funct3) refl

pub row-Addi : (word : ℕ) → opcode_of word ≡ 0b0010011 → funct3_of word ≡ 0b000 → decoding word ≡ Some (Addi (rd_of word) (rs1_of word) (i_immediate word))
unfolding decoding with_immediate
row-Addi word opcode funct3 = rw (opcode, funct3) refl

pub row-Slti : (word : ℕ) → opcode_of word ≡ 0b0010011 → funct3_of word ≡ 0b010 → decoding word ≡ Some (Slti (rd_of word) (rs1_of word) (i_immediate word))
unfolding decoding with_immediate
row-Slti word opcode funct3 = rw (opcode, funct3) refl

pub row-Sltiu : (word : ℕ) → opcode_of word ≡ 0b0010011 → funct3_of word ≡ 0b011 → decoding word ≡ Some (Sltiu (rd_of word) (rs1_of word) (i_immediate word))
unfolding decoding with_immediate
row-Sltiu word opcode funct3 = rw (opcode, funct3) refl

pub row-Xori : (word : ℕ) → opcode_of word ≡ 0b0010011 → funct3_of word ≡ 0b100 → decoding word ≡ Some (Xori (rd_of word) (rs1_of word) (i_immediate word))
unfolding decoding with_immediate
row-Xori word opcode funct3 = rw (opcode, funct3) refl

pub row-Ori : (word : ℕ) → opcode_of word ≡ 0b0010011 → funct3_of word ≡ 0b110 → decoding word ≡ Some (Ori (rd_of word) (rs1_of word) (i_immediate word))
unfolding decoding with_immediate
row-Ori word opcode funct3 = rw (opcode, funct3) refl

pub row-Andi : (word : ℕ) → opcode_of word ≡ 0b0010011 → funct3_of word ≡ 0b111 → decoding word ≡ Some (Andi (rd_of word) (rs1_of word) (i_immediate word))
unfolding decoding with_immediate
row-Andi word opcode funct3 = rw (opcode, funct3) refl

pub row-Slli : (word : ℕ) → opcode_of word ≡ 0b0010011 → funct3_of word ≡ 0b001 → funct7_of word ≡ 0b0000000 → decoding word ≡ Some (Slli (rd_of word) (rs1_of word) (shift_count word))
unfolding decoding with_immediate shift
row-Slli word opcode funct3 funct7 = rw (opcode, funct3, funct7) refl

pub row-Srli : (word : ℕ) → opcode_of word ≡ 0b0010011 → funct3_of word ≡ 0b101 → funct7_of word ≡ 0b0000000 → decoding word ≡ Some (Srli (rd_of word) (rs1_of word) (shift_count word))
unfolding decoding with_immediate shift
row-Srli word opcode funct3 funct7 = rw (opcode, funct3, funct7) refl

pub row-Srai : (word : ℕ) → opcode_of word ≡ 0b0010011 → funct3_of word ≡ 0b101 → funct7_of word ≡ 0b0100000 → decoding word ≡ Some (Srai (rd_of word) (rs1_of word) (shift_count word))
unfolding decoding with_immediate shift
row-Srai word opcode funct3 funct7 = rw (opcode, funct3, funct7) refl

pub row-Add : (word : ℕ) → opcode_of word ≡ 0b0110011 → funct3_of word ≡ 0b000 → funct7_of word ≡ 0b0000000 → decoding word ≡ Some (Add (rd_of word) (rs1_of word) (rs2_of word))
unfolding decoding with_register base
row-Add word opcode funct3 funct7 = rw (opcode, funct3, funct7) refl

pub row-Sub : (word : ℕ) → opcode_of word ≡ 0b0110011 → funct3_of word ≡ 0b000 → funct7_of word ≡ 0b0100000 → decoding word ≡ Some (Sub (rd_of word) (rs1_of word) (rs2_of word))
unfolding decoding with_register alternate
row-Sub word opcode funct3 funct7 = rw (opcode, funct3, funct7) refl

pub row-Sll : (word : ℕ) → opcode_of word ≡ 0b0110011 → funct3_of word ≡ 0b001 → funct7_of word ≡ 0b0000000 → decoding word ≡ Some (Sll (rd_of word) (rs1_of word) (rs2_of word))
unfolding decoding with_register base
row-Sll word opcode funct3 funct7 = rw (opcode, funct3, funct7) refl

pub row-Slt : (word : ℕ) → opcode_of word ≡ 0b0110011 → funct3_of word ≡ 0b010 → funct7_of word ≡ 0b0000000 → decoding word ≡ Some (Slt (rd_of word) (rs1_of word) (rs2_of word))
unfolding decoding with_register base
row-Slt word opcode funct3 funct7 = rw (opcode, funct3, funct7) refl

pub row-Sltu : (word : ℕ) → opcode_of word ≡ 0b0110011 → funct3_of word ≡ 0b011 → funct7_of word ≡ 0b0000000 → decoding word ≡ Some (Sltu (rd_of word) (rs1_of word) (rs2_of word))
unfolding decoding with_register base
row-Sltu word opcode funct3 funct7 = rw (opcode, funct3, funct7) refl

pub row-Xor : (word : ℕ) → opcode_of word ≡ 0b0110011 → funct3_of word ≡ 0b100 → funct7_of word ≡ 0b0000000 → decoding word ≡ Some (Xor (rd_of word) (rs1_of word) (rs2_of word))
unfolding decoding with_register base
row-Xor word opcode funct3 funct7 = rw (opcode, funct3, funct7) refl

pub row-Srl : (word : ℕ) → opcode_of word ≡ 0b0110011 → funct3_of word ≡ 0b101 → funct7_of word ≡ 0b0000000 → decoding word ≡ Some (Srl (rd_of word) (rs1_of word) (rs2_of word))
unfolding decoding with_register base
row-Srl word opcode funct3 funct7 = rw (opcode, funct3, funct7) refl

pub row-Sra : (word : ℕ) → opcode_of word ≡ 0b0110011 → funct3_of word ≡ 0b101 → funct7_of word ≡ 0b0100000 → decoding word ≡ Some (Sra (rd_of word) (rs1_of word) (rs2_of word))
unfolding decoding with_register alternate
row-Sra word opcode funct3 funct7 = rw (opcode, funct3, funct7) refl

pub row-Or : (word : ℕ) → opcode_of word ≡ 0b0110011 → funct3_of word ≡ 0b110 → funct7_of word ≡ 0b0000000 → decoding word ≡ Some (Or (rd_of word) (rs1_of word) (rs2_of word))
unfolding decoding with_register base
row-Or word opcode funct3 funct7 = rw (opcode, funct3, funct7) refl

pub row-And : (word : ℕ) → opcode_of word ≡ 0b0110011 → funct3_of word ≡ 0b111 → funct7_of word ≡ 0b0000000 → decoding word ≡ Some (And (rd_of word) (rs1_of word) (rs2_of word))
unfolding decoding with_register base
row-And word opcode funct3 funct7 = rw (opcode, funct3, funct7) refl

pub row-Fence : (word : ℕ) → opcode_of word ≡ 0b0001111 → funct3_of word ≡ 0b000 → decoding word ≡ Some (Fence (rd_of word) (rs1_of word) (i_immediate word))
unfolding decoding fence
row-Fence word opcode funct3 = rw (opcode, funct3) refl

pub row-Mul : (word : ℕ) → opcode_of word ≡ 0b0110011 → funct3_of word ≡ 0b000 → funct7_of word ≡ 0b0000001 → decoding word ≡ Some (Mul (rd_of word) (rs1_of word) (rs2_of word))
unfolding decoding with_register multiply
row-Mul word opcode funct3 funct7 = rw (opcode, funct3, funct7) refl

pub row-Mulh : (word : ℕ) → opcode_of word ≡ 0b0110011 → funct3_of word ≡ 0b001 → funct7_of word ≡ 0b0000001 → decoding word ≡ Some (Mulh (rd_of word) (rs1_of word) (rs2_of word))
unfolding decoding with_register multiply
row-Mulh word opcode funct3 funct7 = rw (opcode, funct3, funct7) refl

pub row-Mulhsu : (word : ℕ) → opcode_of word ≡ 0b0110011 → funct3_of word ≡ 0b010 → funct7_of word ≡ 0b0000001 → decoding word ≡ Some (Mulhsu (rd_of word) (rs1_of word) (rs2_of word))
unfolding decoding with_register multiply
row-Mulhsu word opcode funct3 funct7 = rw (opcode, funct3, funct7) refl

pub row-Mulhu : (word : ℕ) → opcode_of word ≡ 0b0110011 → funct3_of word ≡ 0b011 → funct7_of word ≡ 0b0000001 → decoding word ≡ Some (Mulhu (rd_of word) (rs1_of word) (rs2_of word))
unfolding decoding with_register multiply
row-Mulhu word opcode funct3 funct7 = rw (opcode, funct3, funct7) refl

pub row-Div : (word : ℕ) → opcode_of word ≡ 0b0110011 → funct3_of word ≡ 0b100 → funct7_of word ≡ 0b0000001 → decoding word ≡ Some (Div (rd_of word) (rs1_of word) (rs2_of word))
unfolding decoding with_register multiply
row-Div word opcode funct3 funct7 = rw (opcode, funct3, funct7) refl

pub row-Divu : (word : ℕ) → opcode_of word ≡ 0b0110011 → funct3_of word ≡ 0b101 → funct7_of word ≡ 0b0000001 → decoding word ≡ Some (Divu (rd_of word) (rs1_of word) (rs2_of word))
unfolding decoding with_register multiply
row-Divu word opcode funct3 funct7 = rw (opcode, funct3, funct7) refl

pub row-Rem : (word : ℕ) → opcode_of word ≡ 0b0110011 → funct3_of word ≡ 0b110 → funct7_of word ≡ 0b0000001 → decoding word ≡ Some (Rem (rd_of word) (rs1_of word) (rs2_of word))
unfolding decoding with_register multiply
row-Rem word opcode funct3 funct7 = rw (opcode, funct3, funct7) refl

pub row-Remu : (word : ℕ) → opcode_of word ≡ 0b0110011 → funct3_of word ≡ 0b111 → funct7_of word ≡ 0b0000001 → decoding word ≡ Some (Remu (rd_of word) (rs1_of word) (rs2_of word))
unfolding decoding with_register multiply
row-Remu word opcode funct3 funct7 = rw (opcode, funct3, funct7) refl
