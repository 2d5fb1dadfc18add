-- Encoding and decoding are inverse.
use Rattle.std.proofs.Common.{◌≡◌, ℕ, ◌^◌, ◌<◌, ℤ, Some, refl, sym, ap, ◌∙◌, lit<}
use Rattle.rv_code.specs.Format.{r_type, i_type, shift_type, s_type, b_type, u_type, j_type, opcode_of, rd_of, funct3_of, rs1_of, rs2_of, funct7_of, i_immediate, shift_count, s_immediate, b_immediate, u_immediate, j_immediate}
use Rattle.rv_code.specs.Range.{IsRegister, IsImmediate, IsUpperImmediate, IsShiftCount, IsBranchOffset, IsJumpOffset}
use Rattle.rv_code.specs.Operands.{IsInRange}
use Rattle.rv_code.specs.Table.{encoding}
use Rattle.rv_code.specs.Decoding.{decoding, system}
use Rattle.rv_code.specs.declared.instructions.Instr.{Instr}
use Rattle.rv_code.specs.declared.instructions.Instr.TheVariants.{Lui, Auipc, Jal, Jalr, Beq, Bne, Blt, Bge, Bltu, Bgeu, Lb, Lh, Lw, Lbu, Lhu, Sb, Sh, Sw, Addi, Slti, Sltiu, Xori, Ori, Andi, Slli, Srli, Srai, Add, Sub, Sll, Slt, Sltu, Xor, Srl, Sra, Or, And, Fence, Ecall, Ebreak, Mul, Mulh, Mulhsu, Mulhu, Div, Divu, Rem, Remu}
use Rattle.rv_code.proofs.Layouts as layout
use Rattle.rv_code.proofs.Rows as rows

made_2 : {A B : Type 0} (make : A → B → Instr) {a a' : A} {b b' : B} → a ≡ a' → b ≡ b' → Some (make a b) ≡ Some (make a' b')
made_2 make p q = cc

made_3 : {A B C : Type 0} (make : A → B → C → Instr) {a a' : A} {b b' : B} {c c' : C} → a ≡ a' → b ≡ b' → c ≡ c' → Some (make a b c) ≡ Some (make a' b' c')
made_3 make p q r = cc

-- ---- the word of each format decodes to the instruction whose row it fits

of_r_type : (make : ℕ → ℕ → ℕ → Instr) (funct7 rs2 rs1 funct3 rd opcode : ℕ) → IsRegister rd × IsRegister rs1 × IsRegister rs2 → (h7 : funct7 < 2 ^ 7) → (h3 : funct3 < 2 ^ 3) → (ho : opcode < 2 ^ 7) →
    ((word : ℕ) → opcode_of word ≡ opcode → funct3_of word ≡ funct3 → funct7_of word ≡ funct7 → decoding word ≡ Some (make (rd_of word) (rs1_of word) (rs2_of word))) →
    decoding (r_type funct7 rs2 rs1 funct3 rd opcode) ≡ Some (make rd rs1 rs2)
of_r_type make funct7 rs2 rs1 funct3 rd opcode (hd, h1, h2) h7 h3 ho row =
    row (r_type funct7 rs2 rs1 funct3 rd opcode) (layout.opcode_of-r_type funct7 rs2 rs1 funct3 rd opcode h7 h2 h1 h3 hd ho) (layout.funct3_of-r_type funct7 rs2 rs1 funct3 rd opcode h7 h2 h1 h3 hd ho) (layout.funct7_of-r_type funct7 rs2 rs1 funct3 rd opcode h7 h2 h1 h3 hd ho) ∙
    made_3 make (layout.rd_of-r_type funct7 rs2 rs1 funct3 rd opcode h7 h2 h1 h3 hd ho) (layout.rs1_of-r_type funct7 rs2 rs1 funct3 rd opcode h7 h2 h1 h3 hd ho) (layout.rs2_of-r_type funct7 rs2 rs1 funct3 rd opcode h7 h2 h1 h3 hd ho)

of_i_type : (make : ℕ → ℕ → ℤ → Instr) (imm : ℤ) (rs1 funct3 rd opcode : ℕ) → IsRegister rd × IsRegister rs1 × IsImmediate imm → (h3 : funct3 < 2 ^ 3) → (ho : opcode < 2 ^ 7) →
    ((word : ℕ) → opcode_of word ≡ opcode → funct3_of word ≡ funct3 → decoding word ≡ Some (make (rd_of word) (rs1_of word) (i_immediate word))) →
    decoding (i_type imm rs1 funct3 rd opcode) ≡ Some (make rd rs1 imm)
of_i_type make imm rs1 funct3 rd opcode (hd, h1, hi) h3 ho row =
    row (i_type imm rs1 funct3 rd opcode) (layout.opcode_of-i_type imm hi rs1 funct3 rd opcode h1 h3 hd ho) (layout.funct3_of-i_type imm hi rs1 funct3 rd opcode h1 h3 hd ho) ∙
    made_3 make (layout.rd_of-i_type imm hi rs1 funct3 rd opcode h1 h3 hd ho) (layout.rs1_of-i_type imm hi rs1 funct3 rd opcode h1 h3 hd ho) (layout.i_immediate-i_type imm hi rs1 funct3 rd opcode h1 h3 hd ho)

of_shift_type : (make : ℕ → ℕ → ℤ → Instr) (imm : ℤ) (funct7 rs1 funct3 rd opcode : ℕ) → IsRegister rd × IsRegister rs1 × IsShiftCount imm → (h7 : funct7 < 2 ^ 7) → (h3 : funct3 < 2 ^ 3) → (ho : opcode < 2 ^ 7) →
    ((word : ℕ) → opcode_of word ≡ opcode → funct3_of word ≡ funct3 → funct7_of word ≡ funct7 → decoding word ≡ Some (make (rd_of word) (rs1_of word) (shift_count word))) →
    decoding (shift_type funct7 imm rs1 funct3 rd opcode) ≡ Some (make rd rs1 imm)
of_shift_type make imm funct7 rs1 funct3 rd opcode (hd, h1, hi) h7 h3 ho row =
    row (shift_type funct7 imm rs1 funct3 rd opcode) (layout.opcode_of-shift_type imm hi funct7 rs1 funct3 rd opcode h7 h1 h3 hd ho) (layout.funct3_of-shift_type imm hi funct7 rs1 funct3 rd opcode h7 h1 h3 hd ho) (layout.funct7_of-shift_type imm hi funct7 rs1 funct3 rd opcode h7 h1 h3 hd ho) ∙
    made_3 make (layout.rd_of-shift_type imm hi funct7 rs1 funct3 rd opcode h7 h1 h3 hd ho) (layout.rs1_of-shift_type imm hi funct7 rs1 funct3 rd opcode h7 h1 h3 hd ho) (layout.shift_count-shift_type imm hi funct7 rs1 funct3 rd opcode h7 h1 h3 hd ho)

of_s_type : (make : ℕ → ℕ → ℤ → Instr) (imm : ℤ) (rs2 rs1 funct3 opcode : ℕ) → IsRegister rs1 × IsRegister rs2 × IsImmediate imm → (h3 : funct3 < 2 ^ 3) → (ho : opcode < 2 ^ 7) →
    ((word : ℕ) → opcode_of word ≡ opcode → funct3_of word ≡ funct3 → decoding word ≡ Some (make (rs1_of word) (rs2_of word) (s_immediate word))) →
    decoding (s_type imm rs2 rs1 funct3 opcode) ≡ Some (make rs1 rs2 imm)
of_s_type make imm rs2 rs1 funct3 opcode (h1, h2, hi) h3 ho row =
    row (s_type imm rs2 rs1 funct3 opcode) (layout.opcode_of-s_type imm hi rs2 rs1 funct3 opcode h2 h1 h3 ho) (layout.funct3_of-s_type imm hi rs2 rs1 funct3 opcode h2 h1 h3 ho) ∙
    made_3 make (layout.rs1_of-s_type imm hi rs2 rs1 funct3 opcode h2 h1 h3 ho) (layout.rs2_of-s_type imm hi rs2 rs1 funct3 opcode h2 h1 h3 ho) (layout.s_immediate-s_type imm hi rs2 rs1 funct3 opcode h2 h1 h3 ho)

of_b_type : (make : ℕ → ℕ → ℤ → Instr) (imm : ℤ) (rs2 rs1 funct3 opcode : ℕ) → IsRegister rs1 × IsRegister rs2 × IsBranchOffset imm → (h3 : funct3 < 2 ^ 3) → (ho : opcode < 2 ^ 7) →
    ((word : ℕ) → opcode_of word ≡ opcode → funct3_of word ≡ funct3 → decoding word ≡ Some (make (rs1_of word) (rs2_of word) (b_immediate word))) →
    decoding (b_type imm rs2 rs1 funct3 opcode) ≡ Some (make rs1 rs2 imm)
of_b_type make imm rs2 rs1 funct3 opcode (h1, h2, hi) h3 ho row =
    row (b_type imm rs2 rs1 funct3 opcode) (layout.opcode_of-b_type imm hi rs2 rs1 funct3 opcode h2 h1 h3 ho) (layout.funct3_of-b_type imm hi rs2 rs1 funct3 opcode h2 h1 h3 ho) ∙
    made_3 make (layout.rs1_of-b_type imm hi rs2 rs1 funct3 opcode h2 h1 h3 ho) (layout.rs2_of-b_type imm hi rs2 rs1 funct3 opcode h2 h1 h3 ho) (layout.b_immediate-b_type imm hi rs2 rs1 funct3 opcode h2 h1 h3 ho)

of_u_type : (make : ℕ → ℤ → Instr) (imm : ℤ) (rd opcode : ℕ) → IsRegister rd × IsUpperImmediate imm → (ho : opcode < 2 ^ 7) →
    ((word : ℕ) → opcode_of word ≡ opcode → decoding word ≡ Some (make (rd_of word) (u_immediate word))) →
    decoding (u_type imm rd opcode) ≡ Some (make rd imm)
of_u_type make imm rd opcode (hd, hi) ho row =
    row (u_type imm rd opcode) (layout.opcode_of-u_type imm hi rd opcode hd ho) ∙
    made_2 make (layout.rd_of-u_type imm hi rd opcode hd ho) (layout.u_immediate-u_type imm hi rd opcode hd ho)

of_j_type : (make : ℕ → ℤ → Instr) (imm : ℤ) (rd opcode : ℕ) → IsRegister rd × IsJumpOffset imm → (ho : opcode < 2 ^ 7) →
    ((word : ℕ) → opcode_of word ≡ opcode → decoding word ≡ Some (make (rd_of word) (j_immediate word))) →
    decoding (j_type imm rd opcode) ≡ Some (make rd imm)
of_j_type make imm rd opcode (hd, hi) ho row =
    row (j_type imm rd opcode) (layout.opcode_of-j_type imm hi rd opcode hd ho) ∙
    made_2 make (layout.rd_of-j_type imm hi rd opcode hd ho) (layout.j_immediate-j_type imm hi rd opcode hd ho)

ecall : decoding 0x00000073 ≡ Some Ecall
unfolding decoding system
ecall = refl

ebreak : decoding 0x00100073 ≡ Some Ebreak
unfolding decoding system
ebreak = refl

pub decoding-encoding : (instr : Instr) → IsInRange instr → decoding (encoding instr) ≡ Some instr
unfolding encoding IsInRange
decoding-encoding (Lui rd imm) h = of_u_type Lui imm rd 0b0110111 h (lit< tt) rows.row-Lui
decoding-encoding (Auipc rd imm) h = of_u_type Auipc imm rd 0b0010111 h (lit< tt) rows.row-Auipc
decoding-encoding (Jal rd imm) h = of_j_type Jal imm rd 0b1101111 h (lit< tt) rows.row-Jal
decoding-encoding (Jalr rd rs1 imm) h = of_i_type Jalr imm rs1 0b000 rd 0b1100111 h (lit< tt) (lit< tt) rows.row-Jalr
decoding-encoding (Beq rs1 rs2 imm) h = of_b_type Beq imm rs2 rs1 0b000 0b1100011 h (lit< tt) (lit< tt) rows.row-Beq
decoding-encoding (Bne rs1 rs2 imm) h = of_b_type Bne imm rs2 rs1 0b001 0b1100011 h (lit< tt) (lit< tt) rows.row-Bne
decoding-encoding (Blt rs1 rs2 imm) h = of_b_type Blt imm rs2 rs1 0b100 0b1100011 h (lit< tt) (lit< tt) rows.row-Blt
decoding-encoding (Bge rs1 rs2 imm) h = of_b_type Bge imm rs2 rs1 0b101 0b1100011 h (lit< tt) (lit< tt) rows.row-Bge
decoding-encoding (Bltu rs1 rs2 imm) h = of_b_type Bltu imm rs2 rs1 0b110 0b1100011 h (lit< tt) (lit< tt) rows.row-Bltu
decoding-encoding (Bgeu rs1 rs2 imm) h = of_b_type Bgeu imm rs2 rs1 0b111 0b1100011 h (lit< tt) (lit< tt) rows.row-Bgeu
decoding-encoding (Lb rd rs1 imm) h = of_i_type Lb imm rs1 0b000 rd 0b0000011 h (lit< tt) (lit< tt) rows.row-Lb
decoding-encoding (Lh rd rs1 imm) h = of_i_type Lh imm rs1 0b001 rd 0b0000011 h (lit< tt) (lit< tt) rows.row-Lh
decoding-encoding (Lw rd rs1 imm) h = of_i_type Lw imm rs1 0b010 rd 0b0000011 h (lit< tt) (lit< tt) rows.row-Lw
decoding-encoding (Lbu rd rs1 imm) h = of_i_type Lbu imm rs1 0b100 rd 0b0000011 h (lit< tt) (lit< tt) rows.row-Lbu
decoding-encoding (Lhu rd rs1 imm) h = of_i_type Lhu imm rs1 0b101 rd 0b0000011 h (lit< tt) (lit< tt) rows.row-Lhu
decoding-encoding (Sb rs1 rs2 imm) h = of_s_type Sb imm rs2 rs1 0b000 0b0100011 h (lit< tt) (lit< tt) rows.row-Sb
decoding-encoding (Sh rs1 rs2 imm) h = of_s_type Sh imm rs2 rs1 0b001 0b0100011 h (lit< tt) (lit< tt) rows.row-Sh
decoding-encoding (Sw rs1 rs2 imm) h = of_s_type Sw imm rs2 rs1 0b010 0b0100011 h (lit< tt) (lit< tt) rows.row-Sw
decoding-encoding (Addi rd rs1 imm) h = of_i_type Addi imm rs1 0b000 rd 0b0010011 h (lit< tt) (lit< tt) rows.row-Addi
decoding-encoding (Slti rd rs1 imm) h = of_i_type Slti imm rs1 0b010 rd 0b0010011 h (lit< tt) (lit< tt) rows.row-Slti
decoding-encoding (Sltiu rd rs1 imm) h = of_i_type Sltiu imm rs1 0b011 rd 0b0010011 h (lit< tt) (lit< tt) rows.row-Sltiu
decoding-encoding (Xori rd rs1 imm) h = of_i_type Xori imm rs1 0b100 rd 0b0010011 h (lit< tt) (lit< tt) rows.row-Xori
decoding-encoding (Ori rd rs1 imm) h = of_i_type Ori imm rs1 0b110 rd 0b0010011 h (lit< tt) (lit< tt) rows.row-Ori
decoding-encoding (Andi rd rs1 imm) h = of_i_type Andi imm rs1 0b111 rd 0b0010011 h (lit< tt) (lit< tt) rows.row-Andi
decoding-encoding (Slli rd rs1 imm) h = of_shift_type Slli imm 0b0000000 rs1 0b001 rd 0b0010011 h (lit< tt) (lit< tt) (lit< tt) rows.row-Slli
decoding-encoding (Srli rd rs1 imm) h = of_shift_type Srli imm 0b0000000 rs1 0b101 rd 0b0010011 h (lit< tt) (lit< tt) (lit< tt) rows.row-Srli
decoding-encoding (Srai rd rs1 imm) h = of_shift_type Srai imm 0b0100000 rs1 0b101 rd 0b0010011 h (lit< tt) (lit< tt) (lit< tt) rows.row-Srai
decoding-encoding (Add rd rs1 rs2) h = of_r_type Add 0b0000000 rs2 rs1 0b000 rd 0b0110011 h (lit< tt) (lit< tt) (lit< tt) rows.row-Add
decoding-encoding (Sub rd rs1 rs2) h = of_r_type Sub 0b0100000 rs2 rs1 0b000 rd 0b0110011 h (lit< tt) (lit< tt) (lit< tt) rows.row-Sub
decoding-encoding (Sll rd rs1 rs2) h = of_r_type Sll 0b0000000 rs2 rs1 0b001 rd 0b0110011 h (lit< tt) (lit< tt) (lit< tt) rows.row-Sll
decoding-encoding (Slt rd rs1 rs2) h = of_r_type Slt 0b0000000 rs2 rs1 0b010 rd 0b0110011 h (lit< tt) (lit< tt) (lit< tt) rows.row-Slt
decoding-encoding (Sltu rd rs1 rs2) h = of_r_type Sltu 0b0000000 rs2 rs1 0b011 rd 0b0110011 h (lit< tt) (lit< tt) (lit< tt) rows.row-Sltu
decoding-encoding (Xor rd rs1 rs2) h = of_r_type Xor 0b0000000 rs2 rs1 0b100 rd 0b0110011 h (lit< tt) (lit< tt) (lit< tt) rows.row-Xor
decoding-encoding (Srl rd rs1 rs2) h = of_r_type Srl 0b0000000 rs2 rs1 0b101 rd 0b0110011 h (lit< tt) (lit< tt) (lit< tt) rows.row-Srl
decoding-encoding (Sra rd rs1 rs2) h = of_r_type Sra 0b0100000 rs2 rs1 0b101 rd 0b0110011 h (lit< tt) (lit< tt) (lit< tt) rows.row-Sra
decoding-encoding (Or rd rs1 rs2) h = of_r_type Or 0b0000000 rs2 rs1 0b110 rd 0b0110011 h (lit< tt) (lit< tt) (lit< tt) rows.row-Or
decoding-encoding (And rd rs1 rs2) h = of_r_type And 0b0000000 rs2 rs1 0b111 rd 0b0110011 h (lit< tt) (lit< tt) (lit< tt) rows.row-And
decoding-encoding (Fence rd rs1 imm) h = of_i_type Fence imm rs1 0b000 rd 0b0001111 h (lit< tt) (lit< tt) rows.row-Fence
decoding-encoding Ecall h = ecall
decoding-encoding Ebreak h = ebreak
decoding-encoding (Mul rd rs1 rs2) h = of_r_type Mul 0b0000001 rs2 rs1 0b000 rd 0b0110011 h (lit< tt) (lit< tt) (lit< tt) rows.row-Mul
decoding-encoding (Mulh rd rs1 rs2) h = of_r_type Mulh 0b0000001 rs2 rs1 0b001 rd 0b0110011 h (lit< tt) (lit< tt) (lit< tt) rows.row-Mulh
decoding-encoding (Mulhsu rd rs1 rs2) h = of_r_type Mulhsu 0b0000001 rs2 rs1 0b010 rd 0b0110011 h (lit< tt) (lit< tt) (lit< tt) rows.row-Mulhsu
decoding-encoding (Mulhu rd rs1 rs2) h = of_r_type Mulhu 0b0000001 rs2 rs1 0b011 rd 0b0110011 h (lit< tt) (lit< tt) (lit< tt) rows.row-Mulhu
decoding-encoding (Div rd rs1 rs2) h = of_r_type Div 0b0000001 rs2 rs1 0b100 rd 0b0110011 h (lit< tt) (lit< tt) (lit< tt) rows.row-Div
decoding-encoding (Divu rd rs1 rs2) h = of_r_type Divu 0b0000001 rs2 rs1 0b101 rd 0b0110011 h (lit< tt) (lit< tt) (lit< tt) rows.row-Divu
decoding-encoding (Rem rd rs1 rs2) h = of_r_type Rem 0b0000001 rs2 rs1 0b110 rd 0b0110011 h (lit< tt) (lit< tt) (lit< tt) rows.row-Rem
decoding-encoding (Remu rd rs1 rs2) h = of_r_type Remu 0b0000001 rs2 rs1 0b111 rd 0b0110011 h (lit< tt) (lit< tt) (lit< tt) rows.row-Remu

-- the word of an instruction has 32 bits
pub encoding-lt : (instr : Instr) → IsInRange instr → encoding instr < 2 ^ 32
unfolding encoding IsInRange
encoding-lt (Lui rd imm) h = layout.u_type-lt imm h.1 rd 0b0110111 h.0 (lit< tt)
encoding-lt (Auipc rd imm) h = layout.u_type-lt imm h.1 rd 0b0010111 h.0 (lit< tt)
encoding-lt (Jal rd imm) h = layout.j_type-lt imm h.1 rd 0b1101111 h.0 (lit< tt)
encoding-lt (Jalr rd rs1 imm) h = layout.i_type-lt imm h.2 rs1 0b000 rd 0b1100111 h.1 (lit< tt) h.0 (lit< tt)
encoding-lt (Beq rs1 rs2 imm) h = layout.b_type-lt imm h.2 rs2 rs1 0b000 0b1100011 h.1 h.0 (lit< tt) (lit< tt)
encoding-lt (Bne rs1 rs2 imm) h = layout.b_type-lt imm h.2 rs2 rs1 0b001 0b1100011 h.1 h.0 (lit< tt) (lit< tt)
encoding-lt (Blt rs1 rs2 imm) h = layout.b_type-lt imm h.2 rs2 rs1 0b100 0b1100011 h.1 h.0 (lit< tt) (lit< tt)
encoding-lt (Bge rs1 rs2 imm) h = layout.b_type-lt imm h.2 rs2 rs1 0b101 0b1100011 h.1 h.0 (lit< tt) (lit< tt)
encoding-lt (Bltu rs1 rs2 imm) h = layout.b_type-lt imm h.2 rs2 rs1 0b110 0b1100011 h.1 h.0 (lit< tt) (lit< tt)
encoding-lt (Bgeu rs1 rs2 imm) h = layout.b_type-lt imm h.2 rs2 rs1 0b111 0b1100011 h.1 h.0 (lit< tt) (lit< tt)
encoding-lt (Lb rd rs1 imm) h = layout.i_type-lt imm h.2 rs1 0b000 rd 0b0000011 h.1 (lit< tt) h.0 (lit< tt)
encoding-lt (Lh rd rs1 imm) h = layout.i_type-lt imm h.2 rs1 0b001 rd 0b0000011 h.1 (lit< tt) h.0 (lit< tt)
encoding-lt (Lw rd rs1 imm) h = layout.i_type-lt imm h.2 rs1 0b010 rd 0b0000011 h.1 (lit< tt) h.0 (lit< tt)
encoding-lt (Lbu rd rs1 imm) h = layout.i_type-lt imm h.2 rs1 0b100 rd 0b0000011 h.1 (lit< tt) h.0 (lit< tt)
encoding-lt (Lhu rd rs1 imm) h = layout.i_type-lt imm h.2 rs1 0b101 rd 0b0000011 h.1 (lit< tt) h.0 (lit< tt)
encoding-lt (Sb rs1 rs2 imm) h = layout.s_type-lt imm h.2 rs2 rs1 0b000 0b0100011 h.1 h.0 (lit< tt) (lit< tt)
encoding-lt (Sh rs1 rs2 imm) h = layout.s_type-lt imm h.2 rs2 rs1 0b001 0b0100011 h.1 h.0 (lit< tt) (lit< tt)
encoding-lt (Sw rs1 rs2 imm) h = layout.s_type-lt imm h.2 rs2 rs1 0b010 0b0100011 h.1 h.0 (lit< tt) (lit< tt)
encoding-lt (Addi rd rs1 imm) h = layout.i_type-lt imm h.2 rs1 0b000 rd 0b0010011 h.1 (lit< tt) h.0 (lit< tt)
encoding-lt (Slti rd rs1 imm) h = layout.i_type-lt imm h.2 rs1 0b010 rd 0b0010011 h.1 (lit< tt) h.0 (lit< tt)
encoding-lt (Sltiu rd rs1 imm) h = layout.i_type-lt imm h.2 rs1 0b011 rd 0b0010011 h.1 (lit< tt) h.0 (lit< tt)
encoding-lt (Xori rd rs1 imm) h = layout.i_type-lt imm h.2 rs1 0b100 rd 0b0010011 h.1 (lit< tt) h.0 (lit< tt)
encoding-lt (Ori rd rs1 imm) h = layout.i_type-lt imm h.2 rs1 0b110 rd 0b0010011 h.1 (lit< tt) h.0 (lit< tt)
encoding-lt (Andi rd rs1 imm) h = layout.i_type-lt imm h.2 rs1 0b111 rd 0b0010011 h.1 (lit< tt) h.0 (lit< tt)
encoding-lt (Slli rd rs1 imm) h = layout.shift_type-lt imm h.2 0b0000000 rs1 0b001 rd 0b0010011 (lit< tt) h.1 (lit< tt) h.0 (lit< tt)
encoding-lt (Srli rd rs1 imm) h = layout.shift_type-lt imm h.2 0b0000000 rs1 0b101 rd 0b0010011 (lit< tt) h.1 (lit< tt) h.0 (lit< tt)
encoding-lt (Srai rd rs1 imm) h = layout.shift_type-lt imm h.2 0b0100000 rs1 0b101 rd 0b0010011 (lit< tt) h.1 (lit< tt) h.0 (lit< tt)
encoding-lt (Add rd rs1 rs2) h = layout.r_type-lt 0b0000000 rs2 rs1 0b000 rd 0b0110011 (lit< tt) h.2 h.1 (lit< tt) h.0 (lit< tt)
encoding-lt (Sub rd rs1 rs2) h = layout.r_type-lt 0b0100000 rs2 rs1 0b000 rd 0b0110011 (lit< tt) h.2 h.1 (lit< tt) h.0 (lit< tt)
encoding-lt (Sll rd rs1 rs2) h = layout.r_type-lt 0b0000000 rs2 rs1 0b001 rd 0b0110011 (lit< tt) h.2 h.1 (lit< tt) h.0 (lit< tt)
encoding-lt (Slt rd rs1 rs2) h = layout.r_type-lt 0b0000000 rs2 rs1 0b010 rd 0b0110011 (lit< tt) h.2 h.1 (lit< tt) h.0 (lit< tt)
encoding-lt (Sltu rd rs1 rs2) h = layout.r_type-lt 0b0000000 rs2 rs1 0b011 rd 0b0110011 (lit< tt) h.2 h.1 (lit< tt) h.0 (lit< tt)
encoding-lt (Xor rd rs1 rs2) h = layout.r_type-lt 0b0000000 rs2 rs1 0b100 rd 0b0110011 (lit< tt) h.2 h.1 (lit< tt) h.0 (lit< tt)
encoding-lt (Srl rd rs1 rs2) h = layout.r_type-lt 0b0000000 rs2 rs1 0b101 rd 0b0110011 (lit< tt) h.2 h.1 (lit< tt) h.0 (lit< tt)
encoding-lt (Sra rd rs1 rs2) h = layout.r_type-lt 0b0100000 rs2 rs1 0b101 rd 0b0110011 (lit< tt) h.2 h.1 (lit< tt) h.0 (lit< tt)
encoding-lt (Or rd rs1 rs2) h = layout.r_type-lt 0b0000000 rs2 rs1 0b110 rd 0b0110011 (lit< tt) h.2 h.1 (lit< tt) h.0 (lit< tt)
encoding-lt (And rd rs1 rs2) h = layout.r_type-lt 0b0000000 rs2 rs1 0b111 rd 0b0110011 (lit< tt) h.2 h.1 (lit< tt) h.0 (lit< tt)
encoding-lt (Fence rd rs1 imm) h = layout.i_type-lt imm h.2 rs1 0b000 rd 0b0001111 h.1 (lit< tt) h.0 (lit< tt)
encoding-lt (Mul rd rs1 rs2) h = layout.r_type-lt 0b0000001 rs2 rs1 0b000 rd 0b0110011 (lit< tt) h.2 h.1 (lit< tt) h.0 (lit< tt)
encoding-lt (Mulh rd rs1 rs2) h = layout.r_type-lt 0b0000001 rs2 rs1 0b001 rd 0b0110011 (lit< tt) h.2 h.1 (lit< tt) h.0 (lit< tt)
encoding-lt (Mulhsu rd rs1 rs2) h = layout.r_type-lt 0b0000001 rs2 rs1 0b010 rd 0b0110011 (lit< tt) h.2 h.1 (lit< tt) h.0 (lit< tt)
encoding-lt (Mulhu rd rs1 rs2) h = layout.r_type-lt 0b0000001 rs2 rs1 0b011 rd 0b0110011 (lit< tt) h.2 h.1 (lit< tt) h.0 (lit< tt)
encoding-lt (Div rd rs1 rs2) h = layout.r_type-lt 0b0000001 rs2 rs1 0b100 rd 0b0110011 (lit< tt) h.2 h.1 (lit< tt) h.0 (lit< tt)
encoding-lt (Divu rd rs1 rs2) h = layout.r_type-lt 0b0000001 rs2 rs1 0b101 rd 0b0110011 (lit< tt) h.2 h.1 (lit< tt) h.0 (lit< tt)
encoding-lt (Rem rd rs1 rs2) h = layout.r_type-lt 0b0000001 rs2 rs1 0b110 rd 0b0110011 (lit< tt) h.2 h.1 (lit< tt) h.0 (lit< tt)
encoding-lt (Remu rd rs1 rs2) h = layout.r_type-lt 0b0000001 rs2 rs1 0b111 rd 0b0110011 (lit< tt) h.2 h.1 (lit< tt) h.0 (lit< tt)
encoding-lt _ h = lit< tt

-- distinct instructions have distinct words
pub same_instruction : (i j : Instr) → IsInRange i → IsInRange j → encoding i ≡ encoding j → i ≡ j
same_instruction i j hi hj e = let p : Some i ≡ Some j = sym (decoding-encoding i hi) ∙ ap decoding e ∙ decoding-encoding j hj in cc
