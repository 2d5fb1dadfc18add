-- Each word that decodes is the word of the instruction that it decodes to.
use Rattle.std.proofs.Common.{◌≡◌, ℕ, ◌+◌, ◌*◌, ◌^◌, ◌<◌, ◌&&◌, eqb, Option, Some, None, sym, subst, ap, ◌∙◌, arith}
use Rattle.std.proofs.lemmas.Bool.{cond_both, eqb-true, and_parts}
use Rattle.std.specs.Prelude.{◌≢◌, IfSome, IfNone, if◌then◌else◌, ◌==◌}
use Rattle.rv_code.specs.Field.{field}
use Rattle.rv_code.specs.Format.{r_type, i_type, shift_type, s_type, b_type, u_type, j_type, opcode_of, rd_of, funct3_of, rs1_of, rs2_of, funct7_of, i_immediate, shift_count, s_immediate, b_immediate, u_immediate, j_immediate}
use Rattle.rv_code.specs.Range.{IsRegister, IsImmediate, IsUpperImmediate, IsShiftCount, IsBranchOffset, IsJumpOffset}
use Rattle.rv_code.specs.Operands.{IsInRange}
use Rattle.rv_code.specs.Table.{encoding}
use Rattle.rv_code.specs.Decoding.{FitsRow, jump_register, branch, load, store, shift, with_immediate, base, alternate, multiply, with_register, fence, system, decoding}
use Rattle.rv_code.specs.declared.instructions.Instr.{Instr}
use Rattle.rv_code.proofs.Complements.{IsImmediate-signed, IsBranchOffset-signed, IsJumpOffset-signed, IsUpperImmediate-pos, IsShiftCount-pos}
use Rattle.rv_code.proofs.Inverse.{decoding-encoding}
use Rattle.rv_code.proofs.Layouts.{r_type-of, i_type-of, shift_type-of, s_type-of, b_type-of, u_type-of, j_type-of}

module _ (word : ℕ) (fits : word < 2 ^ 32) where
  test : (m n : ℕ) (x y : Option Instr) → (m ≡ n → FitsRow word x) → FitsRow word y → FitsRow word (if m == n then x else y)
  test m n x y here past = cond_both (eqb m n) x y (FitsRow word) (λ e. here (eqb-true m n e)) (λ _. past)

  tests : (m n p q : ℕ) (x y : Option Instr) → (m ≡ n → p ≡ q → FitsRow word x) → FitsRow word y → FitsRow word (if (m == n) && (p == q) then x else y)
  tests m n p q x y here past =
      cond_both (eqb m n && eqb p q) x y (FitsRow word)
      (λ e. let parts = and_parts (eqb m n) (eqb p q) e in here (eqb-true m n parts.0) (eqb-true p q parts.1))
      (λ _. past)

  -- ---- the operands of a word are in range

  of_r : IsRegister (rd_of word) × IsRegister (rs1_of word) × IsRegister (rs2_of word)
  of_r = (omega arith, omega arith, omega arith)

  of_i : IsRegister (rd_of word) × IsRegister (rs1_of word) × IsImmediate (i_immediate word)
  of_i = (omega arith, omega arith, IsImmediate-signed (field word 20 12) (omega arith))

  of_shift : IsRegister (rd_of word) × IsRegister (rs1_of word) × IsShiftCount (shift_count word)
  of_shift = (omega arith, omega arith, IsShiftCount-pos (field word 20 5) (omega arith))

  of_s : IsRegister (rs1_of word) × IsRegister (rs2_of word) × IsImmediate (s_immediate word)
  of_s = (omega arith, omega arith, IsImmediate-signed (field word 25 7 * 2 ^ 5 + field word 7 5) (omega arith))

  of_b : IsRegister (rs1_of word) × IsRegister (rs2_of word) × IsBranchOffset (b_immediate word)
  of_b = (
    omega arith,
    omega arith,
    IsBranchOffset-signed (field word 31 1 * 2 ^ 12 + field word 7 1 * 2 ^ 11 + field word 25 6 * 2 ^ 5 + field word 8 4 * 2) (omega arith) (omega arith),
  )

  of_u : IsRegister (rd_of word) × IsUpperImmediate (u_immediate word)
  of_u = (omega arith, IsUpperImmediate-pos (field word 12 20) (omega arith))

  of_j : IsRegister (rd_of word) × IsJumpOffset (j_immediate word)
  of_j = (
    omega arith,
    IsJumpOffset-signed (field word 31 1 * 2 ^ 20 + field word 12 8 * 2 ^ 12 + field word 20 1 * 2 ^ 11 + field word 21 10 * 2) (omega arith) (omega arith),
  )

  -- ---- the word of each format, its fixed fields known

  r_word : (funct7 funct3 opcode : ℕ) → funct7_of word ≡ funct7 → funct3_of word ≡ funct3 → opcode_of word ≡ opcode → r_type funct7 (rs2_of word) (rs1_of word) funct3 (rd_of word) opcode ≡ word
  r_word funct7 funct3 opcode h7 h3 ho =
      ap (λ x. r_type x (rs2_of word) (rs1_of word) funct3 (rd_of word) opcode) (sym h7) ∙
      ap (λ x. r_type (funct7_of word) (rs2_of word) (rs1_of word) x (rd_of word) opcode) (sym h3) ∙
      ap (λ x. r_type (funct7_of word) (rs2_of word) (rs1_of word) (funct3_of word) (rd_of word) x) (sym ho) ∙
      r_type-of word fits

  i_word : (funct3 opcode : ℕ) → funct3_of word ≡ funct3 → opcode_of word ≡ opcode → i_type (i_immediate word) (rs1_of word) funct3 (rd_of word) opcode ≡ word
  i_word funct3 opcode h3 ho =
      ap (λ x. i_type (i_immediate word) (rs1_of word) x (rd_of word) opcode) (sym h3) ∙
      ap (λ x. i_type (i_immediate word) (rs1_of word) (funct3_of word) (rd_of word) x) (sym ho) ∙
      i_type-of word fits

  shift_word : (funct7 funct3 opcode : ℕ) → funct7_of word ≡ funct7 → funct3_of word ≡ funct3 → opcode_of word ≡ opcode → shift_type funct7 (shift_count word) (rs1_of word) funct3 (rd_of word) opcode ≡ word
  shift_word funct7 funct3 opcode h7 h3 ho =
      ap (λ x. shift_type x (shift_count word) (rs1_of word) funct3 (rd_of word) opcode) (sym h7) ∙
      ap (λ x. shift_type (funct7_of word) (shift_count word) (rs1_of word) x (rd_of word) opcode) (sym h3) ∙
      ap (λ x. shift_type (funct7_of word) (shift_count word) (rs1_of word) (funct3_of word) (rd_of word) x) (sym ho) ∙
      shift_type-of word fits

  s_word : (funct3 opcode : ℕ) → funct3_of word ≡ funct3 → opcode_of word ≡ opcode → s_type (s_immediate word) (rs2_of word) (rs1_of word) funct3 opcode ≡ word
  s_word funct3 opcode h3 ho =
      ap (λ x. s_type (s_immediate word) (rs2_of word) (rs1_of word) x opcode) (sym h3) ∙
      ap (λ x. s_type (s_immediate word) (rs2_of word) (rs1_of word) (funct3_of word) x) (sym ho) ∙
      s_type-of word fits

  b_word : (funct3 opcode : ℕ) → funct3_of word ≡ funct3 → opcode_of word ≡ opcode → b_type (b_immediate word) (rs2_of word) (rs1_of word) funct3 opcode ≡ word
  b_word funct3 opcode h3 ho =
      ap (λ x. b_type (b_immediate word) (rs2_of word) (rs1_of word) x opcode) (sym h3) ∙
      ap (λ x. b_type (b_immediate word) (rs2_of word) (rs1_of word) (funct3_of word) x) (sym ho) ∙
      b_type-of word fits

  u_word : (opcode : ℕ) → opcode_of word ≡ opcode → u_type (u_immediate word) (rd_of word) opcode ≡ word
  u_word opcode ho =
      ap (λ x. u_type (u_immediate word) (rd_of word) x) (sym ho) ∙
      u_type-of word fits

  j_word : (opcode : ℕ) → opcode_of word ≡ opcode → j_type (j_immediate word) (rd_of word) opcode ≡ word
  j_word opcode ho =
      ap (λ x. j_type (j_immediate word) (rd_of word) x) (sym ho) ∙
      j_type-of word fits

  -- ---- the rows, in the order of the decoder

  fits-jump_register : opcode_of word ≡ 0b1100111 → FitsRow word (jump_register word)
  unfolding jump_register encoding IsInRange
  fits-jump_register ho =
      test (funct3_of word) 0b000 _ _ (λ h3. (of_i, i_word 0b000 0b1100111 h3 ho)) (
      tt)

  fits-branch : opcode_of word ≡ 0b1100011 → FitsRow word (branch word)
  unfolding branch encoding IsInRange
  fits-branch ho =
      test (funct3_of word) 0b000 _ _ (λ h3. (of_b, b_word 0b000 0b1100011 h3 ho)) (
      test (funct3_of word) 0b001 _ _ (λ h3. (of_b, b_word 0b001 0b1100011 h3 ho)) (
      test (funct3_of word) 0b100 _ _ (λ h3. (of_b, b_word 0b100 0b1100011 h3 ho)) (
      test (funct3_of word) 0b101 _ _ (λ h3. (of_b, b_word 0b101 0b1100011 h3 ho)) (
      test (funct3_of word) 0b110 _ _ (λ h3. (of_b, b_word 0b110 0b1100011 h3 ho)) (
      test (funct3_of word) 0b111 _ _ (λ h3. (of_b, b_word 0b111 0b1100011 h3 ho)) (
      tt))))))

  fits-load : opcode_of word ≡ 0b0000011 → FitsRow word (load word)
  unfolding load encoding IsInRange
  fits-load ho =
      test (funct3_of word) 0b000 _ _ (λ h3. (of_i, i_word 0b000 0b0000011 h3 ho)) (
      test (funct3_of word) 0b001 _ _ (λ h3. (of_i, i_word 0b001 0b0000011 h3 ho)) (
      test (funct3_of word) 0b010 _ _ (λ h3. (of_i, i_word 0b010 0b0000011 h3 ho)) (
      test (funct3_of word) 0b100 _ _ (λ h3. (of_i, i_word 0b100 0b0000011 h3 ho)) (
      test (funct3_of word) 0b101 _ _ (λ h3. (of_i, i_word 0b101 0b0000011 h3 ho)) (
      tt)))))

  fits-store : opcode_of word ≡ 0b0100011 → FitsRow word (store word)
  unfolding store encoding IsInRange
  fits-store ho =
      test (funct3_of word) 0b000 _ _ (λ h3. (of_s, s_word 0b000 0b0100011 h3 ho)) (
      test (funct3_of word) 0b001 _ _ (λ h3. (of_s, s_word 0b001 0b0100011 h3 ho)) (
      test (funct3_of word) 0b010 _ _ (λ h3. (of_s, s_word 0b010 0b0100011 h3 ho)) (
      tt)))

  fits-shift : opcode_of word ≡ 0b0010011 → FitsRow word (shift word)
  unfolding shift encoding IsInRange
  fits-shift ho =
      tests (funct7_of word) 0b0000000 (funct3_of word) 0b001 _ _ (λ h7 h3. (of_shift, shift_word 0b0000000 0b001 0b0010011 h7 h3 ho)) (
      tests (funct7_of word) 0b0000000 (funct3_of word) 0b101 _ _ (λ h7 h3. (of_shift, shift_word 0b0000000 0b101 0b0010011 h7 h3 ho)) (
      tests (funct7_of word) 0b0100000 (funct3_of word) 0b101 _ _ (λ h7 h3. (of_shift, shift_word 0b0100000 0b101 0b0010011 h7 h3 ho)) (
      tt)))

  fits-with_immediate : opcode_of word ≡ 0b0010011 → FitsRow word (with_immediate word)
  unfolding with_immediate encoding IsInRange
  fits-with_immediate ho =
      test (funct3_of word) 0b000 _ _ (λ h3. (of_i, i_word 0b000 0b0010011 h3 ho)) (
      test (funct3_of word) 0b010 _ _ (λ h3. (of_i, i_word 0b010 0b0010011 h3 ho)) (
      test (funct3_of word) 0b011 _ _ (λ h3. (of_i, i_word 0b011 0b0010011 h3 ho)) (
      test (funct3_of word) 0b100 _ _ (λ h3. (of_i, i_word 0b100 0b0010011 h3 ho)) (
      test (funct3_of word) 0b110 _ _ (λ h3. (of_i, i_word 0b110 0b0010011 h3 ho)) (
      test (funct3_of word) 0b111 _ _ (λ h3. (of_i, i_word 0b111 0b0010011 h3 ho)) (
      fits-shift ho))))))

  fits-base : opcode_of word ≡ 0b0110011 → funct7_of word ≡ 0b0000000 → FitsRow word (base word)
  unfolding base encoding IsInRange
  fits-base ho h7 =
      test (funct3_of word) 0b000 _ _ (λ h3. (of_r, r_word 0b0000000 0b000 0b0110011 h7 h3 ho)) (
      test (funct3_of word) 0b001 _ _ (λ h3. (of_r, r_word 0b0000000 0b001 0b0110011 h7 h3 ho)) (
      test (funct3_of word) 0b010 _ _ (λ h3. (of_r, r_word 0b0000000 0b010 0b0110011 h7 h3 ho)) (
      test (funct3_of word) 0b011 _ _ (λ h3. (of_r, r_word 0b0000000 0b011 0b0110011 h7 h3 ho)) (
      test (funct3_of word) 0b100 _ _ (λ h3. (of_r, r_word 0b0000000 0b100 0b0110011 h7 h3 ho)) (
      test (funct3_of word) 0b101 _ _ (λ h3. (of_r, r_word 0b0000000 0b101 0b0110011 h7 h3 ho)) (
      test (funct3_of word) 0b110 _ _ (λ h3. (of_r, r_word 0b0000000 0b110 0b0110011 h7 h3 ho)) (
      test (funct3_of word) 0b111 _ _ (λ h3. (of_r, r_word 0b0000000 0b111 0b0110011 h7 h3 ho)) (
      tt))))))))

  fits-alternate : opcode_of word ≡ 0b0110011 → funct7_of word ≡ 0b0100000 → FitsRow word (alternate word)
  unfolding alternate encoding IsInRange
  fits-alternate ho h7 =
      test (funct3_of word) 0b000 _ _ (λ h3. (of_r, r_word 0b0100000 0b000 0b0110011 h7 h3 ho)) (
      test (funct3_of word) 0b101 _ _ (λ h3. (of_r, r_word 0b0100000 0b101 0b0110011 h7 h3 ho)) (
      tt))

  fits-multiply : opcode_of word ≡ 0b0110011 → funct7_of word ≡ 0b0000001 → FitsRow word (multiply word)
  unfolding multiply encoding IsInRange
  fits-multiply ho h7 =
      test (funct3_of word) 0b000 _ _ (λ h3. (of_r, r_word 0b0000001 0b000 0b0110011 h7 h3 ho)) (
      test (funct3_of word) 0b001 _ _ (λ h3. (of_r, r_word 0b0000001 0b001 0b0110011 h7 h3 ho)) (
      test (funct3_of word) 0b010 _ _ (λ h3. (of_r, r_word 0b0000001 0b010 0b0110011 h7 h3 ho)) (
      test (funct3_of word) 0b011 _ _ (λ h3. (of_r, r_word 0b0000001 0b011 0b0110011 h7 h3 ho)) (
      test (funct3_of word) 0b100 _ _ (λ h3. (of_r, r_word 0b0000001 0b100 0b0110011 h7 h3 ho)) (
      test (funct3_of word) 0b101 _ _ (λ h3. (of_r, r_word 0b0000001 0b101 0b0110011 h7 h3 ho)) (
      test (funct3_of word) 0b110 _ _ (λ h3. (of_r, r_word 0b0000001 0b110 0b0110011 h7 h3 ho)) (
      test (funct3_of word) 0b111 _ _ (λ h3. (of_r, r_word 0b0000001 0b111 0b0110011 h7 h3 ho)) (
      tt))))))))

  fits-with_register : opcode_of word ≡ 0b0110011 → FitsRow word (with_register word)
  unfolding with_register
  fits-with_register ho =
      test (funct7_of word) 0b0000000 _ _ (fits-base ho) (
      test (funct7_of word) 0b0100000 _ _ (fits-alternate ho) (
      test (funct7_of word) 0b0000001 _ _ (fits-multiply ho) tt))

  fits-fence : opcode_of word ≡ 0b0001111 → FitsRow word (fence word)
  unfolding fence encoding IsInRange
  fits-fence ho =
      test (funct3_of word) 0b000 _ _ (λ h3. (of_i, i_word 0b000 0b0001111 h3 ho)) (
      tt)

  fits-system : FitsRow word (system word)
  unfolding system encoding IsInRange
  fits-system = test word 0x00000073 _ _ (λ e. (tt, sym e)) (test word 0x00100073 _ _ (λ e. (tt, sym e)) tt)

  pub fits-decoding : FitsRow word (decoding word)
  unfolding decoding encoding IsInRange
  fits-decoding =
      test (opcode_of word) 0b0110111 _ _ (λ ho. (of_u, u_word 0b0110111 ho)) (
      test (opcode_of word) 0b0010111 _ _ (λ ho. (of_u, u_word 0b0010111 ho)) (
      test (opcode_of word) 0b1101111 _ _ (λ ho. (of_j, j_word 0b1101111 ho)) (
      test (opcode_of word) 0b1100111 _ _ fits-jump_register (
      test (opcode_of word) 0b1100011 _ _ fits-branch (
      test (opcode_of word) 0b0000011 _ _ fits-load (
      test (opcode_of word) 0b0100011 _ _ fits-store (
      test (opcode_of word) 0b0010011 _ _ fits-with_immediate (
      test (opcode_of word) 0b0110011 _ _ fits-with_register (
      test (opcode_of word) 0b0001111 _ _ fits-fence (
      test (opcode_of word) 0b1110011 _ _ (λ _. fits-system)
      tt))))))))))

-- ---- what the decoder answers, as its clauses say it

pub back : (word : ℕ) (decoded : Option Instr) → word < 2 ^ 32 → decoded ≡ decoding word → IfSome decoded (λ instr. IsInRange instr × (encoding instr ≡ word))
back word None fits e = tt
back word (Some instr) fits e = subst (FitsRow word) (sym e) (fits-decoding word fits)

pub none : (word : ℕ) (decoded : Option Instr) → decoded ≡ decoding word → IfNone decoded ((instr : Instr) → IsInRange instr → encoding instr ≢ word)
none word None e = λ instr ranges same. let p : decoding word ≡ Some instr = ap decoding (sym same) ∙ decoding-encoding instr ranges in cc
none word (Some instr) e = tt
