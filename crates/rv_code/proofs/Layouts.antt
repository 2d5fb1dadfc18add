-- The fields of a word that a format lays out, and a word from its fields.
use Rattle.std.proofs.Common.{◌≡◌, ℕ, ◌+◌, ◌*◌, ◌^◌, ◌<◌, ℤ, pos, ap, ◌∙◌, arith}
use Rattle.rv_code.specs.Field.{field, low_bits, signed}
use Rattle.rv_code.specs.Format.{r_type, i_type, shift_type, s_type, b_type, u_type, j_type, opcode_of, rd_of, funct3_of, rs1_of, rs2_of, funct7_of, i_immediate, shift_count, s_immediate, b_immediate, u_immediate, j_immediate}
use Rattle.rv_code.specs.Range.{IsImmediate, IsUpperImmediate, IsShiftCount, IsBranchOffset, IsJumpOffset}
use Rattle.rv_code.proofs.Complements.{low_bits-signed_12, low_bits-signed_13, low_bits-signed_21, signed-low_bits_12, signed-low_bits_13, signed-low_bits_21, pos-low_bits_20, pos-low_bits_5, low_bits_5-lt, low_bits_12-lt, low_bits_13-lt, low_bits_20-lt, low_bits_21-lt, even_13, even_21}

module _ (funct7 rs2 rs1 funct3 rd opcode : ℕ) (h7 : funct7 < 2 ^ 7) (h2 : rs2 < 32) (h1 : rs1 < 32) (h3 : funct3 < 2 ^ 3) (hd : rd < 32) (ho : opcode < 2 ^ 7) where
  pub opcode_of-r_type : opcode_of (r_type funct7 rs2 rs1 funct3 rd opcode) ≡ opcode
  opcode_of-r_type = omega arith

  pub rd_of-r_type : rd_of (r_type funct7 rs2 rs1 funct3 rd opcode) ≡ rd
  rd_of-r_type = omega arith

  pub funct3_of-r_type : funct3_of (r_type funct7 rs2 rs1 funct3 rd opcode) ≡ funct3
  funct3_of-r_type = omega arith

  pub rs1_of-r_type : rs1_of (r_type funct7 rs2 rs1 funct3 rd opcode) ≡ rs1
  rs1_of-r_type = omega arith

  pub rs2_of-r_type : rs2_of (r_type funct7 rs2 rs1 funct3 rd opcode) ≡ rs2
  rs2_of-r_type = omega arith

  pub funct7_of-r_type : funct7_of (r_type funct7 rs2 rs1 funct3 rd opcode) ≡ funct7
  funct7_of-r_type = omega arith

  pub r_type-lt : (r_type funct7 rs2 rs1 funct3 rd opcode) < 2 ^ 32
  r_type-lt = omega arith

module _ (imm : ℤ) (hi : IsImmediate imm) (rs1 funct3 rd opcode : ℕ) (h1 : rs1 < 32) (h3 : funct3 < 2 ^ 3) (hd : rd < 32) (ho : opcode < 2 ^ 7) where
  pub opcode_of-i_type : opcode_of (i_type imm rs1 funct3 rd opcode) ≡ opcode
  opcode_of-i_type = omega (arith, low_bits_12-lt imm)

  pub rd_of-i_type : rd_of (i_type imm rs1 funct3 rd opcode) ≡ rd
  rd_of-i_type = omega (arith, low_bits_12-lt imm)

  pub funct3_of-i_type : funct3_of (i_type imm rs1 funct3 rd opcode) ≡ funct3
  funct3_of-i_type = omega (arith, low_bits_12-lt imm)

  pub rs1_of-i_type : rs1_of (i_type imm rs1 funct3 rd opcode) ≡ rs1
  rs1_of-i_type = omega (arith, low_bits_12-lt imm)

  pub i_type-lt : (i_type imm rs1 funct3 rd opcode) < 2 ^ 32
  i_type-lt = omega (arith, low_bits_12-lt imm)

  i_bits : field (i_type imm rs1 funct3 rd opcode) 20 12 ≡ low_bits 12 imm
  i_bits = omega (arith, low_bits_12-lt imm)

  pub i_immediate-i_type : i_immediate (i_type imm rs1 funct3 rd opcode) ≡ imm
  i_immediate-i_type = ap (signed 12) i_bits ∙ signed-low_bits_12 imm hi

module _ (imm : ℤ) (hi : IsShiftCount imm) (funct7 rs1 funct3 rd opcode : ℕ) (h7 : funct7 < 2 ^ 7) (h1 : rs1 < 32) (h3 : funct3 < 2 ^ 3) (hd : rd < 32) (ho : opcode < 2 ^ 7) where
  pub opcode_of-shift_type : opcode_of (shift_type funct7 imm rs1 funct3 rd opcode) ≡ opcode
  opcode_of-shift_type = omega (arith, low_bits_5-lt imm)

  pub rd_of-shift_type : rd_of (shift_type funct7 imm rs1 funct3 rd opcode) ≡ rd
  rd_of-shift_type = omega (arith, low_bits_5-lt imm)

  pub funct3_of-shift_type : funct3_of (shift_type funct7 imm rs1 funct3 rd opcode) ≡ funct3
  funct3_of-shift_type = omega (arith, low_bits_5-lt imm)

  pub rs1_of-shift_type : rs1_of (shift_type funct7 imm rs1 funct3 rd opcode) ≡ rs1
  rs1_of-shift_type = omega (arith, low_bits_5-lt imm)

  pub funct7_of-shift_type : funct7_of (shift_type funct7 imm rs1 funct3 rd opcode) ≡ funct7
  funct7_of-shift_type = omega (arith, low_bits_5-lt imm)

  pub shift_type-lt : (shift_type funct7 imm rs1 funct3 rd opcode) < 2 ^ 32
  shift_type-lt = omega (arith, low_bits_5-lt imm)

  shift_bits : field (shift_type funct7 imm rs1 funct3 rd opcode) 20 5 ≡ low_bits 5 imm
  shift_bits = omega (arith, low_bits_5-lt imm)

  pub shift_count-shift_type : shift_count (shift_type funct7 imm rs1 funct3 rd opcode) ≡ imm
  shift_count-shift_type = ap pos shift_bits ∙ pos-low_bits_5 imm hi

module _ (imm : ℤ) (hi : IsImmediate imm) (rs2 rs1 funct3 opcode : ℕ) (h2 : rs2 < 32) (h1 : rs1 < 32) (h3 : funct3 < 2 ^ 3) (ho : opcode < 2 ^ 7) where
  pub opcode_of-s_type : opcode_of (s_type imm rs2 rs1 funct3 opcode) ≡ opcode
  opcode_of-s_type = omega (arith, low_bits_12-lt imm)

  pub funct3_of-s_type : funct3_of (s_type imm rs2 rs1 funct3 opcode) ≡ funct3
  funct3_of-s_type = omega (arith, low_bits_12-lt imm)

  pub rs1_of-s_type : rs1_of (s_type imm rs2 rs1 funct3 opcode) ≡ rs1
  rs1_of-s_type = omega (arith, low_bits_12-lt imm)

  pub rs2_of-s_type : rs2_of (s_type imm rs2 rs1 funct3 opcode) ≡ rs2
  rs2_of-s_type = omega (arith, low_bits_12-lt imm)

  pub s_type-lt : (s_type imm rs2 rs1 funct3 opcode) < 2 ^ 32
  s_type-lt = omega (arith, low_bits_12-lt imm)

  s_bits : field (s_type imm rs2 rs1 funct3 opcode) 25 7 * 2 ^ 5 + field (s_type imm rs2 rs1 funct3 opcode) 7 5 ≡ low_bits 12 imm
  s_bits = omega (arith, low_bits_12-lt imm)

  pub s_immediate-s_type : s_immediate (s_type imm rs2 rs1 funct3 opcode) ≡ imm
  s_immediate-s_type = ap (signed 12) s_bits ∙ signed-low_bits_12 imm hi

module _ (imm : ℤ) (hi : IsBranchOffset imm) (rs2 rs1 funct3 opcode : ℕ) (h2 : rs2 < 32) (h1 : rs1 < 32) (h3 : funct3 < 2 ^ 3) (ho : opcode < 2 ^ 7) where
  pub opcode_of-b_type : opcode_of (b_type imm rs2 rs1 funct3 opcode) ≡ opcode
  opcode_of-b_type = omega (arith, low_bits_13-lt imm)

  pub funct3_of-b_type : funct3_of (b_type imm rs2 rs1 funct3 opcode) ≡ funct3
  funct3_of-b_type = omega (arith, low_bits_13-lt imm)

  pub rs1_of-b_type : rs1_of (b_type imm rs2 rs1 funct3 opcode) ≡ rs1
  rs1_of-b_type = omega (arith, low_bits_13-lt imm)

  pub rs2_of-b_type : rs2_of (b_type imm rs2 rs1 funct3 opcode) ≡ rs2
  rs2_of-b_type = omega (arith, low_bits_13-lt imm)

  pub b_type-lt : (b_type imm rs2 rs1 funct3 opcode) < 2 ^ 32
  b_type-lt = omega (arith, low_bits_13-lt imm)

  b_bits : field (b_type imm rs2 rs1 funct3 opcode) 31 1 * 2 ^ 12 + field (b_type imm rs2 rs1 funct3 opcode) 7 1 * 2 ^ 11 + field (b_type imm rs2 rs1 funct3 opcode) 25 6 * 2 ^ 5 + field (b_type imm rs2 rs1 funct3 opcode) 8 4 * 2 ≡ low_bits 13 imm
  b_bits = omega (arith, low_bits_13-lt imm, even_13 imm hi)

  pub b_immediate-b_type : b_immediate (b_type imm rs2 rs1 funct3 opcode) ≡ imm
  b_immediate-b_type = ap (signed 13) b_bits ∙ signed-low_bits_13 imm hi

module _ (imm : ℤ) (hi : IsUpperImmediate imm) (rd opcode : ℕ) (hd : rd < 32) (ho : opcode < 2 ^ 7) where
  pub opcode_of-u_type : opcode_of (u_type imm rd opcode) ≡ opcode
  opcode_of-u_type = omega (arith, low_bits_20-lt imm)

  pub rd_of-u_type : rd_of (u_type imm rd opcode) ≡ rd
  rd_of-u_type = omega (arith, low_bits_20-lt imm)

  pub u_type-lt : (u_type imm rd opcode) < 2 ^ 32
  u_type-lt = omega (arith, low_bits_20-lt imm)

  u_bits : field (u_type imm rd opcode) 12 20 ≡ low_bits 20 imm
  u_bits = omega (arith, low_bits_20-lt imm)

  pub u_immediate-u_type : u_immediate (u_type imm rd opcode) ≡ imm
  u_immediate-u_type = ap pos u_bits ∙ pos-low_bits_20 imm hi

module _ (imm : ℤ) (hi : IsJumpOffset imm) (rd opcode : ℕ) (hd : rd < 32) (ho : opcode < 2 ^ 7) where
  pub opcode_of-j_type : opcode_of (j_type imm rd opcode) ≡ opcode
  opcode_of-j_type = omega (arith, low_bits_21-lt imm)

  pub rd_of-j_type : rd_of (j_type imm rd opcode) ≡ rd
  rd_of-j_type = omega (arith, low_bits_21-lt imm)

  pub j_type-lt : (j_type imm rd opcode) < 2 ^ 32
  j_type-lt = omega (arith, low_bits_21-lt imm)

  j_bits : field (j_type imm rd opcode) 31 1 * 2 ^ 20 + field (j_type imm rd opcode) 12 8 * 2 ^ 12 + field (j_type imm rd opcode) 20 1 * 2 ^ 11 + field (j_type imm rd opcode) 21 10 * 2 ≡ low_bits 21 imm
  j_bits = omega (arith, low_bits_21-lt imm, even_21 imm hi)

  pub j_immediate-j_type : j_immediate (j_type imm rd opcode) ≡ imm
  j_immediate-j_type = ap (signed 21) j_bits ∙ signed-low_bits_21 imm hi

-- ---- a word from its fields

module _ (word : ℕ) (fits : word < 2 ^ 32) where
  pub r_type-of : r_type (funct7_of word) (rs2_of word) (rs1_of word) (funct3_of word) (rd_of word) (opcode_of word) ≡ word
  r_type-of = omega arith

  pub i_type-of : i_type (i_immediate word) (rs1_of word) (funct3_of word) (rd_of word) (opcode_of word) ≡ word
  i_type-of = omega (arith, low_bits-signed_12 (field word 20 12) (omega arith))

  pub shift_type-of : shift_type (funct7_of word) (shift_count word) (rs1_of word) (funct3_of word) (rd_of word) (opcode_of word) ≡ word
  shift_type-of = omega arith

  pub s_type-of : s_type (s_immediate word) (rs2_of word) (rs1_of word) (funct3_of word) (opcode_of word) ≡ word
  s_type-of = omega (arith, low_bits-signed_12 (field word 25 7 * 2 ^ 5 + field word 7 5) (omega arith))

  pub b_type-of : b_type (b_immediate word) (rs2_of word) (rs1_of word) (funct3_of word) (opcode_of word) ≡ word
  b_type-of = omega (arith, low_bits-signed_13 (field word 31 1 * 2 ^ 12 + field word 7 1 * 2 ^ 11 + field word 25 6 * 2 ^ 5 + field word 8 4 * 2) (omega arith))

  pub u_type-of : u_type (u_immediate word) (rd_of word) (opcode_of word) ≡ word
  u_type-of = omega arith

  pub j_type-of : j_type (j_immediate word) (rd_of word) (opcode_of word) ≡ word
  j_type-of = omega (arith, low_bits-signed_21 (field word 31 1 * 2 ^ 20 + field word 12 8 * 2 ^ 12 + field word 20 1 * 2 ^ 11 + field word 21 10 * 2) (omega arith))
