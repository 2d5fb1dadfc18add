-- A number of some bits, in two's complement, and back.
use Rattle.std.proofs.Common.{◌≡◌, ℕ, ◌%◌, ◌^◌, ◌<◌, ℤ, pos, negsuc, arith}
use Rattle.std.proofs.lemmas.Int.{ints}
use Rattle.rv_code.specs.Field.{low_bits, signed}
use Rattle.rv_code.specs.Range.{IsImmediate, IsUpperImmediate, IsShiftCount, IsBranchOffset, IsJumpOffset}

pub low_bits-signed_12 : (bits : ℕ) → bits < 2 ^ 12 → low_bits 12 (signed 12 bits) ≡ bits
low_bits-signed_12 bits h = grind (arith, ints)

pub low_bits-signed_13 : (bits : ℕ) → bits < 2 ^ 13 → low_bits 13 (signed 13 bits) ≡ bits
low_bits-signed_13 bits h = grind (arith, ints)

pub low_bits-signed_21 : (bits : ℕ) → bits < 2 ^ 21 → low_bits 21 (signed 21 bits) ≡ bits
low_bits-signed_21 bits h = grind (arith, ints)

pub signed-low_bits_12 : (z : ℤ) → IsImmediate z → signed 12 (low_bits 12 z) ≡ z
signed-low_bits_12 (pos n) h = grind (arith, ints)
signed-low_bits_12 (negsuc n) h = grind (arith, ints)

pub signed-low_bits_13 : (z : ℤ) → IsBranchOffset z → signed 13 (low_bits 13 z) ≡ z
signed-low_bits_13 (pos n) h = grind (arith, ints)
signed-low_bits_13 (negsuc n) h = grind (arith, ints)

pub signed-low_bits_21 : (z : ℤ) → IsJumpOffset z → signed 21 (low_bits 21 z) ≡ z
signed-low_bits_21 (pos n) h = grind (arith, ints)
signed-low_bits_21 (negsuc n) h = grind (arith, ints)

pub pos-low_bits_20 : (z : ℤ) → IsUpperImmediate z → pos (low_bits 20 z) ≡ z
pos-low_bits_20 (pos n) h = grind (arith, ints)
pos-low_bits_20 (negsuc n) h = grind (arith, ints)

pub pos-low_bits_5 : (z : ℤ) → IsShiftCount z → pos (low_bits 5 z) ≡ z
pos-low_bits_5 (pos n) h = grind (arith, ints)
pos-low_bits_5 (negsuc n) h = grind (arith, ints)

pub low_bits_5-lt : (z : ℤ) → low_bits 5 z < 2 ^ 5
low_bits_5-lt (pos n) = omega arith
low_bits_5-lt (negsuc n) = omega arith

pub low_bits_12-lt : (z : ℤ) → low_bits 12 z < 2 ^ 12
low_bits_12-lt (pos n) = omega arith
low_bits_12-lt (negsuc n) = omega arith

pub low_bits_13-lt : (z : ℤ) → low_bits 13 z < 2 ^ 13
low_bits_13-lt (pos n) = omega arith
low_bits_13-lt (negsuc n) = omega arith

pub low_bits_20-lt : (z : ℤ) → low_bits 20 z < 2 ^ 20
low_bits_20-lt (pos n) = omega arith
low_bits_20-lt (negsuc n) = omega arith

pub low_bits_21-lt : (z : ℤ) → low_bits 21 z < 2 ^ 21
low_bits_21-lt (pos n) = omega arith
low_bits_21-lt (negsuc n) = omega arith

-- what is even has an even number of low bits
pub even_13 : (z : ℤ) → IsBranchOffset z → low_bits 13 z % 2 ≡ 0
even_13 (pos n) h = grind (arith, ints)
even_13 (negsuc n) h = grind (arith, ints)

pub even_21 : (z : ℤ) → IsJumpOffset z → low_bits 21 z % 2 ≡ 0
even_21 (pos n) h = grind (arith, ints)
even_21 (negsuc n) h = grind (arith, ints)

-- the number of an even field is in range
pub IsImmediate-signed : (bits : ℕ) → bits < 2 ^ 12 → IsImmediate (signed 12 bits)
IsImmediate-signed bits h = grind (arith, ints)

pub IsBranchOffset-signed : (bits : ℕ) → bits < 2 ^ 13 → bits % 2 ≡ 0 → IsBranchOffset (signed 13 bits)
IsBranchOffset-signed bits h even = grind (arith, ints)

pub IsJumpOffset-signed : (bits : ℕ) → bits < 2 ^ 21 → bits % 2 ≡ 0 → IsJumpOffset (signed 21 bits)
IsJumpOffset-signed bits h even = grind (arith, ints)

pub IsUpperImmediate-pos : (bits : ℕ) → bits < 2 ^ 20 → IsUpperImmediate (pos bits)
IsUpperImmediate-pos bits h = grind (arith, ints)

pub IsShiftCount-pos : (bits : ℕ) → bits < 2 ^ 5 → IsShiftCount (pos bits)
IsShiftCount-pos bits h = grind (arith, ints)
