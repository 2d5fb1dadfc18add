-- The ranges of the fields of instructions.
use Rattle.std.specs.Prelude.{◌≡◌, ℕ, ◌<◌, ℤ, pos, negsuc, ◌≤ℤ◌}
use Rattle.rv_code.specs.Field.{low_bits}

-- a register's number
abbrev pub IsRegister : ℕ → Type 0
IsRegister number = number < 32

-- an immediate of formats I and S: a signed number of 12 bits
abbrev pub IsImmediate : ℤ → Type 0
IsImmediate z = (negsuc 2047 ≤ℤ z) × (z ≤ℤ pos 2047)

-- a branch's offset in bytes: a signed number of 13 bits, even
abbrev pub IsBranchOffset : ℤ → Type 0
IsBranchOffset z = (negsuc 4095 ≤ℤ z) × (z ≤ℤ pos 4095) × (low_bits 1 z ≡ 0)

-- a jump's offset in bytes: a signed number of 21 bits, even
abbrev pub IsJumpOffset : ℤ → Type 0
IsJumpOffset z = (negsuc 1048575 ≤ℤ z) × (z ≤ℤ pos 1048575) × (low_bits 1 z ≡ 0)

-- an upper immediate: a field of 20 bits
abbrev pub IsUpperImmediate : ℤ → Type 0
IsUpperImmediate z = (pos 0 ≤ℤ z) × (z ≤ℤ pos 1048575)

-- a shift count: a field of 5 bits
abbrev pub IsShiftCount : ℤ → Type 0
IsShiftCount z = (pos 0 ≤ℤ z) × (z ≤ℤ pos 31)
