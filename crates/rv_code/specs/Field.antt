-- Fields of a word, and integers as fields of some bits: RISC-V unprivileged manual, chapter "RV32I",
-- sections "Base Instruction Formats" and "Immediate Encoding Variants".
use Rattle.std.specs.Prelude.{ℕ, ◌-◌, ◌/◌, ◌%◌, ◌^◌, nat_lt, if◌then◌else◌, ℤ, pos, ◌-ℤ◌, unsigned_abs}
use Rattle.std.specs.Int.{int_rem_euclid}

-- the field of `width` bits of a word that begins at the bit `low`
abbrev pub field : ℕ → ℕ → ℕ → ℕ
field word low width = word / 2 ^ low % 2 ^ width

-- the low bits of an integer: the integer modulo 2 ^ width
abbrev pub low_bits : ℕ → ℤ → ℕ
low_bits width z = unsigned_abs (int_rem_euclid z (pos (2 ^ width)))

-- sign extension: the integer whose two's complement in `width` bits is the field
abbrev pub signed : ℕ → ℕ → ℤ
signed width bits = if nat_lt bits (2 ^ (width - 1)) then pos bits else pos bits -ℤ pos (2 ^ width)
