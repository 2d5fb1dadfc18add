-- Words of 32 bits and their arithmetic, on integers: a word is an integer from 0 to 2 ^ 32 - 1. The
-- rows are those of the RISC-V unprivileged manual, RV32I 2.1 and M 2.0, in its order. They use sums,
-- products, quotients rounded down or toward zero, and remainders, but no bits.
use Rattle.std.specs.Prelude.{ℕ, Bool, ◌+◌, ◌-◌, ◌*◌, ◌/◌, ◌%◌, ◌^◌, ◌==◌, nat_lt, if◌then◌else◌, ℤ, pos, ◌-ℤ◌, ◌*ℤ◌, int_lt, unsigned_abs, int_div, int_rem}
use Rattle.std.specs.Int.{int_div_euclid, int_rem_euclid}

-- a word as a signed number: from 2 ^ 31 on, the word minus 2 ^ 32
unfoldable pub signed : ℕ → ℤ
signed a = if nat_lt a (2 ^ 31) then pos a else pos a -ℤ pos (2 ^ 32)

-- the word of an integer: the integer modulo 2 ^ 32
unfoldable pub word_of : ℤ → ℕ
word_of z = unsigned_abs (int_rem_euclid z (pos (2 ^ 32)))

-- an integer divided by a natural number above 0, rounded down
unfoldable pub floor_div : ℤ → ℕ → ℤ
floor_div z m = int_div_euclid z (pos m)

-- 1 if the test holds, and 0 otherwise
unfoldable pub flag : Bool → ℕ
flag holds = if holds then 1 else 0

-- ---- sums

unfoldable pub add : ℕ → ℕ → ℕ
add a b = (a + b) % 2 ^ 32

unfoldable pub sub : ℕ → ℕ → ℕ
sub a b = word_of (pos a -ℤ pos b)

-- ---- comparisons

unfoldable pub slt : ℕ → ℕ → ℕ
slt a b = flag (int_lt (signed a) (signed b))

unfoldable pub sltu : ℕ → ℕ → ℕ
sltu a b = flag (nat_lt a b)

-- ---- shifts, by the count modulo 32

unfoldable pub sll : ℕ → ℕ → ℕ
sll a b = (a * 2 ^ (b % 32)) % 2 ^ 32

unfoldable pub srl : ℕ → ℕ → ℕ
srl a b = a / 2 ^ (b % 32)

unfoldable pub sra : ℕ → ℕ → ℕ
sra a b = word_of (floor_div (signed a) (2 ^ (b % 32)))

-- ---- products: the low word, and the high word for each signedness

unfoldable pub mul : ℕ → ℕ → ℕ
mul a b = (a * b) % 2 ^ 32

unfoldable pub mulh : ℕ → ℕ → ℕ
mulh a b = word_of (floor_div (signed a *ℤ signed b) (2 ^ 32))

unfoldable pub mulhsu : ℕ → ℕ → ℕ
mulhsu a b = word_of (floor_div (signed a *ℤ pos b) (2 ^ 32))

unfoldable pub mulhu : ℕ → ℕ → ℕ
mulhu a b = a * b / 2 ^ 32

-- ---- quotients and remainders
-- division by 0 gives all ones, with the dividend as remainder; signed quotients round toward zero, and
-- -(2 ^ 31) by -1 is 2 ^ 31, which is -(2 ^ 31) as a signed word

unfoldable pub div : ℕ → ℕ → ℕ
div a b = if b == 0 then 2 ^ 32 - 1 else word_of (int_div (signed a) (signed b))

unfoldable pub divu : ℕ → ℕ → ℕ
divu a b = if b == 0 then 2 ^ 32 - 1 else a / b

unfoldable pub rem : ℕ → ℕ → ℕ
rem a b = if b == 0 then a else word_of (int_rem (signed a) (signed b))

unfoldable pub remu : ℕ → ℕ → ℕ
remu a b = if b == 0 then a else a % b
