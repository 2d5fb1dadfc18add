-- Each operator of specs/Word.antt gives a word: what a caller needs who computes with definitions alone.
use Rattle.std.proofs.Common.{ℕ, ◌*◌, ◌%◌, ◌^◌, ◌<◌, Bool, true, false, ℤ, pos, negsuc, arith, lit<}
use Rattle.std.proofs.Math.Nat.{div-le_self, mod-le}
use Rattle.std.proofs.lemmas.Nat.{mul-lt, shr_below, shr_le}
use Rattle.cap_word.specs.Word.{word_of, flag, add, sub, slt, sltu, sll, srl, sra, mul, mulh, mulhsu, mulhu, div, divu, rem, remu}

pub word_of-below : (z : ℤ) → word_of z < 2 ^ 32
unfolding word_of
word_of-below (pos n) = omega arith
word_of-below (negsuc n) = omega arith

pub flag-below : (holds : Bool) → flag holds < 2 ^ 32
unfolding flag
flag-below true = lit< tt
flag-below false = lit< tt

pub add-below : (a b : ℕ) → add a b < 2 ^ 32
unfolding add
add-below a b = omega arith

pub sub-below : (a b : ℕ) → sub a b < 2 ^ 32
unfolding sub
sub-below a b = word_of-below _

pub slt-below : (a b : ℕ) → slt a b < 2 ^ 32
unfolding slt
slt-below a b = flag-below _

pub sltu-below : (a b : ℕ) → sltu a b < 2 ^ 32
unfolding sltu
sltu-below a b = flag-below _

pub sll-below : (a b : ℕ) → sll a b < 2 ^ 32
unfolding sll
sll-below a b = omega arith

pub srl-below : (a b : ℕ) → a < 2 ^ 32 → srl a b < 2 ^ 32
unfolding srl
srl-below a b h = omega (arith, shr_le a (b % 32))

pub sra-below : (a b : ℕ) → sra a b < 2 ^ 32
unfolding sra
sra-below a b = word_of-below _

pub mul-below : (a b : ℕ) → mul a b < 2 ^ 32
unfolding mul
mul-below a b = omega arith

pub mulh-below : (a b : ℕ) → mulh a b < 2 ^ 32
unfolding mulh
mulh-below a b = word_of-below _

pub mulhsu-below : (a b : ℕ) → mulhsu a b < 2 ^ 32
unfolding mulhsu
mulhsu-below a b = word_of-below _

pub mulhu-below : (a b : ℕ) → a < 2 ^ 32 → b < 2 ^ 32 → mulhu a b < 2 ^ 32
unfolding mulhu
mulhu-below a b h k = shr_below (a * b) 32 32 (mul-lt a b (2 ^ 32) (2 ^ 32) h k)

pub div-below : (a b : ℕ) → div a b < 2 ^ 32
unfolding div
div-below a b = grind (arith, word_of-below)

pub divu-below : (a b : ℕ) → a < 2 ^ 32 → divu a b < 2 ^ 32
unfolding divu
divu-below a b h = grind (arith, div-le_self a b)

pub rem-below : (a b : ℕ) → a < 2 ^ 32 → rem a b < 2 ^ 32
unfolding rem
rem-below a b h = grind (arith, word_of-below)

pub remu-below : (a b : ℕ) → a < 2 ^ 32 → remu a b < 2 ^ 32
unfolding remu
remu-below a b h = grind (arith, mod-le a b)
