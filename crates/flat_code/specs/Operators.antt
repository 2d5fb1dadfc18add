-- The values of the operators of flat code, on words: ISO/IEC 9899:2018, 6.5.5 to 6.5.12; a sum, a difference, a
-- product and `<<` wrap, shift counts are taken modulo 32, and `>>` copies the sign. A division by 0 gives -1, with the
-- left operand as remainder; -2147483648 by -1 is itself, with remainder 0.
use Rattle.std.specs.Prelude.{ℕ, not, nat_eq, int_lt, int_le, bit_and, bit_or, bit_xor}
use Rattle.cap_word.specs.Word as word
use Rattle.flat_code.specs.declared.operators.BinOp.{BinOp}

abbrev pub result_of : BinOp → ℕ → ℕ → ℕ
result_of BinOp.Add a b = word.add a b
result_of BinOp.Subtract a b = word.sub a b
result_of BinOp.Multiply a b = word.mul a b
result_of BinOp.Divide a b = word.div a b
result_of BinOp.Remainder a b = word.rem a b
result_of BinOp.BitAnd a b = bit_and a b
result_of BinOp.BitOr a b = bit_or a b
result_of BinOp.BitXor a b = bit_xor a b
result_of BinOp.ShiftLeft a b = word.sll a b
result_of BinOp.ShiftRight a b = word.sra a b
result_of BinOp.Less a b = word.flag (int_lt (word.signed a) (word.signed b))
result_of BinOp.Greater a b = word.flag (int_lt (word.signed b) (word.signed a))
result_of BinOp.LessOrEqual a b = word.flag (int_le (word.signed a) (word.signed b))
result_of BinOp.GreaterOrEqual a b = word.flag (int_le (word.signed b) (word.signed a))
result_of BinOp.Equal a b = word.flag (nat_eq a b)
result_of BinOp.NotEqual a b = word.flag (not (nat_eq a b))
