-- The values of the operators of CapC, on words: ISO/IEC 9899:2018, 6.5.3.3 and 6.5.5 to 6.5.12; a sum, a
-- difference, a product and `<<` wrap, shift counts are taken modulo 32, and `>>` copies the sign.
use Rattle.std.specs.Prelude.{ℕ, ◌-◌, ◌^◌, not, nat_eq, int_lt, int_le, bit_and, bit_or, bit_xor}
use Rattle.cap_word.specs.Word as word
use Rattle.c_tree.specs.declared.operators.BinaryOperator.{BinaryOperator}
use Rattle.c_tree.specs.declared.operators.UnaryOperator.{UnaryOperator}

abbrev pub unary_value : UnaryOperator → ℕ → ℕ
unary_value UnaryOperator.Plus a = a
unary_value UnaryOperator.Negate a = word.sub 0 a
unary_value UnaryOperator.Complement a = bit_xor a (2 ^ 32 - 1)
unary_value UnaryOperator.Not a = word.flag (nat_eq a 0)

-- division by 0 gives -1, and a remainder by 0 the left operand; -2147483648 by -1 is itself, with the remainder 0
abbrev pub binary_value : BinaryOperator → ℕ → ℕ → ℕ
binary_value BinaryOperator.Add a b = word.add a b
binary_value BinaryOperator.Subtract a b = word.sub a b
binary_value BinaryOperator.Multiply a b = word.mul a b
binary_value BinaryOperator.Divide a b = word.div a b
binary_value BinaryOperator.Remainder a b = word.rem a b
binary_value BinaryOperator.BitAnd a b = bit_and a b
binary_value BinaryOperator.BitOr a b = bit_or a b
binary_value BinaryOperator.BitXor a b = bit_xor a b
binary_value BinaryOperator.ShiftLeft a b = word.sll a b
binary_value BinaryOperator.ShiftRight a b = word.sra a b
binary_value BinaryOperator.Less a b = word.flag (int_lt (word.signed a) (word.signed b))
binary_value BinaryOperator.Greater a b = word.flag (int_lt (word.signed b) (word.signed a))
binary_value BinaryOperator.LessOrEqual a b = word.flag (int_le (word.signed a) (word.signed b))
binary_value BinaryOperator.GreaterOrEqual a b = word.flag (int_le (word.signed b) (word.signed a))
binary_value BinaryOperator.Equal a b = word.flag (nat_eq a b)
binary_value BinaryOperator.NotEqual a b = word.flag (not (nat_eq a b))
