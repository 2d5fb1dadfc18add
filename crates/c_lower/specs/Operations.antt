-- The operations for an operator.
use Rattle.std.specs.Prelude.{ℕ, List, [], ◌∷◌}
use Rattle.c_tree.specs.declared.operators.BinaryOperator.{BinaryOperator}
use Rattle.c_tree.specs.declared.operators.UnaryOperator.{UnaryOperator}
use Rattle.flat_code.specs.declared.operations.Op.{Op}
use Rattle.flat_code.specs.declared.operators.BinOp.{BinOp}

abbrev pub operator_of : BinaryOperator → BinOp
operator_of BinaryOperator.Add = BinOp.Add
operator_of BinaryOperator.Subtract = BinOp.Subtract
operator_of BinaryOperator.Multiply = BinOp.Multiply
operator_of BinaryOperator.Divide = BinOp.Divide
operator_of BinaryOperator.Remainder = BinOp.Remainder
operator_of BinaryOperator.BitAnd = BinOp.BitAnd
operator_of BinaryOperator.BitOr = BinOp.BitOr
operator_of BinaryOperator.BitXor = BinOp.BitXor
operator_of BinaryOperator.ShiftLeft = BinOp.ShiftLeft
operator_of BinaryOperator.ShiftRight = BinOp.ShiftRight
operator_of BinaryOperator.Less = BinOp.Less
operator_of BinaryOperator.Greater = BinOp.Greater
operator_of BinaryOperator.LessOrEqual = BinOp.LessOrEqual
operator_of BinaryOperator.GreaterOrEqual = BinOp.GreaterOrEqual
operator_of BinaryOperator.Equal = BinOp.Equal
operator_of BinaryOperator.NotEqual = BinOp.NotEqual

-- the operations after the operand of a unary operator, when its value is in variable k: `+` has none
abbrev pub unary_code : UnaryOperator → ℕ → List Op
unary_code UnaryOperator.Plus k = []
unary_code UnaryOperator.Negate k = Op.Neg k k ∷ []
unary_code UnaryOperator.Complement k = Op.Not k k ∷ []
unary_code UnaryOperator.Not k = Op.Flip k k ∷ []

abbrev pub unary_size : UnaryOperator → ℕ
unary_size UnaryOperator.Plus = 0
unary_size UnaryOperator.Negate = 1
unary_size UnaryOperator.Complement = 1
unary_size UnaryOperator.Not = 1
