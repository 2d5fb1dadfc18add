-- Which tokens are operators, and how tightly binary operators bind.
use Rattle.std.specs.Prelude.{ℕ, Option, Some, None}
use Rattle.c_lex.specs.declared.marks.Mark.TheVariants as marks
use Rattle.c_lex.specs.declared.tokens.TokenKind.{TokenKind}
use Rattle.c_lex.specs.declared.tokens.TokenKind.TheVariants as kinds
use Rattle.c_tree.specs.declared.operators.BinaryOperator.{BinaryOperator}
use Rattle.c_tree.specs.declared.operators.Infix.{Infix}
use Rattle.c_tree.specs.declared.operators.UnaryOperator.{UnaryOperator}

-- the operator before an operand that the token is
abbrev pub unary_operator_of : Option TokenKind → Option UnaryOperator
unary_operator_of (Some (kinds.Mark marks.Minus)) = Some UnaryOperator.Negate
unary_operator_of (Some (kinds.Mark marks.Plus)) = Some UnaryOperator.Plus
unary_operator_of (Some (kinds.Mark marks.Exclamation)) = Some UnaryOperator.Not
unary_operator_of (Some (kinds.Mark marks.Tilde)) = Some UnaryOperator.Complement
unary_operator_of _ = None

-- the operator between two operands that the token is
abbrev pub infix_operator_of : Option TokenKind → Option Infix
infix_operator_of (Some (kinds.Mark marks.OrOr)) = Some Infix.LogicalOr
infix_operator_of (Some (kinds.Mark marks.AndAnd)) = Some Infix.LogicalAnd
infix_operator_of (Some (kinds.Mark marks.Bar)) = Some (Infix.Binary BinaryOperator.BitOr)
infix_operator_of (Some (kinds.Mark marks.Caret)) = Some (Infix.Binary BinaryOperator.BitXor)
infix_operator_of (Some (kinds.Mark marks.Ampersand)) = Some (Infix.Binary BinaryOperator.BitAnd)
infix_operator_of (Some (kinds.Mark marks.Equal)) = Some (Infix.Binary BinaryOperator.Equal)
infix_operator_of (Some (kinds.Mark marks.NotEqual)) = Some (Infix.Binary BinaryOperator.NotEqual)
infix_operator_of (Some (kinds.Mark marks.Less)) = Some (Infix.Binary BinaryOperator.Less)
infix_operator_of (Some (kinds.Mark marks.LessEqual)) = Some (Infix.Binary BinaryOperator.LessOrEqual)
infix_operator_of (Some (kinds.Mark marks.Greater)) = Some (Infix.Binary BinaryOperator.Greater)
infix_operator_of (Some (kinds.Mark marks.GreaterEqual)) = Some (Infix.Binary BinaryOperator.GreaterOrEqual)
infix_operator_of (Some (kinds.Mark marks.ShiftLeft)) = Some (Infix.Binary BinaryOperator.ShiftLeft)
infix_operator_of (Some (kinds.Mark marks.ShiftRight)) = Some (Infix.Binary BinaryOperator.ShiftRight)
infix_operator_of (Some (kinds.Mark marks.Plus)) = Some (Infix.Binary BinaryOperator.Add)
infix_operator_of (Some (kinds.Mark marks.Minus)) = Some (Infix.Binary BinaryOperator.Subtract)
infix_operator_of (Some (kinds.Mark marks.Star)) = Some (Infix.Binary BinaryOperator.Multiply)
infix_operator_of (Some (kinds.Mark marks.Slash)) = Some (Infix.Binary BinaryOperator.Divide)
infix_operator_of (Some (kinds.Mark marks.Percent)) = Some (Infix.Binary BinaryOperator.Remainder)
infix_operator_of _ = None

-- the level of an operator, from 0 for `||`, the loosest, to 9 for `*`, `/` and `%`
abbrev pub level_of_infix : Infix → ℕ
level_of_infix Infix.LogicalOr = 0
level_of_infix Infix.LogicalAnd = 1
level_of_infix (Infix.Binary BinaryOperator.BitOr) = 2
level_of_infix (Infix.Binary BinaryOperator.BitXor) = 3
level_of_infix (Infix.Binary BinaryOperator.BitAnd) = 4
level_of_infix (Infix.Binary BinaryOperator.Equal) = 5
level_of_infix (Infix.Binary BinaryOperator.NotEqual) = 5
level_of_infix (Infix.Binary BinaryOperator.Less) = 6
level_of_infix (Infix.Binary BinaryOperator.Greater) = 6
level_of_infix (Infix.Binary BinaryOperator.LessOrEqual) = 6
level_of_infix (Infix.Binary BinaryOperator.GreaterOrEqual) = 6
level_of_infix (Infix.Binary BinaryOperator.ShiftLeft) = 7
level_of_infix (Infix.Binary BinaryOperator.ShiftRight) = 7
level_of_infix (Infix.Binary BinaryOperator.Add) = 8
level_of_infix (Infix.Binary BinaryOperator.Subtract) = 8
level_of_infix (Infix.Binary BinaryOperator.Multiply) = 9
level_of_infix (Infix.Binary BinaryOperator.Divide) = 9
level_of_infix (Infix.Binary BinaryOperator.Remainder) = 9
