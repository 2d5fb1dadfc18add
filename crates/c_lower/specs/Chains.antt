-- The operations of a chain of operators, which group to the left: those after the left operand.
use Rattle.std.specs.Prelude.{ℕ, ◌+◌, List, [], ◌∷◌, ◌++◌}
use Rattle.c_tree.specs.declared.operators.Infix.{Infix}
use Rattle.c_tree.specs.Trees.{ExprTree}
use Rattle.flat_code.specs.declared.operations.Op.{Op}
use Rattle.c_lower.specs.Operations.{operator_of}
use Rattle.c_lower.specs.ExprCode.{expr_size, expr_code}

abbrev pub infix_size : Infix → ℕ
infix_size (Infix.Binary op) = 1
infix_size Infix.LogicalAnd = 5
infix_size Infix.LogicalOr = 6

-- variable k becomes 1 if it isn't 0, and 0 if it is or if `otherwise` is jumped to
abbrev pub truth_code : (k otherwise end : ℕ) → List Op
truth_code k otherwise end = Op.JumpZero k otherwise ∷ Op.Const k 1 ∷ Op.Jump end ∷ Op.Const k 0 ∷ []

-- an operator and its right operand, when the left one is in variable k
abbrev pub operand_code : Infix → ExprTree → (p k : ℕ) → List Op
operand_code (Infix.Binary op) r p k = expr_code r p (k + 1) ++ (Op.Bin (operator_of op) k k (k + 1) ∷ [])
operand_code Infix.LogicalAnd r p k =
    let otherwise = p + 1 + expr_size r + 3 in
    (Op.JumpZero k otherwise ∷ []) ++ expr_code r (p + 1) k ++ truth_code k otherwise (otherwise + 1)
operand_code Infix.LogicalOr r p k =
    let one = p + 2 + expr_size r + 1 in
    (Op.JumpZero k (p + 2) ∷ Op.Jump one ∷ []) ++ expr_code r (p + 2) k ++ truth_code k (one + 2) (one + 3)

abbrev pub operands_code : List (Infix × ExprTree) → (p k : ℕ) → List Op
operands_code [] p k = []
operands_code (o ∷ os) p k = operand_code o.0 o.1 p k ++ operands_code os (p + (expr_size o.1 + infix_size o.0)) k

abbrev pub operands_size : List (Infix × ExprTree) → ℕ
operands_size [] = 0
operands_size (o ∷ os) = expr_size o.1 + infix_size o.0 + operands_size os
