-- Chains of operators, as the code builds them.
use Rattle.std.specs.Prelude.{ℕ, ◌+◌, Bool, false, not, ◌&&◌, List, [], ◌∷◌, ◌++◌, if◌then◌else◌}
use Rattle.c_tree.specs.declared.operators.Infix.{Infix}
use Rattle.c_tree.specs.declared.raw_expressions.RawExpr.{RawExpr}
use Rattle.c_tree.specs.RawTrees.{RawExprTree, RawBinary, RawLogicalAnd, RawLogicalOr, RawStmtTree}
use Rattle.c_tree.specs.RawViews.{raw_expr_tree, raw_chained}
use Rattle.hoist_parts.specs.declared.chains.Chain.{Chain}
use Rattle.hoist_parts.specs.NewNames.{used}
use Rattle.hoist_parts.specs.Calls.{holds_call}
use Rattle.hoist_parts.specs.Expressions.{one_if, names_in, part_or, part_named, left_of, before, decided, is_false}

abbrev pub operand_trees : List (Infix × RawExpr) → List (Infix × RawExprTree)
operand_trees [] = []
operand_trees (p ∷ ps) = (p.0, raw_expr_tree p.1) ∷ operand_trees ps

abbrev pub chain_tree : Chain → RawExprTree
chain_tree c = raw_chained (raw_expr_tree c.first) (operand_trees c.rest.items)

-- whether an operator's right operand is evaluated in a branch
abbrev pub branches : Infix → Bool → Bool
branches (Infix.Binary op) calling = false
branches Infix.LogicalAnd calling = calling
branches Infix.LogicalOr calling = calling

-- the condition under which the right operand of a logical operator is evaluated, by the new name of the left operand's
-- truth
abbrev pub condition_by : Infix → ℕ → RawExprTree
condition_by (Infix.Binary op) k = used k
condition_by Infix.LogicalAnd k = used k
condition_by Infix.LogicalOr k = is_false (used k)

-- Whether a left operand gets a name; `alone` says that it needs none to keep its value. For `&&` and `||` it is the
-- name of the result.
abbrev pub is_left_named : Infix → Bool → RawExprTree → Bool
is_left_named (Infix.Binary op) alone r = holds_call r && not alone
is_left_named Infix.LogicalAnd alone r = holds_call r
is_left_named Infix.LogicalOr alone r = holds_call r

-- the number after an operator and its right operand
abbrev pub operand_after : ℕ → Infix → Bool → RawExprTree → ℕ
operand_after k op alone r = k + one_if (is_left_named op alone r) + names_in r

-- the remaining expression for an operator between a left operand, which has become `l`, and a right one
abbrev pub operand_left : ℕ → Infix → Bool → RawExprTree → RawExprTree → RawExprTree
operand_left k (Infix.Binary op) alone l r = RawBinary op (part_or (holds_call r && not alone) k l) (left_of (k + one_if (holds_call r && not alone)) r)
operand_left k Infix.LogicalAnd alone l r = if holds_call r then used k else RawLogicalAnd l r
operand_left k Infix.LogicalOr alone l r = if holds_call r then used k else RawLogicalOr l r

-- the statements before it, after those before its left operand
abbrev pub operand_before : ℕ → Infix → Bool → RawExprTree → RawExprTree → List RawStmtTree
operand_before k (Infix.Binary op) alone l r = part_named (holds_call r && not alone) k l ++ before (k + one_if (holds_call r && not alone)) r
operand_before k Infix.LogicalAnd alone l r = if holds_call r then decided k l (used k) (before (k + 1) r) (left_of (k + 1) r) else []
operand_before k Infix.LogicalOr alone l r = if holds_call r then decided k l (is_false (used k)) (before (k + 1) r) (left_of (k + 1) r) else []

-- a chain of operators
abbrev pub operands_after : ℕ → Bool → List (Infix × RawExprTree) → ℕ
operands_after k alone [] = k
operands_after k alone (p ∷ ps) = operands_after (operand_after k p.0 alone p.1) false ps

abbrev pub operands_left : ℕ → Bool → RawExprTree → List (Infix × RawExprTree) → RawExprTree
operands_left k alone l [] = l
operands_left k alone l (p ∷ ps) = operands_left (operand_after k p.0 alone p.1) false (operand_left k p.0 alone l p.1) ps

abbrev pub operands_before : ℕ → Bool → RawExprTree → List (Infix × RawExprTree) → List RawStmtTree
operands_before k alone l [] = []
operands_before k alone l (p ∷ ps) = operand_before k p.0 alone l p.1 ++ operands_before (operand_after k p.0 alone p.1) false (operand_left k p.0 alone l p.1) ps
