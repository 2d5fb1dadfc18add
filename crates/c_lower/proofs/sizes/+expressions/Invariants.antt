use Rattle.c_lower.proofs.Common.{◌≡◌, ◌+◌, map, drop, expr_tree, expr_size, operands_size}
use Rattle.c_lower.proofs.sizes.+expressions.Given as goal

abbrev pub invariant-add_expr-loop-operator : goal.invariant-add_expr-loop-operator
invariant-add_expr-loop-operator l =
    l.size + operands_size (map (λ p. (p.0, expr_tree p.1)) (drop l.operator-index l.operator-items)) ≡ l.fn.size + expr_size (expr_tree l.expr)
