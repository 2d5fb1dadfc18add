use Rattle.c_lower.proofs.Common.{◌≡◌, ◌^◌, ◌++◌, length, map, drop, expr_tree, expr_code, operands_code}
use Rattle.c_lower.proofs.ChainCode.{OperandsFit}
use Rattle.c_lower.proofs.expressions.+expressions.Given as goal

abbrev pub invariant-put_expr-loop-operator : goal.invariant-put_expr-loop-operator
invariant-put_expr-loop-operator l = record {
  code : l.code.items ++ operands_code (map (λ p. (p.0, expr_tree p.1)) (drop l.operator-index l.operator-items)) (length l.code.items) l.k
      ≡ l.fn.code.items ++ expr_code (expr_tree l.expr) (length l.fn.code.items) l.k;
  fits : OperandsFit (2 ^ 32) l.k (map (λ p. (p.0, expr_tree p.1)) (drop l.operator-index l.operator-items));
}
