use Rattle.c_tree.proofs.Common.{◌≡◌, ◌≤◌, map, drop, expr_tree, capped, expr_temporaries}
use Rattle.c_tree.proofs.ChainTemporaries.{chain_count}
use Rattle.c_tree.proofs.expressions.Expr.+temporaries.Given as goal

abbrev pub invariant-loop-operator : goal.invariant-loop-operator
invariant-loop-operator l =
    (l.most ≤ 65537)
    × (capped (chain_count l.most (map (λ p. (p.0, expr_tree p.1)) (drop l.operator-index l.operator-items))) ≡ capped (expr_temporaries (expr_tree l.self)))
