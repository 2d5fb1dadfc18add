use Rattle.c_tree.proofs.Common.{◌≡◌, ◌+◌, ◌∷◌, ℕ, max, ◌∙◌, map, drop, arith, Infix, expr_tree, capped, expr_temporaries, operand_temporaries}
use Rattle.c_tree.proofs.Cuts.{drop_at}
use Rattle.c_tree.proofs.ChainTemporaries.{chained_count, chain_count_capped}
use Rattle.c_tree.proofs.ExprEquations.{operand_tree, expr_tree-Chain}
use Rattle.c_tree.proofs.expressions.Expr.+temporaries.Goals as goal

capped_step : (o : Infix) (most n m r : ℕ) → m ≡ capped n → r ≡ max most (capped (operand_temporaries o m)) → capped r ≡ capped (max most (operand_temporaries o n))
capped_step (Infix.Binary op) most n m r e f = omega arith
capped_step _ most n m r e f = omega arith

pub loop-operator-init : goal.loop-operator-init
loop-operator-init t c =
    let most = c.temporaries-most.ensures in (
      omega arith,
      rw (c.in-Chain.is, expr_tree-Chain c.in-Chain.first c.in-Chain.rest, chained_count (expr_tree c.in-Chain.first.value) (map operand_tree c.in-Chain.rest.items), c.deref-operator-items.ensures.value)
          (chain_count_capped _ _ (map operand_tree c.in-Chain.rest.items) (rw (c.temporaries-most.ensures, c.deref-in-Chain.ensures) (omega arith))),
    )

pub loop-operator-preserved : goal.loop-operator-preserved
loop-operator-preserved t c =
    let item = c.loop-operator-item.result in
    let items = c.deref-operator-items.result.now in
    let i = c.loop-operator.operator-index in
    let most = c.loop-operator.most in
    let e : c.temporaries-in-loop-operator.result ≡ capped (expr_temporaries (expr_tree item.1)) = c.temporaries-in-loop-operator.ensures in
    let step : capped c.larger-most.result ≡ capped (max most (operand_temporaries item.0 (expr_temporaries (expr_tree item.1)))) =
    capped_step item.0 most _ _ _ e (rw (← c.after.ensures) c.larger-most.ensures) in
    let cut : drop i items ≡ item ∷ drop (i + 1) items = drop_at items i item c.loop-operator-test.true c.loop-operator-item.is in
    let here = rw cut at c.loop-operator.invariant.1 in (
      omega arith,
      chain_count_capped _ _ (map operand_tree (drop (i + 1) items)) step ∙ here,
    )
