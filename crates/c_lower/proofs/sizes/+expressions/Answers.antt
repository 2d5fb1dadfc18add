use Rattle.c_lower.proofs.Common.{◌≡◌, ◌+◌, map, arith, expr_tree, operand_tree, expr_tree-Chain, expr_size}
use Rattle.c_lower.proofs.ChainCode.{chained_size}
use Rattle.c_lower.proofs.sizes.+expressions.Goals as goal

pub add_expr-loop-operator-init : goal.add_expr-loop-operator-init
add_expr-loop-operator-init t c =
    let first : c.in_ok-size-in-Chain.size ≡ c.args.size + expr_size (expr_tree c.in-Chain.first.value) = rw (← c.deref-in-Chain.ensures) c.in_ok-size-in-Chain.ensures in
    rw (c.in-Chain.is, expr_tree-Chain c.in-Chain.first c.in-Chain.rest, chained_size (expr_tree c.in-Chain.first.value) (map operand_tree c.in-Chain.rest.items), c.deref-operator-items.ensures.value)
    (omega arith)
