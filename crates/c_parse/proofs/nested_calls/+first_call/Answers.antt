use Rattle.c_parse.proofs.Common.{map, refl, raw_expr_tree, raw_operand_tree, raw_expr_tree-Chain}
use Rattle.c_parse.proofs.CallChains.{chained_call}
use Rattle.c_parse.proofs.nested_calls.+first_call.Goals as goal

pub loop-operand-init : goal.loop-operand-init
loop-operand-init t c =
    rw (c.in-Chain.is, raw_expr_tree-Chain c.in-Chain.left c.in-Chain.rest, chained_call (raw_expr_tree c.in-Chain.left.value) (map raw_operand_tree c.in-Chain.rest.items), c.deref-operand-items.ensures.value, c.first_call-found.ensures, c.deref-in-Chain.ensures)
    refl
