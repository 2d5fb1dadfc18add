use Rattle.hoist_parts.proofs.Common.{map, refl, raw_expr_tree, raw_operand_tree, raw_expr_tree-Chain}
use Rattle.hoist_parts.proofs.HeldChains.{chained_held}
use Rattle.hoist_parts.proofs.held_calls.+holds_call.Goals as goal

pub loop-operand-init : goal.loop-operand-init
loop-operand-init t c =
    rw (c.in-Chain.is, raw_expr_tree-Chain c.in-Chain.first c.in-Chain.rest, chained_held (raw_expr_tree c.in-Chain.first.value) (map raw_operand_tree c.in-Chain.rest.items), c.deref-operand-items.ensures.value, c.holds_call-held.ensures, c.deref-in-Chain.ensures)
    refl
