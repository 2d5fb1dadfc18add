use Rattle.hoist_parts.proofs.Common.{◌≡◌, map, drop, raw_expr_tree, raw_operand_tree, holds_call}
use Rattle.hoist_parts.proofs.HeldChains.{chain_held}
use Rattle.hoist_parts.proofs.held_calls.+holds_call.Given as goal

abbrev pub invariant-loop-operand : goal.invariant-loop-operand
invariant-loop-operand l = chain_held l.held (map raw_operand_tree (drop l.operand-index l.operand-items)) ≡ holds_call (raw_expr_tree l.expr)
