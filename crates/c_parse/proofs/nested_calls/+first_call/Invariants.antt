use Rattle.c_parse.proofs.Common.{◌≡◌, map, drop, raw_expr_tree, raw_operand_tree, first_call}
use Rattle.c_parse.proofs.CallChains.{chain_call}
use Rattle.c_parse.proofs.nested_calls.+first_call.Given as goal

abbrev pub invariant-loop-operand : goal.invariant-loop-operand
invariant-loop-operand l = chain_call l.found (map raw_operand_tree (drop l.operand-index l.operand-items)) ≡ first_call (raw_expr_tree l.expr)
