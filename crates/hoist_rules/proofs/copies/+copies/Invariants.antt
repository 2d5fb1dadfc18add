use Rattle.hoist_rules.proofs.Common.{◌≡◌, map, drop, take, raw_expr_tree, raw_chained, chain_tree, operand_trees}
use Rattle.hoist_rules.proofs.copies.+copies.Given as goal

-- the chain so far, followed by the rest, is the whole chain
abbrev pub invariant-chain_copy-loop-operator : goal.invariant-chain_copy-loop-operator
invariant-chain_copy-loop-operator l = raw_chained (chain_tree l.chain) (operand_trees (drop l.operator-index l.rest)) ≡ raw_chained (raw_expr_tree l.fn.first) (operand_trees l.rest)

abbrev pub invariant-expr_copies-loop-argument : goal.invariant-expr_copies-loop-argument
invariant-expr_copies-loop-argument l = map raw_expr_tree l.copies.items ≡ map raw_expr_tree (take l.argument-index l.raw)
