use Rattle.hoist_rules.proofs.Common.{◌≡◌, ◌+◌, map, drop, raw_expr_tree, raw_expr_trees, arguments_names, arguments_left, arguments_before, calls_among, chain_tree, operand_trees, operands_left, operands_before, operands_after, then_all}
use Rattle.hoist_rules.proofs.ArgumentTurns.{then_trees}
use Rattle.hoist_rules.proofs.hoisting.Hoisting.+hoist.Given as goal

-- what remains of the operators so far, followed by the rest, is what remains of the whole chain
abbrev pub invariant-operands-loop-operator : goal.invariant-operands-loop-operator
invariant-operands-loop-operator g l = record {
  left : operands_left l.self.next l.is_alone (chain_tree l.left) (operand_trees (drop l.operator-index l.rest))
      ≡ operands_left l.initial.self.next l.initial.is_alone (chain_tree l.initial.left) (operand_trees l.rest);
  before : then_all (g.R.Receive.so_far l.self.receiver) (operands_before l.self.next l.is_alone (chain_tree l.left) (operand_trees (drop l.operator-index l.rest)))
      ≡ then_all (g.R.Receive.so_far l.initial.self.receiver) (operands_before l.initial.self.next l.initial.is_alone (chain_tree l.initial.left) (operand_trees l.rest));
  next : operands_after l.self.next l.is_alone (operand_trees (drop l.operator-index l.rest)) ≡ operands_after l.initial.self.next l.initial.is_alone (operand_trees l.rest);
}

abbrev pub invariant-arguments-loop-argument : goal.invariant-arguments-loop-argument
invariant-arguments-loop-argument g l = record {
  left : then_trees (map raw_expr_tree l.arguments.items) (arguments_left l.stays l.self.next (raw_expr_trees (drop l.argument-index l.raw)))
      ≡ arguments_left l.is_first_kept l.initial.self.next (raw_expr_trees l.raw);
  before : then_all (g.R.Receive.so_far l.self.receiver) (arguments_before l.stays l.self.next (raw_expr_trees (drop l.argument-index l.raw)))
      ≡ then_all (g.R.Receive.so_far l.initial.self.receiver) (arguments_before l.is_first_kept l.initial.self.next (raw_expr_trees l.raw));
  next : l.self.next + arguments_names l.stays (raw_expr_trees (drop l.argument-index l.raw)) ≡ l.initial.self.next + arguments_names l.is_first_kept (raw_expr_trees l.raw);
  calls : l.calls ≡ calls_among (raw_expr_trees (drop l.argument-index l.raw));
}
