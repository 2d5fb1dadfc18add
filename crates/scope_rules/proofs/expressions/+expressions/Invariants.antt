use Rattle.scope_rules.proofs.Common.{◌≡◌, ◌++◌, drop, least_of, operand_trees, operands_of, operands_faults}
use Rattle.scope_rules.proofs.expressions.+expressions.Given as goal

abbrev pub invariant-operands-loop-operator : goal.invariant-operands-loop-operator
invariant-operands-loop-operator l = record {
  trees : operand_trees l.operands.items ++ operands_of l.names (drop l.operator-index l.rest) ≡ operands_of l.names l.rest;
  faults : least_of l.least (operands_faults l.names (drop l.operator-index l.rest)) ≡ least_of l.initial.least (operands_faults l.names l.rest);
}
