use Rattle.scope_rules.proofs.Common.{◌≡◌, ◌++◌, drop, map, expr_tree, raw_expr_tree, least_of, exprs_of, exprs_faults}
use Rattle.scope_rules.proofs.expressions.exprs.Given as goal

abbrev pub invariant-loop-argument : goal.invariant-loop-argument
invariant-loop-argument l = record {
  trees : map expr_tree l.exprs.items ++ exprs_of l.names (map raw_expr_tree (drop l.argument-index l.raw)) ≡ exprs_of l.names (map raw_expr_tree l.raw);
  faults : least_of l.least (exprs_faults l.names (map raw_expr_tree (drop l.argument-index l.raw))) ≡ least_of l.initial.least (exprs_faults l.names (map raw_expr_tree l.raw));
}
