use Rattle.source_items.proofs.Common.{◌≡◌, map, drop, Ok, expr_tree, rows_in, value, chain_value, OperandsInRange}
use Rattle.source_items.proofs.values.+operand.Given as goal

abbrev pub invariant-composed-loop-operator : goal.invariant-composed-loop-operator
invariant-composed-loop-operator l = record {
  left : chain_value (rows_in l.names) (rows_in l.globals) (Ok l.left) (map (λ p. (p.0, expr_tree p.1)) (drop l.operator-index l.operator-items))
      ≡ value (rows_in l.names) (rows_in l.globals) (expr_tree l.expr);
  in_range : OperandsInRange l.names.widths.now l.globals.widths.now (map (λ p. (p.0, expr_tree p.1)) (drop l.operator-index l.operator-items));
}
