use Rattle.std.proofs.Common.{◌≡◌, map, drop}
use Rattle.std.specs.Prelude.{Ok}
use Rattle.c_tree.specs.Views.{expr_tree}
use Rattle.c_mean.specs.Layout.{rows_of, widths_of}
use Rattle.c_mean.specs.Values.{value}
use Rattle.c_mean.specs.Chains.{chain_value}
use Rattle.c_mean.proofs.ChainLemmas.{OperandsInRange}
use Rattle.c_mean.proofs.values.+evaluate.Given as goal

abbrev pub invariant-loop-operator : goal.invariant-loop-operator
invariant-loop-operator l = record {
  left : chain_value (rows_of l.sizes l.names) (rows_of (widths_of l.facts) l.globals) (Ok l.left) (map (λ p. (p.0, expr_tree p.1)) (drop l.operator-index l.operator-items))
      ≡ value (rows_of l.sizes l.names) (rows_of (widths_of l.facts) l.globals) (expr_tree l.expr);
  in_range : OperandsInRange l.sizes (widths_of l.facts) (map (λ p. (p.0, expr_tree p.1)) (drop l.operator-index l.operator-items));
}
