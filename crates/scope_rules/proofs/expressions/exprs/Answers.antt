use Rattle.scope_rules.proofs.Common.{◌≡◌, ◌∷◌, ◌+◌, map, drop, append_assoc, raw_expr_tree, expr_tree, expr_faults, exprs_faults, drop_at}
use Rattle.scope_rules.proofs.Least.{least_of_append}
use Rattle.scope_rules.proofs.HeldValues.{pushed_view, pushed_fact}
use Rattle.scope_rules.proofs.expressions.exprs.Goals as goal

pub loop-argument-preserved : goal.loop-argument-preserved
loop-argument-preserved c =
    let item = c.argument-item.result in
    let rest = c.args.raw.now in
    let i = c.loop-argument.argument-index in
    let names = c.args.names.now in
    let cut : drop i rest ≡ item ∷ drop (i + 1) rest = drop_at rest i item c.loop-argument-test.true c.argument-item.is in
    record {
      trees = rw (pushed_view expr_tree c.expr.result c.loop-argument.exprs.items c.in_ok-exprs-2.exprs.items _ c.in_ok-exprs-2.ensures c.expr.ensures.tree, append_assoc) (rw cut at c.loop-argument.invariant.trees);
      faults = rw (pushed_fact _ _ c.expr.result c.in_ok-exprs-2.ensures c.expr.ensures.faults, ← least_of_append c.loop-argument.least (expr_faults names (raw_expr_tree item)) (exprs_faults names (map raw_expr_tree (drop (i + 1) rest)))) (rw cut at c.loop-argument.invariant.faults);
    }
