use Rattle.c_lower.proofs.Common.{◌≡◌, ◌+◌, ◌^◌, ◌∷◌, map, drop, expr_tree, drop_at}
use Rattle.c_lower.proofs.CallGlue.{arguments_turn, variables_turn, argument_fits, others_fit}
use Rattle.c_lower.proofs.calls.put_arguments.Goals as goal

pub put_expr-requires : goal.put_expr-requires
put_expr-requires c =
    let item = c.index-arguments-index.result in
    let items = c.args.arguments.now in
    let i = c.loop-index.index in
    let cut : drop i items ≡ item ∷ drop (i + 1) items = drop_at items i item c.loop-index-test.true c.index-arguments-index.is in
    let fits = rw cut at c.loop-index.invariant.fits in
    argument_fits (2 ^ 32) c.args.k i (expr_tree item) (map expr_tree (drop (i + 1) items)) fits

pub loop-index-preserved : goal.loop-index-preserved
loop-index-preserved c =
    let item = c.index-arguments-index.result in
    let items = c.args.arguments.now in
    let i = c.loop-index.index in
    let k = c.args.k in
    let rest = map expr_tree (drop (i + 1) items) in
    let cut : drop i items ≡ item ∷ drop (i + 1) items = drop_at items i item c.loop-index-test.true c.index-arguments-index.is in
    let code = rw cut at c.loop-index.invariant.code in
    let variables = rw cut at c.loop-index.invariant.variables in
    let fits = rw cut at c.loop-index.invariant.fits in
    record {
      code = arguments_turn _ _ _ (expr_tree item) rest k i code c.in_ok-put_expr.ensures;
      variables = variables_turn _ _ _ (expr_tree item) rest k i variables c.in_ok-push.ensures.items;
      fits = others_fit (2 ^ 32) k i (expr_tree item) rest fits;
    }
