use Rattle.c_lower.proofs.Common.{◌≡◌, ◌+◌, ◌∷◌, map, drop, arith, simple_tree, drop_at}
use Rattle.c_lower.proofs.StmtGlue.{simples_turn}
use Rattle.c_lower.proofs.simples.put_simples.Goals as goal

pub loop-simple-preserved : goal.loop-simple-preserved
loop-simple-preserved c =
    let item = c.simple-item.result in
    let items = c.args.simples.now in
    let i = c.loop-simple.simple-index in
    let cut : drop i items ≡ item ∷ drop (i + 1) items = drop_at items i item c.loop-simple-test.true c.simple-item.is in
    let code = rw cut at c.loop-simple.invariant.code in
    let fits = rw cut at c.loop-simple.invariant.fits in
    record {
      code = simples_turn _ _ _ (simple_tree item) (map simple_tree (drop (i + 1) items)) c.args.t code c.in_ok-put_simple.ensures;
      fits = omega (arith, fits);
    }
