use Rattle.scope_rules.proofs.Common.{◌≡◌, ◌∷◌, ◌+◌, map, drop, append_assoc, raw_simple_tree, simple_tree, spot_of, simple_faults, simple_after, simples_faults, drop_at}
use Rattle.scope_rules.proofs.Least.{least_of_append}
use Rattle.scope_rules.proofs.HeldValues.{pushed_view, pushed_fact}
use Rattle.scope_rules.proofs.places.Place.simples.Goals as goal

pub loop-simple-preserved : goal.loop-simple-preserved
loop-simple-preserved c =
    let item = c.simple-item.result in
    let raw = c.args.raw.now in
    let i = c.loop-simple.simple-index in
    let s = spot_of c.loop-simple.self in
    let cut : drop i raw ≡ item ∷ drop (i + 1) raw = drop_at raw i item c.loop-simple-test.true c.simple-item.is in
    let place = pushed_fact _ _ c.simple.result c.in_ok-simples.ensures c.simple.ensures.place in
    record {
      trees = rw (pushed_view simple_tree c.simple.result c.loop-simple.simples.items c.in_ok-simples.simples.items _ c.in_ok-simples.ensures c.simple.ensures.tree, append_assoc, place) (rw cut at c.loop-simple.invariant.trees);
      place = rw place (rw cut at c.loop-simple.invariant.place);
      faults = rw (place, pushed_fact _ _ c.simple.result c.in_ok-simples.ensures c.simple.ensures.faults, ← least_of_append c.loop-simple.self.least (simple_faults s (raw_simple_tree item)) (simples_faults (simple_after s (raw_simple_tree item)) (map raw_simple_tree (drop (i + 1) raw)))) (rw cut at c.loop-simple.invariant.faults);
    }
