use Rattle.scope_rules.proofs.Common.{◌≡◌, ◌∷◌, ◌+◌, map, drop, false, name_tree, spot_of, declare_faults, with_variable, params_faults, drop_at}
use Rattle.scope_rules.proofs.Least.{least_of_append}
use Rattle.scope_rules.proofs.places.Place.params.Goals as goal

pub loop-name-preserved : goal.loop-name-preserved
loop-name-preserved c =
    let item = c.name-item.result in
    let raw = c.args.raw.now in
    let i = c.loop-name.name-index in
    let s = spot_of c.loop-name.self in
    let n = name_tree item in
    let cut : drop i raw ≡ item ∷ drop (i + 1) raw = drop_at raw i item c.loop-name-test.true c.name-item.is in
    let e = c.in_ok-declare.ensures.place in
    let f = c.in_ok-declare.ensures.faults in
    record {
      place = rw e (rw cut at c.loop-name.invariant.place);
      faults = rw (e, f, ← least_of_append c.loop-name.self.least (declare_faults s n) (params_faults (with_variable s n false 1) (map name_tree (drop (i + 1) raw)))) (rw cut at c.loop-name.invariant.faults);
    }
