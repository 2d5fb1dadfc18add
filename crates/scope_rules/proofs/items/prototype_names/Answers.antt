use Rattle.scope_rules.proofs.Common.{◌≡◌, ◌∷◌, ◌+◌, subst, sym, map, drop, length, option_map, name_tree, param_faults, param_bound, prototype_faults, drop_at}
use Rattle.scope_rules.proofs.Least.{least_of_append}
use Rattle.scope_rules.proofs.Scopes.{Extends, then_extends, param_extends}
use Rattle.scope_rules.proofs.items.prototype_names.Goals as goal

pub loop-param-preserved : goal.loop-param-preserved
loop-param-preserved c =
    let item = c.param-item.result in
    let params = c.args.params.now in
    let i = c.loop-param.param-index in
    let names = c.loop-param.names in
    let p = option_map name_tree item in
    let outer = length c.args.names.now in
    let cut : drop i params ≡ item ∷ drop (i + 1) params = drop_at params i item c.loop-param-test.true c.param-item.is in
    record {
      names = then_extends c.args.names.now names c.prototype_name.new.names c.loop-param.invariant.names (subst (λ x. Extends x names) (sym c.in_ok-prototype_name.ensures.names) (param_extends names p));
      faults = rw (c.in_ok-prototype_name.ensures.names, c.in_ok-prototype_name.ensures.faults, c.len-outer.ensures, ← least_of_append c.loop-param.least (param_faults names outer p) (prototype_faults (param_bound names p) outer (map (option_map name_tree) (drop (i + 1) params)))) (rw cut at c.loop-param.invariant.faults);
    }
