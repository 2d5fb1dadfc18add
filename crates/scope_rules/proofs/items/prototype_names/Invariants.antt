use Rattle.scope_rules.proofs.Common.{◌≡◌, drop, map, length, option_map, name_tree, least_of, prototype_faults}
use Rattle.scope_rules.proofs.Scopes.{Extends}
use Rattle.scope_rules.proofs.items.prototype_names.Given as goal

abbrev pub invariant-loop-param : goal.invariant-loop-param
invariant-loop-param l = record {
  names : Extends l.names l.initial.names;
  faults : least_of l.least (prototype_faults l.names (length l.initial.names) (map (option_map name_tree) (drop l.param-index l.params))) ≡ least_of l.initial.least (prototype_faults l.initial.names (length l.initial.names) (map (option_map name_tree) l.params));
}
