use Rattle.scope_rules.proofs.Common.{◌≡◌, drop, map, name_tree, least_of, spot_of, params_after, params_faults}
use Rattle.scope_rules.proofs.places.Place.params.Given as goal

abbrev pub invariant-loop-name : goal.invariant-loop-name
invariant-loop-name l = record {
  place : params_after (spot_of l.self) (map name_tree (drop l.name-index l.raw)) ≡ params_after (spot_of l.initial.self) (map name_tree l.raw);
  faults : least_of l.self.least (params_faults (spot_of l.self) (map name_tree (drop l.name-index l.raw))) ≡ least_of l.initial.self.least (params_faults (spot_of l.initial.self) (map name_tree l.raw));
}
