use Rattle.scope_rules.proofs.Common.{◌≡◌, ◌++◌, drop, map, simple_tree, raw_simple_tree, least_of, spot_of, simples_of, simples_after, simples_faults}
use Rattle.scope_rules.proofs.places.Place.simples.Given as goal

abbrev pub invariant-loop-simple : goal.invariant-loop-simple
invariant-loop-simple l = record {
  trees : map simple_tree l.simples.items ++ simples_of (spot_of l.self) (map raw_simple_tree (drop l.simple-index l.raw)) ≡ simples_of (spot_of l.initial.self) (map raw_simple_tree l.raw);
  place : simples_after (spot_of l.self) (map raw_simple_tree (drop l.simple-index l.raw)) ≡ simples_after (spot_of l.initial.self) (map raw_simple_tree l.raw);
  faults : least_of l.self.least (simples_faults (spot_of l.self) (map raw_simple_tree (drop l.simple-index l.raw))) ≡ least_of l.initial.self.least (simples_faults (spot_of l.initial.self) (map raw_simple_tree l.raw));
}
