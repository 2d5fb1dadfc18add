use Rattle.scope_rules.proofs.Common.{◌≡◌, ◌++◌, drop, map, name_tree, least_of, members_faults, members_of}
use Rattle.scope_rules.proofs.items.members.Given as goal

abbrev pub invariant-loop-name : goal.invariant-loop-name
invariant-loop-name l = record {
  trees : l.members.items ++ members_of l.names (map name_tree (drop l.name-index l.raw)) ≡ members_of l.names (map name_tree l.raw);
  faults : least_of l.least (members_faults l.names (map name_tree (drop l.name-index l.raw))) ≡ least_of l.initial.least (members_faults l.names (map name_tree l.raw));
}
