use Rattle.c_tree.proofs.Common.{◌≡◌, ◌++◌, map, drop, simple_tree, simples_sites}
use Rattle.c_tree.proofs.sites.list_simples.Given as goal

abbrev pub invariant-loop-simple : goal.invariant-loop-simple
invariant-loop-simple l = l.sites.items ++ simples_sites (map simple_tree (drop l.simple-index l.simples)) ≡ l.initial.sites.items ++ simples_sites (map simple_tree l.simples)
