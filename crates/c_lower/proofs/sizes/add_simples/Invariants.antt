use Rattle.c_lower.proofs.Common.{◌≡◌, ◌+◌, map, drop, simple_tree, simples_size}
use Rattle.c_lower.proofs.sizes.add_simples.Given as goal

abbrev pub invariant-loop-simple : goal.invariant-loop-simple
invariant-loop-simple l = l.size + simples_size (map simple_tree (drop l.simple-index l.simples)) ≡ l.fn.size + simples_size (map simple_tree l.simples)
