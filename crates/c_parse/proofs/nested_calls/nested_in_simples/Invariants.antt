use Rattle.c_parse.proofs.Common.{◌≡◌, map, drop, raw_simple_tree, earlier, nested_in_simples}
use Rattle.c_parse.proofs.nested_calls.nested_in_simples.Given as goal

abbrev pub invariant-loop-simple : goal.invariant-loop-simple
invariant-loop-simple l = earlier l.found (nested_in_simples (map raw_simple_tree (drop l.simple-index l.simples))) ≡ nested_in_simples (map raw_simple_tree l.simples)
