use Rattle.call_places.proofs.Common.{◌≡◌, ◌++◌, map, drop, raw_simple_tree, is_call, simples_places}
use Rattle.call_places.proofs.calls.add_simples.Given as goal

abbrev pub invariant-loop-simple : goal.invariant-loop-simple
invariant-loop-simple l = l.places.items ++ simples_places is_call (map raw_simple_tree (drop l.simple-index l.simples)) ≡ l.initial.places.items ++ simples_places is_call (map raw_simple_tree l.simples)
