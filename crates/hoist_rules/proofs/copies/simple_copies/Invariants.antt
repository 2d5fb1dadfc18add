use Rattle.hoist_rules.proofs.Common.{◌≡◌, map, take, raw_simple_tree}
use Rattle.hoist_rules.proofs.copies.simple_copies.Given as goal

abbrev pub invariant-loop-simple : goal.invariant-loop-simple
invariant-loop-simple l = map raw_simple_tree l.copies.items ≡ map raw_simple_tree (take l.simple-index l.raw)
