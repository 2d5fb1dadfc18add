use Rattle.hoist_rules.proofs.Common.{◌≡◌, map, take, name_tree}
use Rattle.hoist_rules.proofs.items.name_copies.Given as goal

abbrev pub invariant-loop-name : goal.invariant-loop-name
invariant-loop-name l = map name_tree l.copies.items ≡ map name_tree (take l.name-index l.raw)
