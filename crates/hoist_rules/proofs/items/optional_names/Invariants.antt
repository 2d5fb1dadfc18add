use Rattle.hoist_rules.proofs.Common.{◌≡◌, map, take, option_map, name_tree}
use Rattle.hoist_rules.proofs.items.optional_names.Given as goal

abbrev pub invariant-loop-name : goal.invariant-loop-name
invariant-loop-name l = map (option_map name_tree) l.copies.items ≡ map (option_map name_tree) (take l.name-index l.raw)
