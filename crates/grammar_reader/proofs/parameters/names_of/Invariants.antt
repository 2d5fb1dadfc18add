use Rattle.grammar_reader.proofs.Common.{◌≡◌, map, option_map, name_tree, names_in}
use Rattle.grammar_reader.proofs.parameters.names_of.Given as goal

abbrev pub invariant-loop-param : goal.invariant-loop-param
invariant-loop-param l = map name_tree l.names.items ≡ names_in (map (option_map name_tree) l.yielded)
