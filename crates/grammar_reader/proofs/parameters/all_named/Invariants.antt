use Rattle.grammar_reader.proofs.Common.{◌≡◌, map, drop, option_map, name_tree, all_have_names}
use Rattle.grammar_reader.proofs.parameters.all_named.Given as goal

abbrev pub invariant-loop-param : goal.invariant-loop-param
invariant-loop-param l = all_have_names (map (option_map name_tree) (drop l.param-index l.params)) ≡ all_have_names (map (option_map name_tree) l.params)
