use Rattle.c_tree.proofs.Common.{◌≡◌, ◌++◌, map, drop, function_tree, functions_sites}
use Rattle.c_tree.proofs.sites.list_functions.Given as goal

abbrev pub invariant-loop-function : goal.invariant-loop-function
invariant-loop-function l = l.sites.items ++ functions_sites (map function_tree (drop l.function-index l.functions)) ≡ l.initial.sites.items ++ functions_sites (map function_tree l.functions)
