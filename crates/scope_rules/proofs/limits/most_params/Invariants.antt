use Rattle.scope_rules.proofs.Common.{◌≡◌, max, drop, map, function_tree, most_params}
use Rattle.scope_rules.proofs.limits.most_params.Given as goal

abbrev pub invariant-loop-function : goal.invariant-loop-function
invariant-loop-function l = max l.most (most_params (map function_tree (drop l.function-index l.functions))) ≡ most_params (map function_tree l.functions)
