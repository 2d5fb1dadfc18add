use Rattle.c_lower.proofs.Common.{◌≡◌, ◌+◌, map, drop, expr_tree, arguments_size}
use Rattle.c_lower.proofs.sizes.add_arguments.Given as goal

abbrev pub invariant-loop-argument : goal.invariant-loop-argument
invariant-loop-argument l = l.size + arguments_size (map expr_tree (drop l.argument-index l.arguments)) ≡ l.fn.size + arguments_size (map expr_tree l.arguments)
