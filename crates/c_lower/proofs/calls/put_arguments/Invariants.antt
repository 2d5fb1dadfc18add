use Rattle.c_lower.proofs.Common.{◌≡◌, ◌<◌, ◌+◌, ◌^◌, ◌++◌, length, map, drop, arguments_temporaries, expr_tree, arguments_code, arguments_in}
use Rattle.c_lower.proofs.calls.put_arguments.Given as goal

abbrev pub invariant-loop-index : goal.invariant-loop-index
invariant-loop-index l = record {
  code : l.code.items ++ arguments_code (map expr_tree (drop l.index l.arguments)) (length l.code.items) (l.k + l.index)
      ≡ l.fn.code.items ++ arguments_code (map expr_tree l.arguments) (length l.fn.code.items) l.k;
  variables : l.variables.items ++ arguments_in (map expr_tree (drop l.index l.arguments)) (l.k + l.index) ≡ arguments_in (map expr_tree l.arguments) l.k;
  fits : l.k + arguments_temporaries l.index (map expr_tree (drop l.index l.arguments)) < 2 ^ 32;
}
