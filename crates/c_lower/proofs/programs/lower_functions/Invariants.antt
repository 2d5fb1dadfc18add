use Rattle.c_lower.proofs.Common.{◌≡◌, ◌≤◌, ◌^◌, ◌++◌, length, map, drop, AllByRecursion, function_temporaries, function_tree, lowered_function}
use Rattle.c_lower.proofs.programs.lower_functions.Given as goal

abbrev pub invariant-loop-function : goal.invariant-loop-function
invariant-loop-function l = record {
  code : l.list.items ++ map lowered_function (map function_tree (drop l.function-index l.functions)) ≡ map lowered_function (map function_tree l.functions);
  numbered : AllByRecursion (λ f. length f.ops ≤ 2 ^ 32) l.list.items;
  small : AllByRecursion (λ f. function_temporaries f ≤ 65536) (map function_tree (drop l.function-index l.functions));
  few : AllByRecursion (λ f. length f.sizes ≤ 65536) (map function_tree (drop l.function-index l.functions));
}
