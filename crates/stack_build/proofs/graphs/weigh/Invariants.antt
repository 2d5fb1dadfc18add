use Rattle.stack_build.proofs.Common.{◌≡◌, ◌≤◌, ◌^◌, ◌++◌, length, map, drop, sum, AllByRecursion, function_tree, function_sizes, lowered_function, weight_of, call_sites_from}
use Rattle.c_tree.specs.Temporaries.{function_temporaries}
use Rattle.stack_build.proofs.graphs.weigh.Given as goal

abbrev pub invariant-loop-function : goal.invariant-loop-function
invariant-loop-function l = record {
  weights : l.weighed.weights.items ++ map (λ f. weight_of f.sizes) (map lowered_function (map function_tree (drop l.function-index l.functions))) ≡ map (λ f. weight_of f.sizes) (map lowered_function (map function_tree l.functions));
  place : length l.weighed.weights.items ≡ l.function-index;
  sites : l.weighed.sites.items ++ call_sites_from l.function-index (map lowered_function (map function_tree (drop l.function-index l.functions))) ≡ call_sites_from 0 (map lowered_function (map function_tree l.functions));
  numbered : AllByRecursion (λ f. length f.ops ≤ 2 ^ 32) (map lowered_function (map function_tree (drop l.function-index l.functions))) → AllByRecursion (λ f. length f.ops ≤ 2 ^ 32) (map lowered_function (map function_tree l.functions));
  small : AllByRecursion (λ f. function_temporaries f ≤ 65536) (map function_tree (drop l.function-index l.functions));
  few : AllByRecursion (λ f. length f.sizes ≤ 65536) (map function_tree (drop l.function-index l.functions));
  words : AllByRecursion (λ f. sum (function_sizes f) ≤ 2 ^ 20) (map function_tree (drop l.function-index l.functions));
}
