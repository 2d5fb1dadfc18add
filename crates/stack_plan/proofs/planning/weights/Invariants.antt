use Rattle.stack_plan.proofs.Common.{◌≡◌, ◌≤◌, ◌^◌, ◌++◌, map, drop, sum, AllByRecursion, weight_of}
use Rattle.stack_plan.proofs.planning.weights.Given as goal

abbrev pub invariant-loop-function : goal.invariant-loop-function
invariant-loop-function l = record {
  weights : l.list.items ++ map (λ f. weight_of f.sizes) (drop l.function-index l.functions) ≡ map (λ f. weight_of f.sizes) l.functions;
  small : AllByRecursion (λ f. sum f.sizes ≤ 2 ^ 20) (drop l.function-index l.functions);
}
