use Rattle.chunk_budget.proofs.Common.{◌≡◌, max, drop, highest}
use Rattle.chunk_budget.proofs.heights.greatest_height.Given as goal

abbrev pub invariant-loop-function : goal.invariant-loop-function
invariant-loop-function l = max l.most (highest l.heights (drop l.function-index l.functions)) ≡ highest l.heights l.functions
