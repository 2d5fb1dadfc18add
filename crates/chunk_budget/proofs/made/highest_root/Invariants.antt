use Rattle.chunk_budget.proofs.Common.{◌≡◌, max, program_code, height_of, greatest_below}
use Rattle.chunk_budget.proofs.LeastBudgetLemmas.{spawned_by}
use Rattle.chunk_budget.proofs.made.highest_root.Given as goal

abbrev pub invariant-loop-function : goal.invariant-loop-function
invariant-loop-function l = l.most ≡ max (height_of l.heights (program_code l.flat).main) (greatest_below (spawned_by (program_code l.flat) l.heights) l.function)
