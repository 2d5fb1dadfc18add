use Rattle.rule_failures.proofs.Common.{ℕ, ◌+◌, ◌<◌, slice_index, fact_numbers}
use Rattle.rule_failures.proofs.named_sites.rises.Given as goal

abbrev pub invariant-loop-k : goal.invariant-loop-k
invariant-loop-k l = (j : ℕ) → j + 1 < l.k → slice_index (fact_numbers l.facts) j < slice_index (fact_numbers l.facts) (j + 1)
