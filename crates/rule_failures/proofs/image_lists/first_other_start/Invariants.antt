use Rattle.rule_failures.proofs.Common.{◌≡◌, ℕ, ◌+◌, ◌<◌, slice_get, replicate}
use Rattle.rule_failures.proofs.image_lists.first_other_start.Given as goal

abbrev pub invariant-loop-k : goal.invariant-loop-k
invariant-loop-k l = (j : ℕ) → j < l.k → slice_get l.words (l.passed + j) ≡ slice_get (replicate l.count l.start) j
