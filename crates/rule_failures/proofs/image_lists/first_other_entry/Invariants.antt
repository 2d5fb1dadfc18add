use Rattle.rule_failures.proofs.Common.{◌≡◌, ℕ, ◌+◌, ◌<◌, map, slice_get, fact_at}
use Rattle.rule_failures.proofs.image_lists.first_other_entry.Given as goal

abbrev pub invariant-loop-k : goal.invariant-loop-k
invariant-loop-k l = (j : ℕ) → j < l.k → slice_get l.words (l.passed + j) ≡ slice_get (map (λ g. (fact_at l.certificate g).entry) l.members) j
