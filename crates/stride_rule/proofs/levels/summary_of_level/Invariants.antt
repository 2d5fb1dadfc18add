use Rattle.stride_rule.proofs.Common.{ℕ, ◌<◌, ◌≤◌, Includes, summary_at}
use Rattle.stride_rule.proofs.levels.summary_of_level.Given as goal

abbrev pub invariant-loop-other : goal.invariant-loop-other
invariant-loop-other l = (k : ℕ) → l.start ≤ k → k < l.other → Includes l.summary (summary_at l.level k)
