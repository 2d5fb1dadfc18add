use Rattle.stride_rule.proofs.Common.{ℕ, ◌<◌, ◌/◌, length, Includes, summary_at}
use Rattle.stride_rule.proofs.levels.renew_level.Given as goal

abbrev pub invariant-loop-index : goal.invariant-loop-index
invariant-loop-index l = (k : ℕ) → k < length l.below → k / 16 < l.index → Includes (summary_at l.level (k / 16)) (summary_at l.below k)
