use Rattle.stride_rule.proofs.Common.{ℕ, ◌<◌, ◌/◌, length, row_at, Covers, summary_at}
use Rattle.stride_rule.proofs.levels.renew_small.Given as goal

abbrev pub invariant-loop-index : goal.invariant-loop-index
invariant-loop-index l = (k : ℕ) → k < length l.places → k / 16 < l.index → Covers (summary_at l.small (k / 16)) (row_at l.places k)
