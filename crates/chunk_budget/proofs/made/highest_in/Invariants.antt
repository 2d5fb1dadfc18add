use Rattle.chunk_budget.proofs.Common.{◌≡◌, max, drop, greatest, height_spawned}
use Rattle.chunk_budget.proofs.made.highest_in.Given as goal

abbrev pub invariant-loop-op : goal.invariant-loop-op
invariant-loop-op l = max l.most (greatest (height_spawned l.heights) (drop l.op-index l.ops)) ≡ greatest (height_spawned l.heights) l.ops
