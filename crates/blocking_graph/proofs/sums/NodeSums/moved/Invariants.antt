use Rattle.blocking_graph.proofs.Common.{◌≡◌, ℕ, ◌<◌, ◌+ℤ◌, ◌-ℤ◌, length, get_or, pos, weight, weight_or_0}
use Rattle.blocking_graph.proofs.sums.NodeSums.moved.Given as goal

abbrev pub invariant-loop-resource : goal.invariant-loop-resource
invariant-loop-resource l = record {
  eight : length l.change ≡ 8;
  each : (k : ℕ) → k < l.resource → get_or l.change k (pos 0) ≡ (get_or l.self.change k (pos 0) -ℤ weight_or_0 l.before k) +ℤ weight l.after k;
}
