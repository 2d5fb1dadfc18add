use Rattle.ready_tree.proofs.Common.{◌≡◌, ℕ, ◌/◌, ◌<◌, ◌≤◌, length, AreJoinedBut, node_at}
use Rattle.ready_tree.proofs.nodes.renew_above.Given as goal

abbrev pub invariant-loop-node : goal.invariant-loop-node
invariant-loop-node l = record {
  long : length l.nodes ≡ length l.initial.nodes;
  inner : 1 ≤ l.node;
  there : l.node < length l.nodes;
  others : AreJoinedBut l.nodes (l.node / 2);
  leaves : (leaf : ℕ) → length l.nodes / 2 ≤ leaf → node_at l.nodes leaf ≡ node_at l.initial.nodes leaf;
}

abbrev pub decreases-loop-node : goal.decreases-loop-node
decreases-loop-node l = l.node
