use Rattle.thread_waits.proofs.Common.{◌≡◌, ◌/◌, ◌<◌, ◌≤◌, length, AreMinimaBut, leaves_in}
use Rattle.thread_waits.proofs.min_tree.renew_above.Given as goal

abbrev pub invariant-loop-node : goal.invariant-loop-node
invariant-loop-node l = record {
  inner : 1 ≤ l.node;
  there : l.node < length l.nodes;
  others : AreMinimaBut l.nodes (l.node / 2);
  leaves : leaves_in l.nodes ≡ leaves_in l.initial.nodes;
}

abbrev pub decreases-loop-node : goal.decreases-loop-node
decreases-loop-node l = l.node
