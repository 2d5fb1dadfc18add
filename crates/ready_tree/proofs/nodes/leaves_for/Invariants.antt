use Rattle.ready_tree.proofs.Common.{◌-◌, ◌≤◌, ◌<◌, ◌*◌, IsLevel}
use Rattle.ready_tree.proofs.nodes.leaves_for.Given as goal

abbrev pub invariant-loop-leaves : goal.invariant-loop-leaves
invariant-loop-leaves l = record {
  level : IsLevel l.leaves 1;
  some : 1 ≤ l.leaves;
  small : l.leaves < 2 * l.count;
}

abbrev pub decreases-loop-leaves : goal.decreases-loop-leaves
decreases-loop-leaves l = l.count - l.leaves
