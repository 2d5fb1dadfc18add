use Rattle.ready_tree.proofs.Common.{◌≡◌, ◌-◌, ◌*◌, IsReached}
use Rattle.ready_tree.proofs.subtrees.next_subtree.Given as goal

abbrev pub invariant-loop-subtree : goal.invariant-loop-subtree
invariant-loop-subtree l = record {
  first : l.subtree.first ≡ l.first;
  reached : IsReached l.bounds l.nodes l.subtree;
}

abbrev pub decreases-loop-subtree : goal.decreases-loop-subtree
decreases-loop-subtree l = 2 * l.subtree.level - l.subtree.node
