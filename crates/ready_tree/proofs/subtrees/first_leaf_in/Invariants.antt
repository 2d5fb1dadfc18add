use Rattle.ready_tree.proofs.Common.{◌≡◌, ◌-◌, IsReached}
use Rattle.ready_tree.proofs.subtrees.first_leaf_in.Given as goal

abbrev pub invariant-loop-half : goal.invariant-loop-half
invariant-loop-half l = record {
  first : l.half.first ≡ l.fn.subtree.first;
  reached : IsReached l.bounds l.nodes l.half;
}

abbrev pub decreases-loop-half : goal.decreases-loop-half
decreases-loop-half l = l.leaves - l.half.level
