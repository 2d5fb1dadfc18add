use Rattle.std.proofs.Common.{arith}
use Rattle.ready_tree.proofs.NodeLaws.{more_leaves, one_leaf}
use Rattle.ready_tree.proofs.nodes.leaves_for.Goals as goal

pub loop-leaves-init : goal.loop-leaves-init
loop-leaves-init c = record { level = one_leaf; some = omega arith; small = omega arith }

pub loop-leaves-preserved : goal.loop-leaves-preserved
loop-leaves-preserved c = record { level = more_leaves c.loop-leaves.leaves c.loop-leaves.invariant.level; some = omega arith; small = omega arith }
