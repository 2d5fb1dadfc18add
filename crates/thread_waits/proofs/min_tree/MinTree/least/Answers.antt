use Rattle.thread_waits.proofs.TreeLaws.{root_least}
use Rattle.thread_waits.proofs.min_tree.MinTree.least.Goals as goal

pub returns : goal.returns
returns c = rw (← c.self.view_is, c.as_slice-nodes.ensures.value) (root_least c.self.inside.nodes.items c.self.invariant)
