use Rattle.ready_tree.proofs.NextLaws.{reached_root}
use Rattle.ready_tree.proofs.subtrees.first_leaf.Goals as goal

pub first_leaf_in-requires-clause-reached : goal.first_leaf_in-requires-clause-reached
first_leaf_in-requires-clause-reached c = reached_root c.args.bounds.now c.args.nodes.now c.requires

pub returns-clause-behind : goal.returns-clause-behind
returns-clause-behind c = c.first_leaf_in.ensures.behind

pub returns-clause-there : goal.returns-clause-there
returns-clause-there c = c.first_leaf_in.ensures.there

pub returns-clause-before : goal.returns-clause-before
returns-clause-before c = c.first_leaf_in.ensures.before.none
