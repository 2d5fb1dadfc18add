use Rattle.call_cycles.proofs.Common.{IsSiteOf, all-at}
use Rattle.call_cycles.proofs.ReversedLemmas.{below-nodes}
use Rattle.call_cycles.proofs.reversed.add_callers.Goals as goal

pub node_of-callee-requires-clause-target : goal.node_of-callee-requires-clause-target
node_of-callee-requires-clause-target c =
    (all-at (IsSiteOf c.args.functions c.args.tables.now) c.args.of_graph.now c.loop-site.site-index _ c.requires.graph c.loop-site-test.true).target

pub add_site-requires-clause-callee : goal.add_site-requires-clause-callee
add_site-requires-clause-callee c =
    below-nodes _ _ _ (all-at (IsSiteOf c.args.functions c.args.tables.now) c.args.of_graph.now c.loop-site.site-index _ c.requires.graph c.loop-site-test.true).caller
