use Rattle.blocking_graph.proofs.Common.{sym, get, nat_cmp, edges_from}
use Rattle.blocking_graph.proofs.SumLemmas.{change-le, kept_some}
use Rattle.blocking_graph.proofs.graph.Graph.predicted.Goals as goal

pub average-requires-clause-small : goal.average-requires-clause-small
average-requires-clause-small c =
    change-le c.self.inside.edges.items c.args.node c.args.resource c.in-Some.sums.now c.self.invariant.0.edges
    (kept_some (edges_from c.self.inside.edges.items c.args.node) (get nat_cmp c.self.inside.sums c.args.node) c.in-Some.sums.now
    (sym c.in-Some.ensures.value) (c.self.invariant.1 c.args.node)) c.requires
