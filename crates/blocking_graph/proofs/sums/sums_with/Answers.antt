use Rattle.blocking_graph.proofs.Common.{subst, arith, edges_from, count_of, IsMoved, edge_after}
use Rattle.blocking_graph.proofs.SumLemmas.{edge_held, edge_with_room, edge_in_range, IsEdge-after, count_after-le, count-le, change-le, sum_of_moved}
use Rattle.blocking_graph.proofs.sums.sums_with.Goals as goal

pub edge_with-after-requires-clause-edge : goal.edge_with-after-requires-clause-edge
edge_with-after-requires-clause-edge c =
    edge_with_room c.edge_of-before.result (count_of c.args.edges.now)
    (edge_held c.args.edges.now c.args.segment.now c.edge_of-before.result c.edge_of-before.ensures c.requires.edges) c.requires.room

pub moved-requires-clause-count : goal.moved-requires-clause-count
moved-requires-clause-count c =
    let node = c.args.segment.now.from in
    let told = c.sums_at.ensures (edges_from c.args.edges.now node) (c.requires.sums node) in
    omega (arith, c.requires.room, count-le c.args.edges.now node c.sums_at.result told)

pub moved-requires-clause-small : goal.moved-requires-clause-small
moved-requires-clause-small c =
    let node = c.args.segment.now.from in
    let told = c.sums_at.ensures (edges_from c.args.edges.now node) (c.requires.sums node) in
    λ k h. omega (arith, c.requires.room, count-le c.args.edges.now node c.sums_at.result told, change-le c.args.edges.now node k c.sums_at.result c.requires.edges told h)

pub moved-requires-clause-before : goal.moved-requires-clause-before
moved-requires-clause-before c =
    edge_in_range c.edge_of-before.result (count_of c.args.edges.now)
    (edge_held c.args.edges.now c.args.segment.now c.edge_of-before.result c.edge_of-before.ensures c.requires.edges) c.requires.room

pub moved-requires-clause-after : goal.moved-requires-clause-after
moved-requires-clause-after c =
    rw c.edge_with-after.ensures.value
    (IsEdge-after c.edge_of-before.result c.args.segment.now (count_of c.args.edges.now)
    (edge_held c.args.edges.now c.args.segment.now c.edge_of-before.result c.edge_of-before.ensures c.requires.edges) c.requires.segment c.edge_with-after.ensures.eight)

pub moved-requires-clause-after_count : goal.moved-requires-clause-after_count
moved-requires-clause-after_count c =
    rw c.edge_with-after.ensures.value
    (count_after-le c.edge_of-before.result c.args.segment.now (count_of c.args.edges.now)
    (edge_held c.args.edges.now c.args.segment.now c.edge_of-before.result c.edge_of-before.ensures c.requires.edges) c.requires.room)

pub returns : goal.returns
returns c =
    let node = c.args.segment.now.from in
    let told = c.sums_at.ensures (edges_from c.args.edges.now node) (c.requires.sums node) in
    sum_of_moved c.args.edges.now c.args.segment.now c.sums_at.result c.moved.result c.requires.rising told
    (subst (λ b. IsMoved c.sums_at.result c.moved.result b (edge_after b c.args.segment.now)) c.edge_of-before.ensures
    (subst (λ a. IsMoved c.sums_at.result c.moved.result c.edge_of-before.result a) c.edge_with-after.ensures.value c.moved.ensures))
