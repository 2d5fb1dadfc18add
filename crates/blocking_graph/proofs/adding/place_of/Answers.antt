use Rattle.std.proofs.lemmas.List.Sorted.{IsPartitionPoint-from_clause}
use Rattle.blocking_graph.proofs.Common.{rules, is_before}
use Rattle.blocking_graph.proofs.PlaceLemmas.{rising-parted, point-place}
use Rattle.blocking_graph.proofs.adding.place_of.Goals as goal

pub returns-clause-place : goal.returns-clause-place
returns-clause-place c =
    point-place (λ edge. is_before edge c.args.segment.now) c.args.edges.now c.partition_point.result c.partition_point.ensures.bound
    (IsPartitionPoint-from_clause (λ edge. is_before edge c.args.segment.now) _ _ c.partition_point.ensures.partitioned
    (rising-parted c.args.edges.now c.args.segment.now c.requires) (λ a r q k. search rules))
