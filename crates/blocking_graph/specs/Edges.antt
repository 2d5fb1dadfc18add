-- The edges of the blocking graph: for each pair of nodes with records, their number and averages.
use Rattle.std.specs.Prelude.{ℕ, ◌+◌, ◌==◌, ◌||◌, ◌&&◌, nat_lt, Bool, ℤ, pos, ◌+ℤ◌, ◌*ℤ◌, if◌then◌else◌, List, [], ◌∷◌, map, filter, fold, sum_by, slice_index_or}
use Rattle.blocking_graph.specs.Averages.{floor_div, first_average, next_average, next_averages}
use Rattle.blocking_graph.specs.declared.edges.EdgeLine.{EdgeLine}
use Rattle.blocking_graph.specs.declared.segments.SegmentRecord.{SegmentRecord}

-- whether an edge comes before that of a record, in the order by `from`, then `to`
abbrev pub is_before : EdgeLine → SegmentRecord → Bool
is_before edge segment = nat_lt edge.from segment.from || (edge.from == segment.from && nat_lt edge.to segment.to)

-- whether an edge is that of a record
abbrev pub is_of : EdgeLine → SegmentRecord → Bool
is_of edge segment = edge.from == segment.from && edge.to == segment.to

-- the edge of a pair's first record
abbrev pub first_edge : SegmentRecord → EdgeLine
first_edge segment = record {
  from = segment.from;
  to = segment.to;
  count = 1;
  cost = first_average (pos segment.cost);
  change = map first_average segment.change;
}

-- the edge after one more record of its pair
abbrev pub next_edge : EdgeLine → SegmentRecord → EdgeLine
next_edge edge segment = record edge {
  count = edge.count + 1;
  cost = next_average edge.cost (pos segment.cost);
  change = next_averages edge.change segment.change;
}

-- the edges, ordered by `from`, then `to`, after one more record
abbrev pub edges_with : List EdgeLine → SegmentRecord → List EdgeLine
edges_with [] segment = first_edge segment ∷ []
edges_with (edge ∷ edges) segment =
    if is_before edge segment then edge ∷ edges_with edges segment
    else if is_of edge segment then next_edge edge segment ∷ edges
    else first_edge segment ∷ edge ∷ edges

-- the edges of all records, the earliest record first
abbrev pub edges_of : List SegmentRecord → List EdgeLine
edges_of records = fold edges_with [] records

-- the edges from a node
abbrev pub edges_from : List EdgeLine → ℕ → List EdgeLine
edges_from edges node = filter (λ edge. edge.from == node) edges

-- the number of records of these edges
abbrev pub count_of : List EdgeLine → ℕ
count_of edges = sum_by (λ edge. edge.count) edges

-- a sum plus an edge's count times its average change of a resource
abbrev pub with_weight : ℕ → ℤ → EdgeLine → ℤ
with_weight resource total edge = total +ℤ (pos edge.count *ℤ slice_index_or edge.change resource (pos 0))

-- the sum of count times average change of a resource, over these edges
abbrev pub weighted_change : List EdgeLine → ℕ → ℤ
weighted_change edges resource = fold (with_weight resource) (pos 0) edges

-- the expected change of a resource by a segment from a node, scaled by 256: the average over the edges from the
-- node, each weighted by its count, rounded down, or 0 if there are none
abbrev pub prediction : List EdgeLine → ℕ → ℕ → ℤ
prediction edges node resource =
    let out = edges_from edges node in
    if count_of out == 0 then pos 0 else floor_div (weighted_change out resource) (count_of out)
