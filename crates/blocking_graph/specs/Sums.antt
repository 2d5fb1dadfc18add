-- The sums that a graph keeps for each node, over the edges from it.
use Rattle.std.specs.Prelude.{ℕ, ◌≡◌, ◌+◌, ◌<◌, ◌==◌, ℤ, pos, ◌+ℤ◌, ◌-ℤ◌, ◌*ℤ◌, if◌then◌else◌, Option, Some, None, List, [], length, slice_index_or}
use Rattle.std.specs.BTreeMap.{BTreeMap, get}
use Rattle.std.specs.Ordering.{nat_cmp}
use Rattle.blocking_graph.specs.Averages.{floor_div}
use Rattle.blocking_graph.specs.Edges.{edges_from, count_of, weighted_change, first_edge, next_edge}
use Rattle.blocking_graph.specs.declared.edges.EdgeLine.{EdgeLine}
use Rattle.blocking_graph.specs.declared.segments.SegmentRecord.{SegmentRecord}
use Rattle.blocking_graph.specs.declared.sums.NodeSums.{NodeSums}

-- the sums over these edges: the number of their records, and for each of the eight resources the sum of count
-- times average change
pub record IsSumOf (edges : List EdgeLine) (sums : NodeSums) : Type 0 where
  pub count : sums.count ≡ count_of edges
  pub eight : length sums.change ≡ 8
  pub change : (resource : ℕ) → resource < 8 → slice_index_or sums.change resource (pos 0) ≡ weighted_change edges resource

-- the sums that are kept for a node with these edges: none if there are no edges
abbrev pub IsKeptOf : List EdgeLine → Option NodeSums → Type 0
IsKeptOf edges None = edges ≡ []
IsKeptOf edges (Some sums) = IsSumOf edges sums

-- for each node the sums over the edges from it
abbrev pub AreSumsOf : List EdgeLine → BTreeMap ℕ NodeSums → Type 0
AreSumsOf edges sums = (node : ℕ) → IsKeptOf (edges_from edges node) (get nat_cmp sums node)

-- the average of a sum over this number of records, rounded down, or 0 if there are none
abbrev pub average_by_count : ℤ → ℕ → ℤ
average_by_count total count = if count == 0 then pos 0 else floor_div total count

-- an edge's count times its average change of a resource
abbrev pub weight : EdgeLine → ℕ → ℤ
weight edge resource = pos edge.count *ℤ slice_index_or edge.change resource (pos 0)

-- the same, or 0 if there is no edge
abbrev pub weight_or_0 : Option EdgeLine → ℕ → ℤ
weight_or_0 None resource = pos 0
weight_or_0 (Some edge) resource = weight edge resource

-- a pair's edge after one more record
abbrev pub edge_after : Option EdgeLine → SegmentRecord → EdgeLine
edge_after None segment = first_edge segment
edge_after (Some edge) segment = next_edge edge segment

-- the sums after one edge, if there was one, was replaced by that after one more record
pub record IsMoved (old new : NodeSums) (before : Option EdgeLine) (after : EdgeLine) : Type 0 where
  pub count : new.count ≡ old.count + 1
  pub eight : length new.change ≡ 8
  pub change : (resource : ℕ) → resource < 8 →
      slice_index_or new.change resource (pos 0) ≡ (slice_index_or old.change resource (pos 0) -ℤ weight_or_0 before resource) +ℤ weight after resource
