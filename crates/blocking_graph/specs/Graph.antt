-- The state of a blocking graph, and its invariant.
use Rattle.std.specs.Prelude.{ℕ, ◌≡◌, ◌^◌, ◌<◌, ◌≤◌, ◌==◌, ◌||◌, ◌&&◌, nat_lt, Bool, IsTrue, ⊤, unsigned_abs, All, List, [], ◌∷◌, length}
use Rattle.std.specs.List.{AllByRecursion}
use Rattle.blocking_graph.specs.Edges.{count_of}
use Rattle.blocking_graph.specs.declared.edges.EdgeLine.{EdgeLine}
use Rattle.blocking_graph.specs.declared.segments.SegmentRecord.{SegmentRecord}

-- the keys that have numbers, in order, and the edges with their counts and averages
pub record GraphState : Type 0 where
  pub keys : List (List ℕ)
  pub edges : List EdgeLine

-- a graph without keys and records
abbrev pub empty_graph : GraphState
empty_graph = record { keys = []; edges = [] }

-- the ranges of a record: a cost below 2^40, and changes of the eight resources from -2^31 to 2^31
pub record IsSegment (segment : SegmentRecord) : Type 0 where
  pub cost : segment.cost < 2 ^ 40
  pub changes : All (λ change. unsigned_abs change ≤ 2 ^ 31) segment.change

-- the invariant of an edge: it has a record, and its averages are in the range of their samples,
-- scaled
pub record IsEdge (edge : EdgeLine) : Type 0 where
  pub some : 1 ≤ edge.count
  pub cost : unsigned_abs edge.cost ≤ 2 ^ 48
  pub eight : length edge.change ≡ 8
  pub changes : All (λ average. unsigned_abs average ≤ 2 ^ 39) edge.change

-- whether an edge comes before another, in the order by `from`, then `to`
abbrev pub precedes : EdgeLine → EdgeLine → Bool
precedes edge other = nat_lt edge.from other.from || (edge.from == other.from && nat_lt edge.to other.to)

-- each edge comes before all after it, so no two are of one pair
abbrev pub IsRising : List EdgeLine → Type 0
IsRising [] = ⊤
IsRising (edge ∷ edges) = AllByRecursion (λ other. IsTrue (precedes edge other)) edges × IsRising edges

-- the invariant of a graph: its edges are in order, with at most 2^40 records in all, and it has at
-- most 2^31 keys
pub record IsGraph (graph : GraphState) : Type 0 where
  pub edges : AllByRecursion IsEdge graph.edges
  pub rising : IsRising graph.edges
  pub counted : count_of graph.edges ≤ 2 ^ 40
  pub numbered : length graph.keys ≤ 2 ^ 31
