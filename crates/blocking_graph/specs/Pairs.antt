-- The edge of a pair of nodes, by a list of records.
use Rattle.std.specs.Prelude.{ℕ, ◌≡◌, ◌≢◌, ◌<◌, ◌==◌, ◌&&◌, ℤ, pos, Option, Some, None, List, [], ◌∷◌, length, map, filter, find, fold, slice_index_or}
use Rattle.blocking_graph.specs.Averages.{first_average, next_average}
use Rattle.blocking_graph.specs.declared.edges.EdgeLine.{EdgeLine}
use Rattle.blocking_graph.specs.declared.segments.SegmentRecord.{SegmentRecord}

-- the records from one node to another, in order
abbrev pub records_of : List SegmentRecord → ℕ → ℕ → List SegmentRecord
records_of records from to = filter (λ segment. segment.from == from && segment.to == to) records

-- the edge from one node to another, if there is one
abbrev pub edge_between : List EdgeLine → ℕ → ℕ → Option EdgeLine
edge_between edges from to = find (λ edge. edge.from == from && edge.to == to) edges

-- the average of samples, the earliest first: the first one sets it, and each later one updates it
abbrev pub average_of : List ℤ → ℤ
average_of [] = pos 0
average_of (sample ∷ samples) = fold next_average (first_average sample) samples

-- the costs of records
abbrev pub costs_of : List SegmentRecord → List ℤ
costs_of records = map (λ segment. pos segment.cost) records

-- the changes of a resource in records
abbrev pub changes_of : List SegmentRecord → ℕ → List ℤ
changes_of records resource = map (λ segment. slice_index_or segment.change resource (pos 0)) records

-- an edge agrees with these records, of which there is at least one: its count is their number, and its averages are
-- those of their costs and of their changes of each of the eight resources
pub record TellsOf (records : List SegmentRecord) (edge : EdgeLine) : Type 0 where
  pub some : records ≢ []
  pub count : edge.count ≡ length records
  pub cost : edge.cost ≡ average_of (costs_of records)
  pub eight : length edge.change ≡ 8
  pub change : (resource : ℕ) → resource < 8 → slice_index_or edge.change resource (pos 0) ≡ average_of (changes_of records resource)

-- the edge of these records: none if there are no records
abbrev pub IsEdgeOf : List SegmentRecord → Option EdgeLine → Type 0
IsEdgeOf records None = records ≡ []
IsEdgeOf records (Some edge) = TellsOf records edge

-- a record has a change of each of the eight resources
abbrev pub HasEight : SegmentRecord → Type 0
HasEight segment = length segment.change ≡ 8
