-- Back edges of a call graph.
use Rattle.std.specs.Prelude.{ℕ, List, [], map, filter}
use Rattle.call_graph.specs.Graph.{CallGraphState}
use Rattle.call_graph.specs.Lists.{has}
use Rattle.cycle_break.specs.Walk.{whole_walk}

-- the numbers of the sites that the walk finds to be back edges, in order
abbrev pub back_edges : CallGraphState → List ℕ
back_edges graph = map (λ site. site.number) (filter (λ site. has site.number (whole_walk graph []).back) graph.sites)
