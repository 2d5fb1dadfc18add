-- The lines of the edges at the end of a log.
use Rattle.std.specs.Prelude.{ℕ, ℤ, List, [], ◌∷◌, drop, nat_eq, if◌then◌else◌}
use Rattle.blocking_graph.specs.declared.edges.EdgeLine.{EdgeLine}
use Rattle.schedule_log.specs.declared.entries.Entry.{Entry}

-- the averages of the resources that exist, by their caps
abbrev pub given : List ℕ → List ℤ → List ℤ
given (cap ∷ caps) (average ∷ averages) = if nat_eq cap 0 then given caps averages else average ∷ given caps averages
given _ _ = []

-- the averages on an edge's line: that of resource 0, and those of the resources that exist
abbrev pub shown : List ℕ → List ℤ → List ℤ
shown caps [] = []
shown caps (average ∷ averages) = average ∷ given (drop 1 caps) averages

-- the line of an edge, with the averages of the resources that have these caps
abbrev pub edge_entry : List ℕ → EdgeLine → Entry
edge_entry caps edge = Entry.Edge edge.from edge.to edge.count edge.cost (shown caps edge.change)
