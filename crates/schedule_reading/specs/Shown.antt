-- The line of an edge.
use Rattle.std.specs.Prelude.{◌≡◌, ℕ, List}
use Rattle.blocking_graph.specs.declared.edges.EdgeLine.{EdgeLine}
use Rattle.choice_rules.specs.EdgeLines.{shown as averages_of}
use Rattle.schedule_reading.specs.declared.edges.Shown.{Shown}

-- the line of this edge, with the averages of the resources that have caps
pub record Shows (edge : EdgeLine) (caps : List ℕ) (line : Shown) : Type 0 where
  pub from : edge.from ≡ line.from
  pub to : edge.to ≡ line.to
  pub count : edge.count ≡ line.count
  pub cost : edge.cost ≡ line.cost
  pub changes : averages_of caps edge.change ≡ line.changes
