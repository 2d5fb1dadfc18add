use Rattle.std.proofs.Common.{◌≤◌}
use Rattle.blocking_graph.specs.Edges.{count_of}
use Rattle.schedule_rows.proofs.graphs.note_all.Given as goal

abbrev pub invariant-loop-at : goal.invariant-loop-at
invariant-loop-at l = count_of l.graph.edges ≤ l.at
