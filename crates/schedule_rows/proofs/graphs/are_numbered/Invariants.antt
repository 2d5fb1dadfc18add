use Rattle.std.proofs.Common.{◌≤◌, length}
use Rattle.schedule_rows.proofs.graphs.are_numbered.Given as goal

abbrev pub invariant-loop-at : goal.invariant-loop-at
invariant-loop-at l = length l.graph.keys ≤ l.at
