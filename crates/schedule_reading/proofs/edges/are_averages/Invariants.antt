use Rattle.std.proofs.Common.{◌≤◌, length}
use Rattle.schedule_reading.proofs.Averages.{ShownFrom}
use Rattle.schedule_reading.proofs.edges.are_averages.Given as goal

abbrev pub invariant-loop-resource : goal.invariant-loop-resource
invariant-loop-resource l = record {
  from : ShownFrom l.caps l.change l.values l.resource l.read;
  few : l.read ≤ l.resource;
  within : l.read ≤ length l.values;
}
