use Rattle.scheduler.proofs.Common.{◌≡◌, ◌≤◌, ◌*◌, ◌^◌, unsigned_abs, slice_index, prediction, score_of_first}
use Rattle.scheduler.proofs.scores.score_of.Given as goal

abbrev pub invariant-loop-resource : goal.invariant-loop-resource
invariant-loop-resource l = record {
  total : l.total ≡ score_of_first (slice_index l.pressures) (prediction l.graph.edges l.node) l.resource;
  small : unsigned_abs l.total ≤ l.resource * (1000 * 2 ^ 39);
}
