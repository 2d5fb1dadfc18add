use Rattle.checkpoint_place.proofs.Common.{◌≡◌, reverse, take, vec_len, slice_index, function_count, AreKnownAmong, IsKnown}
use Rattle.checkpoint_place.proofs.BoundLemmas.{AreBound}
use Rattle.checkpoint_place.proofs.bounds.bounds_of.Given as goal

abbrev pub invariant-loop-function : goal.invariant-loop-function
invariant-loop-function l = record {
  each : vec_len l.bounds ≡ function_count l.graph;
  bound : AreBound l.graph l.index.without.now l.max_path (reverse (take l.function-index l.order)) l.bounds.items;
  known : IsKnown l.graph.tables (slice_index l.bounds.items) l.known;
  among : AreKnownAmong l.graph.tables (reverse (take l.function-index l.order)) l.known;
}
