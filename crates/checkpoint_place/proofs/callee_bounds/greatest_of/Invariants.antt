use Rattle.checkpoint_place.proofs.Common.{◌≡◌, max, drop, slice_index, greatest}
use Rattle.checkpoint_place.proofs.callee_bounds.greatest_of.Given as goal

abbrev pub invariant-loop-function : goal.invariant-loop-function
invariant-loop-function l = max l.most (greatest (slice_index l.bounds) (drop l.function-index l.functions)) ≡ greatest (slice_index l.bounds) l.functions
