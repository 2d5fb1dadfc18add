use Rattle.cycle_break.proofs.Common.{◌≡◌, max, drop, slice_index, greatest}
use Rattle.cycle_break.proofs.ranks.greatest_of.Given as goal

abbrev pub invariant-loop-function : goal.invariant-loop-function
invariant-loop-function l = max l.most (greatest (slice_index l.values) (drop l.function-index l.functions)) ≡ greatest (slice_index l.values) l.functions
