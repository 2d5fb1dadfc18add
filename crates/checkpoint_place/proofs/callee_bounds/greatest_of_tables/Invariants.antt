use Rattle.checkpoint_place.proofs.Common.{◌≡◌, map, take, slice_index, greatest}
use Rattle.checkpoint_place.proofs.callee_bounds.greatest_of_tables.Given as goal

abbrev pub invariant-loop-members : goal.invariant-loop-members
invariant-loop-members l = l.most.items ≡ map (greatest (slice_index l.bounds)) (take l.members-index l.tables)
