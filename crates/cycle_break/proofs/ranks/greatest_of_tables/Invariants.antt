use Rattle.cycle_break.proofs.Common.{◌≡◌, map, take, slice_index, greatest}
use Rattle.cycle_break.proofs.ranks.greatest_of_tables.Given as goal

abbrev pub invariant-loop-members : goal.invariant-loop-members
invariant-loop-members l = l.most.items ≡ map (greatest (slice_index l.values)) (take l.members-index l.tables)
