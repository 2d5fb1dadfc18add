use Rattle.codegen_link.proofs.Common.{◌≡◌, map, take, slice_index, greatest}
use Rattle.codegen_link.proofs.links.table_needs.Given as goal

abbrev pub invariant-loop-members : goal.invariant-loop-members
invariant-loop-members l = l.needs.items ≡ map (greatest (slice_index l.plan.bounds)) (take l.members-index l.members-items)
