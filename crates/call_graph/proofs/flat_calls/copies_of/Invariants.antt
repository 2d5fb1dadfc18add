use Rattle.std.proofs.Common.{◌≡◌, take}
use Rattle.call_graph.proofs.flat_calls.copies_of.Given as goal

abbrev pub invariant-loop-members : goal.invariant-loop-members
invariant-loop-members l = l.copies.items ≡ take l.members-index l.tables
