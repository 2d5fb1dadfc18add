use Rattle.cycle_break.proofs.Common.{length, ◌-◌, AreMarkedBelow}
use Rattle.cycle_break.proofs.callees.first_unmarked.Given as goal

abbrev pub invariant-loop-place : goal.invariant-loop-place
invariant-loop-place l = AreMarkedBelow l.visited l.functions l.place

abbrev pub decreases-loop-place : goal.decreases-loop-place
decreases-loop-place l = length l.functions - l.place
