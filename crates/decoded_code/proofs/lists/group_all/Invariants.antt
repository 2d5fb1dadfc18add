use Rattle.std.proofs.Common.{length, ◌≤◌}
use Rattle.decoded_code.proofs.Groups.{AreGrouped}
use Rattle.decoded_code.proofs.lists.group_all.Given as goal

abbrev pub invariant-loop-at : goal.invariant-loop-at
invariant-loop-at l = (l.at ≤ length l.ready) × AreGrouped l.initial.ready l.at l.ready

abbrev pub decreases-loop-at : goal.decreases-loop-at
decreases-loop-at l = l.at
