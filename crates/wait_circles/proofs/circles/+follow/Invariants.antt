use Rattle.std.proofs.Common.{◌≡◌, ◌++◌, ◌-◌}
use Rattle.wait_circles.specs.Ways.{each_below, ways_by}
use Rattle.wait_circles.proofs.circles.+follow.Given as goal

abbrev pub decreases-follow : goal.decreases-follow
decreases-follow l = l.left

abbrev pub invariant-loop-next : goal.invariant-loop-next
invariant-loop-next l = l.found.items ≡ l.initial.found.items ++ each_below (ways_by (l.left - 1) l.steps l.first l.last l.path) l.next
