use Rattle.std.proofs.Common.{◌≡◌}
use Rattle.wait_circles.specs.Ways.{each_below}
use Rattle.wait_circles.proofs.Told.{begins}
use Rattle.wait_circles.proofs.circles.circles_of.Given as goal

abbrev pub invariant-loop-first : goal.invariant-loop-first
invariant-loop-first l = l.found.items ≡ each_below (begins l.steps) l.first
