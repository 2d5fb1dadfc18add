use Rattle.std.proofs.Common.{◌≡◌, take}
use Rattle.wait_circles.specs.Circles.{is_among}
use Rattle.wait_circles.proofs.steps.is_among.Given as goal

abbrev pub invariant-loop-one : goal.invariant-loop-one
invariant-loop-one l = l.found ≡ is_among (take l.one-index l.path) l.resource
