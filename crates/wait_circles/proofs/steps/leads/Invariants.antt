use Rattle.std.proofs.Common.{◌≡◌, take}
use Rattle.wait_circles.specs.Circles.{leads}
use Rattle.wait_circles.proofs.steps.leads.Given as goal

abbrev pub invariant-loop-step : goal.invariant-loop-step
invariant-loop-step l = l.found ≡ leads (take l.step-index l.steps) l.held l.wanted
