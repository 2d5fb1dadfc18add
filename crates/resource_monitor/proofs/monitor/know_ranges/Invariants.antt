use Rattle.std.proofs.Common.{ℕ, ◌<◌, get_or}
use Rattle.resource_monitor.specs.declared.curves.Curve.TheVariants.{Linear}
use Rattle.resource_monitor.specs.Pressure.{IsInRange}
use Rattle.resource_monitor.proofs.monitor.know_ranges.Given as goal

abbrev pub invariant-loop-place : goal.invariant-loop-place
invariant-loop-place g l = (k : ℕ) → k < l.place → IsInRange (get_or l.gauges k Linear)
