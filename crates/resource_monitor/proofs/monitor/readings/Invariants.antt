use Rattle.std.proofs.Common.{◌≡◌, ℕ, ◌<◌, length, get_or}
use Rattle.resource_monitor.specs.declared.curves.Curve.TheVariants.{Linear}
use Rattle.resource_monitor.specs.Pressure.{pressure}
use Rattle.resource_monitor.proofs.monitor.readings.Given as goal

abbrev pub invariant-loop-place : goal.invariant-loop-place
invariant-loop-place g l = (length l.seen ≡ 8) × ((k : ℕ) → k < l.place → get_or l.seen k 0 ≡ pressure (get_or l.gauges k Linear) (get_or l.uses k 0) (get_or l.caps k 0))
