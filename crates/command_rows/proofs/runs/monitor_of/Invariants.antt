use Rattle.std.proofs.Common.{◌≡◌}
use Rattle.std.specs.Prelude.{replicate}
use Rattle.resource_monitor.specs.declared.curves.Curve.TheVariants.{Linear}
use Rattle.command_rows.proofs.runs.monitor_of.Given as goal

abbrev pub invariant-loop : goal.invariant-loop
invariant-loop g l = l.gauges.items ≡ replicate l.counter Linear
