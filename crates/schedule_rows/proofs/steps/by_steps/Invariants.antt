use Rattle.std.proofs.Common.{◌≡◌, ◌≤◌, ◌*◌, length, take}
use Rattle.resource_monitor.specs.Pressure.{reached}
use Rattle.schedule_rows.proofs.steps.by_steps.Given as goal

abbrev pub invariant-loop-place : goal.invariant-loop-place
invariant-loop-place l = (l.pressure ≡ 125 * length (reached (take l.place-index l.at) l.used l.cap)) × (l.pressure ≤ 125 * l.place-index)
