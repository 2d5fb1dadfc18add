use Rattle.std.proofs.Common.{◌≡◌, [], ◌∷◌}
use Rattle.schedule_rows.proofs.monitors.follows_curve.Given as goal

abbrev pub invariant-loop-used : goal.invariant-loop-used
invariant-loop-used g l = l.monitor.caps ≡ 0 ∷ 4 ∷ 0 ∷ 0 ∷ 0 ∷ 0 ∷ 0 ∷ 0 ∷ []
