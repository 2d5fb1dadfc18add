use Rattle.std.proofs.Common.{◌≡◌, [], ◌∷◌}
use Rattle.schedule_rows.proofs.monitors.follows_rows.Given as goal

abbrev pub invariant-loop-row : goal.invariant-loop-row
invariant-loop-row g l = l.monitor.caps ≡ 0 ∷ 10 ∷ 3 ∷ 0 ∷ 0 ∷ 0 ∷ 0 ∷ 0 ∷ []
