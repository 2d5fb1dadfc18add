use Rattle.scheduler.proofs.Common.{◌≡◌, ℕ, ◌<◌, ◌≤◌, get_or, length, pressure_at}
use Rattle.scheduler.proofs.scores.pressures_of.Given as goal

abbrev pub invariant-loop-resource : goal.invariant-loop-resource
invariant-loop-resource g l = record {
  same : (k : ℕ) → k < l.resource → get_or l.pressures k 0 ≡ pressure_at l.monitor k;
  most : (k : ℕ) → k < l.resource → get_or l.pressures k 0 ≤ 1000;
  eight : length l.pressures ≡ 8;
}
