use Rattle.scheduler.proofs.Common.{◌≡◌, ℕ, ◌<◌, false, place_at, is_eligible, passes_at}
use Rattle.scheduler.proofs.finding.first_asked.Given as goal

abbrev pub invariant-loop-place : goal.invariant-loop-place
invariant-loop-place g l = (k : ℕ) → k < l.place →
    passes_at (is_eligible (g.R.Ready.is_ready l.ready) (g.R.Ready.at_accept l.ready) (g.R.Ready.any_elsewhere l.ready) l.gate_open) (place_at l.queue k) ≡ false
