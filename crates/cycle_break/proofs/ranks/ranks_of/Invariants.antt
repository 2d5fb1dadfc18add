use Rattle.cycle_break.proofs.Common.{◌≡◌, ◌≤◌, ◌<◌, ℕ, length, drop, get_or, vec_len, place_from}
use Rattle.cycle_break.proofs.ranks.ranks_of.Given as goal

abbrev pub invariant-loop-place : goal.invariant-loop-place
invariant-loop-place l = record {
  within : l.place ≤ length l.left;
  each : vec_len l.ranks ≡ l.functions;
  ranks : (f : ℕ) → f < l.functions → get_or l.ranks.items f 0 ≡ place_from l.place f (drop l.place l.left);
}

abbrev pub decreases-loop-place : goal.decreases-loop-place
decreases-loop-place l = l.place
