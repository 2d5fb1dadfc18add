use Rattle.stride_rule.proofs.Common.{◌≡◌, ◌-◌, drop, length, None, met_among}
use Rattle.stride_rule.proofs.levels.Levels.first_met.Given as goal

-- the first so far, with the places that are left, gives the first
abbrev pub invariant-loop-place : goal.invariant-loop-place
invariant-loop-place l = met_among l.bounds l.best (drop l.place l.places) ≡ met_among l.bounds None l.places

abbrev pub decreases-loop-place : goal.decreases-loop-place
decreases-loop-place l = length l.places - l.place
