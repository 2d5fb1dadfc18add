use Rattle.segment_run.proofs.Common.{◌≡◌, length, checked_of, core_of, AreWalked}
use Rattle.segment_run.proofs.walking.walk.Given as goal

abbrev pub invariant-loop-count : goal.invariant-loop-count
invariant-loop-count l = (length l.sites ≡ 8) × AreWalked (checked_of l.accepted) l.pool (core_of l.pool l.context) l.frame l.sites l.count
