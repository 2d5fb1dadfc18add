use Rattle.thread_waits.proofs.Common.{◌≤◌, slice_set, IsLeastBetween, wake_of}
use Rattle.thread_waits.proofs.blocks.least_wake.Given as goal

abbrev pub invariant-loop-other : goal.invariant-loop-other
invariant-loop-other l = record {
  from : l.start ≤ l.other;
  within : l.other ≤ l.end;
  least : IsLeastBetween wake_of (slice_set l.places l.place l.next) l.start l.other l.least;
}
