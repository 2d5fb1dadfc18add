use Rattle.thread_waits.proofs.Common.{◌≤◌, slice_set, IsLeastBetween, amount_of}
use Rattle.thread_waits.proofs.blocks.least_amount.Given as goal

abbrev pub invariant-loop-other : goal.invariant-loop-other
invariant-loop-other l = record {
  from : l.start ≤ l.other;
  within : l.other ≤ l.end;
  least : IsLeastBetween (amount_of l.resource) (slice_set l.places l.place l.next) l.start l.other l.least;
}
