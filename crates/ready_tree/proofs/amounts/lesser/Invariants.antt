use Rattle.std.proofs.Common.{◌≡◌, ℕ, ◌<◌, ◌≤◌, min, slice_index}
use Rattle.ready_tree.proofs.amounts.lesser.Given as goal

abbrev pub invariant-loop-resource : goal.invariant-loop-resource
invariant-loop-resource l = record {
  done : (r : ℕ) → r < l.resource → slice_index l.least r ≡ min (slice_index l.amounts r) (slice_index l.others r);
  left : (r : ℕ) → l.resource ≤ r → slice_index l.least r ≡ slice_index l.amounts r;
}
