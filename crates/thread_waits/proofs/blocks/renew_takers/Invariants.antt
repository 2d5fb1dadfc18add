use Rattle.thread_waits.proofs.Common.{◌≡◌, ℕ, ◌<◌, ◌≤◌, [], length, slice_index_or, slice_set, IsTreeOf, amount_of}
use Rattle.thread_waits.proofs.blocks.renew_takers.Given as goal

abbrev pub invariant-loop-r : goal.invariant-loop-r
invariant-loop-r l = record {
  eight : length l.trees.items ≡ 8;
  done : (r : ℕ) → r < l.r → IsTreeOf (amount_of r) (slice_set l.places l.place l.next) (slice_index_or l.trees.items r []);
  left : (r : ℕ) → l.r ≤ r → r < 8 → IsTreeOf (amount_of r) l.places (slice_index_or l.trees.items r []);
}
