use Rattle.thread_waits.proofs.Common.{◌≡◌, ℕ, ◌<◌, ◌≤◌, [], length, slice_index_or, IsGrown, no_number}
use Rattle.thread_waits.proofs.parts.grow_trees.Given as goal

abbrev pub invariant-loop-r : goal.invariant-loop-r
invariant-loop-r l = record {
  eight : length l.trees.items ≡ 8;
  grown : (r : ℕ) → r < 8 → IsGrown no_number (slice_index_or l.initial.trees.items r []) (slice_index_or l.trees.items r []);
  long : (r : ℕ) → r < l.r → l.count ≤ length (slice_index_or l.trees.items r []);
}
