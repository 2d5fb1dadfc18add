use Rattle.std.proofs.Common.{◌≡◌, ◌≤◌, ℕ, None, length, slice_index_or}
use Rattle.thread_waits.proofs.parts.grow_places.Given as goal

abbrev pub invariant-loop-made : goal.invariant-loop-made
invariant-loop-made l = record {
  count : length l.places.items ≡ l.made;
  longer : length l.initial.places.items ≤ length l.places.items;
  same : (k : ℕ) → slice_index_or l.places.items k None ≡ slice_index_or l.initial.places.items k None;
}
