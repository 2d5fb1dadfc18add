use Rattle.rule_failures.proofs.Common.{◌≡◌, ℕ, ◌/◌, ◌<◌, length, slice_index, frame_places, frame_words, IsPlaced, AreMarked}
use Rattle.rule_failures.proofs.places.first_untaken.Given as goal

abbrev pub invariant-loop-x : goal.invariant-loop-x
invariant-loop-x l = record {
  marked : AreMarked 0 (slice_index (frame_places l.fact)) (slice_index (frame_words l.sizes)) l.x l.marks;
  count : length l.marks ≡ l.fact.frame / 4;
  lower : (j : ℕ) → j < l.x → IsPlaced l.fact l.sizes j;
}
