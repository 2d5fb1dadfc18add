-- Another waits at a place.
use Rattle.thread_waits.proofs.Common.{◌≡◌, ℕ, ◌+◌, ◌-◌, ◌<◌, Bool, cond, List, [], length, Option, None, arith, count_by, slice_index, slice_index_or, slice_set, sum_by-set, All-from_get_or, Wait, Inside, IsWaitInRangeIf, is_at_accept, IsCounted, IsTreeOf, amount_of, is_at_channel, is_ready_always, wake_of}
use Rattle.thread_waits.proofs.GrownLaws.{holds_with, one_if}

-- what is counted before and after
pub count_set : (p : Option Wait → Bool) (places : List (Option Wait)) (place : ℕ) (now next : Option Wait) → place < length places → now ≡ slice_index_or places place None →
    count_by p (slice_set places place next) + one_if (p now) ≡ count_by p places + one_if (p next)
count_set p places place now next there is =
    rw is (sum_by-set (λ wait. cond (p wait) 1 0) places place next None there)

counted_by : (before after into out left : ℕ) → after + out ≡ before + into → left ≡ before + into - out → left ≡ after
counted_by before after into out left e is = omega arith

-- all is counted as it is then
pub put_counted : (old new : Inside) (place : ℕ) (now next : Option Wait) → IsCounted old → place < length old.places.items → now ≡ slice_index_or old.places.items place None → IsWaitInRangeIf next →
    new.places.items ≡ slice_set old.places.items place next → new.clock ≡ old.clock →
    new.ready_always ≡ old.ready_always + one_if (is_ready_always next) - one_if (is_ready_always now) →
    new.at_accept ≡ old.at_accept + one_if (is_at_accept next) - one_if (is_at_accept now) →
    length new.at_channels ≡ 64 → ((k : ℕ) → k < 64 → slice_index new.at_channels k + one_if (is_at_channel k now) ≡ slice_index old.at_channels k + one_if (is_at_channel k next)) →
    IsTreeOf wake_of (slice_set old.places.items place next) new.sleepers →
    length new.takers.items ≡ 8 → ((r : ℕ) → r < 8 → IsTreeOf (amount_of r) (slice_set old.places.items place next) (slice_index_or new.takers.items r [])) → IsCounted new
put_counted old new place now next k there is range places clock ready accept channel_count channels sleepers taker_count takers = record {
  in_range = rw places (All-from_get_or IsWaitInRangeIf (slice_set old.places.items place next) None (λ i h. holds_with IsWaitInRangeIf tt old.places.items k.in_range place next range there i));
  clock = rw clock k.clock;
  ready_always = rw places (counted_by old.ready_always (count_by is_ready_always (slice_set old.places.items place next)) (one_if (is_ready_always next)) (one_if (is_ready_always now)) new.ready_always
      (rw k.ready_always (count_set is_ready_always old.places.items place now next there is)) ready);
  at_accept = rw places (counted_by old.at_accept (count_by is_at_accept (slice_set old.places.items place next)) (one_if (is_at_accept next)) (one_if (is_at_accept now)) new.at_accept
      (rw k.at_accept (count_set is_at_accept old.places.items place now next there is)) accept);
  channel_count = channel_count;
  at_channels = λ channel h.
      let counted : count_by (is_at_channel channel) (slice_set old.places.items place next) + one_if (is_at_channel channel now) ≡ count_by (is_at_channel channel) old.places.items + one_if (is_at_channel channel next) =
      count_set (is_at_channel channel) old.places.items place now next there is in
      let before : slice_index old.at_channels channel ≡ count_by (is_at_channel channel) old.places.items = k.at_channels channel h in
      let after : slice_index new.at_channels channel + one_if (is_at_channel channel now) ≡ slice_index old.at_channels channel + one_if (is_at_channel channel next) = channels channel h in
      rw places (omega arith);
  sleepers = rw places sleepers;
  taker_count = taker_count;
  takers = λ r h. rw places (takers r h);
}
