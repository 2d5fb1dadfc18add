-- Where a thread stands is told by its record.
use Rattle.thread_core.proofs.Common.{◌≡◌, ◌≢◌, ℕ, ◌⊎◌, inl, inr, true, false, Option, Some, None, option_map, refl, nat_eq, if◌then◌else◌, slice_index_or, get, ThreadId, Acceptance, first_with, IsKept, is_same_number, thread_of_record, threads_of, numbers_of, Record, State}
use Rattle.thread_core.specs.Standings.{standing_of, standing_by, standing_for}
use Rattle.thread_core.proofs.TellingLaws.{eq_cases, number_at, found_at}

module _ (accepted : Acceptance) (most : ℕ) (st : State) (kept : IsKept accepted most st) where
  by_number : (thread : ThreadId) (r : Record) → get st.records thread.slot ≡ Some r →
      ((nat_eq r.number thread.number ≡ true) × (r.number ≡ thread.number)) ⊎ ((nat_eq r.number thread.number ≡ false) × (r.number ≢ thread.number)) →
      (if is_same_number (slice_index_or (numbers_of st) thread.slot None) thread.number then option_map standing_of (first_with thread.number (threads_of st)) else None) ≡ standing_by thread (Some r)
  by_number thread r e (inl same) =
      let f : first_with thread.number (threads_of st) ≡ Some (thread_of_record st.areas.pool st.waits thread.slot r) = rw (← same.1) (found_at accepted most st kept thread.slot r e) in
      rw (number_at st thread.slot, e, f, same.0) refl
  by_number thread r e (inr other) = rw (number_at st thread.slot, e, other.0) refl

  by_record : (thread : ThreadId) (o : Option Record) → get st.records thread.slot ≡ o →
      (if is_same_number (slice_index_or (numbers_of st) thread.slot None) thread.number then option_map standing_of (first_with thread.number (threads_of st)) else None) ≡ standing_by thread o
  by_record thread None e = rw (number_at st thread.slot, e) refl
  by_record thread (Some r) e = by_number thread r e (eq_cases r.number thread.number)

  pub standing_told : (thread : ThreadId) →
      (if is_same_number (slice_index_or (numbers_of st) thread.slot None) thread.number then option_map standing_of (first_with thread.number (threads_of st)) else None) ≡ standing_for st thread
  standing_told thread = by_record thread (get st.records thread.slot) refl
