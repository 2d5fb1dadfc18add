-- One place, at which nobody waits.
use Rattle.thread_waits.proofs.Common.{◌≡◌, ℕ, zero, suc, List, [], ◌∷◌, Option, None, replicate, refl, arith, slice_index_or, get_or-replicate, All-cons, Wait, Inside, IsWaitInRangeIf, IsCounted, IsTreeOf, no_number, amount_of, wake_of}

empty_place : (k : ℕ) → slice_index_or (no_number ∷ []) k no_number ≡ no_number
empty_place zero = refl
empty_place (suc k) = refl

abbrev pub one_nobody : List (Option Wait)
one_nobody = None ∷ []

nobody : (k : ℕ) → slice_index_or one_nobody k None ≡ None
nobody zero = refl
nobody (suc k) = refl

one_tree : (number : Option Wait → Option ℕ) → number None ≡ None → IsTreeOf number one_nobody (no_number ∷ [])
one_tree number n = record {
  places_fit = omega arith;
  leaf = λ block. rw (empty_place block) (record {
    most = omega arith;
    lowest = λ k from before. rw (nobody k, n) (omega arith);
    stands = λ d. absurd (d refl);
  });
}

pub start_counted : (w : Inside) → w.places.items ≡ None ∷ [] → w.clock ≡ 0 → w.ready_always ≡ 0 → w.at_accept ≡ 0 → w.at_channels ≡ replicate 64 0 →
    w.sleepers ≡ replicate 1 no_number → w.takers.items ≡ replicate 8 (replicate 1 no_number) → IsCounted w
start_counted w places clock ready accept channels sleepers takers = record {
  in_range = rw places (All-cons IsWaitInRangeIf None [] tt (λ k d h. absurd (omega arith)));
  clock = rw clock (omega arith);
  ready_always = rw (ready, places) refl;
  at_accept = rw (accept, places) refl;
  channel_count = rw channels refl;
  at_channels = λ channel h. rw (channels, places, get_or-replicate {A = ℕ} 64 channel 0 0 h) refl;
  sleepers = rw (places, sleepers) (one_tree wake_of refl);
  taker_count = rw takers refl;
  takers = λ r h. rw (places, takers, get_or-replicate {A = List ℕ} 8 r (replicate 1 no_number) [] h) (one_tree (amount_of r) refl);
}
