-- More places, at which nobody waits.
use Rattle.thread_waits.proofs.Common.{◌≡◌, ◌≢◌, ℕ, zero, suc, ◌+◌, ◌*◌, ◌<◌, ◌≤◌, ◌⊎◌, inl, inr, Bool, false, cond, List, [], ◌∷◌, length, All, Option, None, refl, sym, ◌∙◌, arith, count_by, slice_index_or, slice_set, get_or_past, get_or-set_same, get_or-set_other, sum_by-cons, All-get_or, All-from_get_or, Wait, IsWaitInRangeIf, is_at_accept, IsCounted, IsTreeOf, IsGrown, no_number, is_ready_always, is_at_channel, amount_of, wake_of, Inside, same_or_not}
use Rattle.thread_waits.proofs.BlockLaws.{between_same, past_or_not}

-- each place has what it had
abbrev pub AreSame : List (Option Wait) → List (Option Wait) → Type 0
AreSame old new = (k : ℕ) → slice_index_or new k None ≡ slice_index_or old k None

abbrev pub one_if : Bool → ℕ
one_if b = cond b 1 0

first_no : (p : Option Wait → Bool) (y : Option Wait) → p None ≡ false → y ≡ None → one_if (p y) ≡ 0
first_no p y n e = rw (e, n) refl

sum_none : (a b : ℕ) → a ≡ 0 → b ≡ 0 → a + b ≡ 0
sum_none a b e f = omega arith

pub count_cons : {X : Type 0} (p : X → Bool) (x : X) (xs : List X) → count_by p (x ∷ xs) ≡ one_if (p x) + count_by p xs
count_cons p x xs = sum_by-cons (λ x. cond (p x) 1 0) x xs

pub count_same : (p : Option Wait → Bool) → p None ≡ false → (old new : List (Option Wait)) → AreSame old new → count_by p new ≡ count_by p old
count_same p n [] [] same = refl
count_same p n [] (y ∷ ys) same =
    count_cons p y ys ∙ sum_none (one_if (p y)) (count_by p ys) (first_no p y n (same zero)) (count_same p n [] ys (λ k. same (suc k)))
count_same p n (x ∷ xs) [] same =
    sym (count_cons p x xs ∙ sum_none (one_if (p x)) (count_by p xs) (first_no p x n (sym (same zero))) (sym (count_same p n xs [] (λ k. same (suc k)))))
count_same p n (x ∷ xs) (y ∷ ys) same =
    let e : y ≡ x = same zero in
    count_cons p y ys ∙ rw (e, count_same p n xs ys (λ k. same (suc k))) (sym (count_cons p x xs))

at_place : (P : Option Wait → Type 0) → P None → (xs : List (Option Wait)) → All P xs → (k : ℕ) → (k < length xs) ⊎ (length xs ≤ k) → P (slice_index_or xs k None)
at_place P n xs all k (inl h) = All-get_or P xs k None h all
at_place P n xs all k (inr h) = rw (get_or_past xs k None h) n

pub all_same : (P : Option Wait → Type 0) → P None → (old new : List (Option Wait)) → AreSame old new → All P old → All P new
all_same P n old new same all = All-from_get_or P new None (λ k h. rw (same k) (at_place P n old all k (past_or_not (length old) k)))

-- what holds at no place and at each place of the list holds at any
pub holds_at : (P : Option Wait → Type 0) → P None → (xs : List (Option Wait)) → All P xs → (k : ℕ) → P (slice_index_or xs k None)
holds_at P n xs all k = at_place P n xs all k (past_or_not (length xs) k)

-- also where another stands at one place
with_at : (P : Option Wait → Type 0) → P None → (xs : List (Option Wait)) → All P xs → (i : ℕ) (next : Option Wait) → P next → i < length xs → (k : ℕ) → (k ≡ i) ⊎ (k ≢ i) → P (slice_index_or (slice_set xs i next) k None)
with_at P n xs all i next h there k (inl e) = rw (e, get_or-set_same xs i next None there) h
with_at P n xs all i next h there k (inr d) = rw (get_or-set_other xs i k next None d) (holds_at P n xs all k)

pub holds_with : (P : Option Wait → Type 0) → P None → (xs : List (Option Wait)) → All P xs → (i : ℕ) (next : Option Wait) → P next → i < length xs → (k : ℕ) → P (slice_index_or (slice_set xs i next) k None)
holds_with P n xs all i next h there k = with_at P n xs all i next h there k (same_or_not k i)

-- ---- trees

pub tree_same : (number : Option Wait → Option ℕ) (old new : List (Option Wait)) (leaves grown : List ℕ) → IsTreeOf number old leaves → AreSame old new → IsGrown no_number leaves grown →
    length new ≤ 16 * length grown → IsTreeOf number new grown
tree_same number old new leaves grown t same g fit = record {
  places_fit = fit;
  leaf = λ block. rw (g.same block)
      (between_same number old new (16 * block) (16 * block + 16) (slice_index_or leaves block no_number) (λ k from before. rw (same k) refl) (t.leaf block));
}

-- with more places all is counted as it was
pub grown_counted : (old new : Inside) → IsCounted old → new.clock ≡ old.clock → new.ready_always ≡ old.ready_always → new.at_accept ≡ old.at_accept → new.at_channels ≡ old.at_channels →
    AreSame old.places.items new.places.items → IsGrown no_number old.sleepers new.sleepers → length new.places.items ≤ 16 * length new.sleepers →
    length new.takers.items ≡ 8 → ((r : ℕ) → r < 8 → IsGrown no_number (slice_index_or old.takers.items r []) (slice_index_or new.takers.items r [])) →
    ((r : ℕ) → r < 8 → length new.places.items ≤ 16 * length (slice_index_or new.takers.items r [])) → IsCounted new
grown_counted old new k clock ready accept channels same sleepers fit count takers fits = record {
  in_range = all_same IsWaitInRangeIf tt old.places.items new.places.items same k.in_range;
  clock = rw clock k.clock;
  ready_always = rw (ready, count_same is_ready_always refl old.places.items new.places.items same) k.ready_always;
  at_accept = rw (accept, count_same is_at_accept refl old.places.items new.places.items same) k.at_accept;
  channel_count = rw channels k.channel_count;
  at_channels = λ channel h. rw (channels, count_same (is_at_channel channel) refl old.places.items new.places.items same) (k.at_channels channel h);
  sleepers = tree_same wake_of old.places.items new.places.items old.sleepers new.sleepers k.sleepers same sleepers fit;
  taker_count = count;
  takers = λ r h. tree_same (amount_of r) old.places.items new.places.items (slice_index_or old.takers.items r []) (slice_index_or new.takers.items r []) (k.takers r h) same (takers r h) (fits r h);
}
