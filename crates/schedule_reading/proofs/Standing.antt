-- Threads where one place changes: a thread comes to wait there, or leaves it.
use Rattle.schedule_reading.proofs.Common.{◌≡◌, ◌≢◌, ℕ, zero, suc, ◌+◌, Bool, true, false, List, [], ◌∷◌, ◌++◌, length, Option, Some, None, IsSome, refl, sym, ap, ◌∙◌, subst, arith, ⊎_elim, cond, IsTrue, count_by, slice_get, slice_set, AllByRecursion, ProgramTree, Waiter, waits, none_waits, once_append, waits_append, waits_one, lives, get, Wait, Slot, KeepsOthers, AreThreads, HasSlot, IsSince, IsSlot, IsWaiter, ThreadsState, at_place, All-append, or_right, or_left, same_or_not}
use Rattle.std.proofs.lemmas.List.Recursion.{is_count_by}
use Rattle.c_mean.specs.World as source
use Rattle.schedule_reading.proofs.Places.{not_vacant, same_slot, slot_kept, waiters_kept}

-- ---- lists

pub more_last : {X : Type 0} (xs : List X) (x : X) → slice_get (xs ++ x ∷ []) (length xs) ≡ Some x
more_last [] x = refl
more_last (y ∷ xs) x = more_last xs x

pub more_other : {X : Type 0} (xs : List X) (x : X) (k : ℕ) → k ≢ length xs → slice_get (xs ++ x ∷ []) k ≡ slice_get xs k
more_other [] x zero apart = absurd (apart refl)
more_other (y ∷ xs) x (suc k) apart = more_other xs x k (λ e. apart (ap suc e))
more_other _ x _ apart = refl

pub set_here : {X : Type 0} (xs : List X) (k : ℕ) (x y : X) → slice_get xs k ≡ Some y → slice_get (slice_set xs k x) k ≡ Some x
set_here [] k x y e = absurd (cc)
set_here (z ∷ xs) zero x y e = refl
set_here (z ∷ xs) (suc k) x y e = set_here xs k x y e

pub set_other : {X : Type 0} (xs : List X) (k : ℕ) (x : X) (j : ℕ) → j ≢ k → slice_get (slice_set xs k x) j ≡ slice_get xs j
set_other (z ∷ xs) zero x zero apart = absurd (apart refl)
set_other (z ∷ xs) (suc k) x (suc j) apart = set_other xs k x j (λ e. apart (ap suc e))
set_other _ _ x _ apart = refl

-- how many live
abbrev live_count : List source.Rest → ℕ
live_count [] = 0
live_count (r ∷ rests) = cond (lives r) (1 + live_count rests) (live_count rests)

count_is : (rests : List source.Rest) → count_by lives rests ≡ live_count rests
count_is rests = sym (is_count_by live_count lives refl (λ r rs. refl) rests)

by_life : (b c : Bool) (m n : ℕ) → b ≡ c → m ≡ n → cond b (1 + m) m ≡ cond c (1 + n) n
by_life b c m n e f = ap (λ (d : Bool). cond d (1 + m) m) e ∙ ap (λ (k : ℕ). cond c (1 + k) k) f

one_more : (b : Bool) (n : ℕ) → cond b (1 + (n + 1)) (n + 1) ≡ cond b (1 + n) n + 1
one_more true n = omega arith
one_more false n = refl

living_more : (rests : List source.Rest) (x : source.Rest) → lives x ≡ true → live_count (rests ++ x ∷ []) ≡ live_count rests + 1
living_more [] x e = ap (λ (b : Bool). cond b (1 + 0) 0) e
living_more (y ∷ rests) x e =
    by_life (lives y) (lives y) (live_count (rests ++ x ∷ [])) (live_count rests + 1) refl (living_more rests x e) ∙ one_more (lives y) (live_count rests)

pub count_more : (rests : List source.Rest) (x : source.Rest) → lives x ≡ true → count_by lives (rests ++ x ∷ []) ≡ count_by lives rests + 1
count_more rests x e = count_is (rests ++ x ∷ []) ∙ living_more rests x e ∙ ap (λ (n : ℕ). n + 1) (sym (count_is rests))

living_set : (rests : List source.Rest) (k : ℕ) (x y : source.Rest) → slice_get rests k ≡ Some y → lives x ≡ lives y → live_count (slice_set rests k x) ≡ live_count rests
living_set [] k x y e p = absurd (cc)
living_set (z ∷ rests) zero x y e p = let same : z ≡ y = cc in by_life (lives x) (lives z) (live_count rests) (live_count rests) (p ∙ ap lives (sym same)) refl
living_set (z ∷ rests) (suc k) x y e p = by_life (lives z) (lives z) (live_count (slice_set rests k x)) (live_count rests) refl (living_set rests k x y e p)

pub count_set : (rests : List source.Rest) (k : ℕ) (x y : source.Rest) → slice_get rests k ≡ Some y → lives y ≡ true → lives x ≡ true → count_by lives (slice_set rests k x) ≡ count_by lives rests
count_set rests k x y e p q = count_is (slice_set rests k x) ∙ living_set rests k x y e (q ∙ sym p) ∙ sym (count_is rests)

one_less : (b : Bool) (m n : ℕ) → m + 1 ≡ n → cond b (1 + m) m + 1 ≡ cond b (1 + n) n
one_less true m n e = omega (arith, e)
one_less false m n e = e

dies : (b c : Bool) (n : ℕ) → b ≡ true → c ≡ false → cond c (1 + n) n + 1 ≡ cond b (1 + n) n
dies true false n p q = omega arith
dies _ _ n p q = absurd (cc)

living_less : (rests : List source.Rest) (k : ℕ) (x y : source.Rest) → slice_get rests k ≡ Some y → lives y ≡ true → lives x ≡ false → live_count (slice_set rests k x) + 1 ≡ live_count rests
living_less [] k x y e p q = absurd (cc)
living_less (z ∷ rests) zero x y e p q = let same : z ≡ y = cc in dies (lives z) (lives x) (live_count rests) (ap lives same ∙ p) q
living_less (z ∷ rests) (suc k) x y e p q = one_less (lives z) (live_count (slice_set rests k x)) (live_count rests) (living_less rests k x y e p q)

pub count_less : (rests : List source.Rest) (k : ℕ) (x y : source.Rest) → slice_get rests k ≡ Some y → lives y ≡ true → lives x ≡ false → count_by lives (slice_set rests k x) + 1 ≡ count_by lives rests
count_less rests k x y e p q = ap (λ (n : ℕ). n + 1) (count_is (slice_set rests k x)) ∙ living_less rests k x y e p q ∙ sym (count_is rests)

-- ---- one place changes

module _ (tree : ProgramTree) (old new : ThreadsState) (place number : ℕ) (rests more : List source.Rest) (waiting : List Waiter) (are : AreThreads tree old.slots old.waits.places rests waiting) (others : KeepsOthers old new place)
    (same : (n : ℕ) → n ≢ number → slice_get more n ≡ slice_get rests n) (nobody : at_place old.waits.places place ≡ None)
    (own_number : (s : Slot) → get old.slots place ≡ Some s → s.number ≡ number)
    (apart_number : (p : ℕ) (s : Slot) → get old.slots p ≡ Some s → p ≢ place → s.number ≢ number) where
  kept_slot : (p : ℕ) (s : Slot) → get new.slots p ≡ Some s → p ≢ place → IsSlot tree new.waits.places more p s
  kept_slot p s e apart =
      let was : get old.slots p ≡ Some s = sym (others.slots p apart) ∙ e in
      slot_kept tree old new place others rests more p s apart (same s.number (apart_number p s was apart)) (are.each p s was)

  -- who waits waits elsewhere
  some_not : (since : ℕ) (o : Option Wait) → IsSince since o → o ≡ None → ⊥
  some_not since None is e = is
  some_not since (Some w) is e = absurd (cc)

  waiter_apart : (w : Waiter) (is : IsWaiter old.slots old.waits.places w) → is.has.place ≢ place
  waiter_apart w is here = some_not w.since (at_place old.waits.places is.has.place) is.since (ap (at_place old.waits.places) here ∙ nobody)

  kept_waiters : AllByRecursion (IsWaiter new.slots new.waits.places) waiting
  kept_waiters = waiters_kept tree old new place others waiting are.waiters waiter_apart

  kept_found : (n : ℕ) → n ≢ number → HasSlot old.slots n → HasSlot new.slots n
  kept_found n apart has = ⊎_elim
      (λ (here : has.place ≡ place). absurd (apart (sym has.number_is ∙ own_number has.slot (ap (get old.slots) (sym here) ∙ has.there))))
      (λ away. record { place = has.place; slot = has.slot; there = others.slots has.place away ∙ has.there; number_is = has.number_is })
      (same_or_not has.place place)

  -- ---- a thread comes to wait there

  module _ (slot : Slot) (wait : Wait) (node since : ℕ) (there : get new.slots place ≡ Some slot) (number_is : slot.number ≡ number) (stands : IsSlot tree new.waits.places more place slot)
      (waits_for : at_place new.waits.places place ≡ Some wait) (since_is : IsSince since (Some wait)) where
    abbrev own : Waiter
    own = record { thread = number; node = node; since = since }

    each_slot : (p : ℕ) (s : Slot) → get new.slots p ≡ Some s → IsSlot tree new.waits.places more p s
    each_slot p s e = ⊎_elim
        (λ (here : p ≡ place).
        let is : slot ≡ s = same_slot new.slots place slot s there (ap (get new.slots) (sym here) ∙ e) in
        subst (λ (x : Slot). IsSlot tree new.waits.places more p x) is (subst (λ (k : ℕ). IsSlot tree new.waits.places more k slot) (sym here) stands))
        (λ apart. kept_slot p s e apart)
        (same_or_not p place)

    own_of : (p : ℕ) (s : Slot) → get new.slots p ≡ Some s → p ≡ place → s.number ≡ number
    own_of p s e here = ap (λ (x : Slot). x.number) (sym (same_slot new.slots place slot s there (ap (get new.slots) (sym here) ∙ e))) ∙ number_is

    other_of : (p : ℕ) (s : Slot) → get new.slots p ≡ Some s → p ≢ place → s.number ≢ number
    other_of p s e apart = apart_number p s (sym (others.slots p apart) ∙ e) apart

    one_slot : (p q : ℕ) (s t : Slot) → get new.slots p ≡ Some s → get new.slots q ≡ Some t → s.number ≡ t.number → p ≡ q
    one_slot p q s t e f equal = ⊎_elim
        (λ (here : p ≡ place). ⊎_elim
        (λ (too : q ≡ place). here ∙ sym too)
        (λ apart. absurd (other_of q t f apart (sym equal ∙ own_of p s e here)))
        (same_or_not q place))
        (λ apart. ⊎_elim
        (λ (here : q ≡ place). absurd (other_of p s e apart (equal ∙ own_of q t f here)))
        (λ apart_too. are.one p q s t (sym (others.slots p apart) ∙ e) (sym (others.slots q apart_too) ∙ f) equal)
        (same_or_not q place))
        (same_or_not p place)

    vacant_slot : (p : ℕ) → get new.slots p ≡ None → at_place new.waits.places p ≡ None
    vacant_slot p e = ⊎_elim
        (λ (here : p ≡ place). absurd (not_vacant new.slots place slot (ap (get new.slots) (sym here) ∙ e) there))
        (λ apart. others.waits p apart ∙ are.vacant p (sym (others.slots p apart) ∙ e))
        (same_or_not p place)

    found_slot : (n : ℕ) (r : source.Rest) → slice_get more n ≡ Some r → IsTrue (lives r) → HasSlot new.slots n
    found_slot n r e live = ⊎_elim
        (λ (here : n ≡ number). record { place = place; slot = slot; there = there; number_is = number_is ∙ sym here })
        (λ apart. kept_found n apart (are.found n r (sym (same n apart) ∙ e) live))
        (same_or_not n number)

    own_waits : IsWaiter new.slots new.waits.places own
    own_waits = record {
      has = record { place = place; slot = slot; there = there; number_is = number_is };
      since = subst (IsSince since) (sym waits_for) since_is;
    }

    none_of_number : (ws : List Waiter) → AllByRecursion (IsWaiter old.slots old.waits.places) ws → AllByRecursion (λ w. w.thread ≢ number) ws
    none_of_number [] all = tt
    none_of_number (w ∷ ws) all = (
      (λ equal. apart_number all.0.has.place all.0.has.slot all.0.has.there (waiter_apart w all.0) (all.0.has.number_is ∙ equal)),
      none_of_number ws all.1,
    )

    all_wait : (p : ℕ) (s : Slot) → get new.slots p ≡ Some s → IsSome (at_place new.waits.places p) → IsTrue (waits (waiting ++ own ∷ []) s.number)
    all_wait p s e some = waits_append waiting (own ∷ []) s.number ∙ ⊎_elim
        (λ (here : p ≡ place). or_right (waits waiting s.number) (waits (own ∷ []) s.number) (ap (waits (own ∷ [])) (own_of p s e here) ∙ waits_one own))
        (λ apart.
        or_left (waits waiting s.number) (waits (own ∷ []) s.number)
        (are.all p s (sym (others.slots p apart) ∙ e) (subst (λ (o : Option Wait). IsSome o) (others.waits p apart) some)))
        (same_or_not p place)

    pub are_joined : AreThreads tree new.slots new.waits.places more (waiting ++ own ∷ [])
    are_joined = record {
      each = each_slot;
      one = one_slot;
      vacant = vacant_slot;
      found = found_slot;
      waiters = All-append (IsWaiter new.slots new.waits.places) waiting (own ∷ []) kept_waiters (own_waits, tt);
      once = once_append waiting own are.once (none_waits waiting number (none_of_number waiting are.waiters));
      all = all_wait;
    }

  -- ---- a thread leaves it

  module _ (gone : get new.slots place ≡ None) (none : at_place new.waits.places place ≡ None) (ended : slice_get more number ≡ Some source.Ended) where
    not_here : (p : ℕ) (s : Slot) → get new.slots p ≡ Some s → p ≢ place
    not_here p s e here = not_vacant new.slots p s (ap (get new.slots) here ∙ gone) e

    no_life : (r : source.Rest) → slice_get more number ≡ Some r → IsTrue (lives r) → ⊥
    no_life r e live =
        let both : ◌≡◌ {A = Option source.Rest} (Some source.Ended) (Some r) = sym ended ∙ e in
        let is : source.Ended ≡ r = cc in
        let no : false ≡ true = subst (λ (x : source.Rest). lives x ≡ true) (sym is) live in
        absurd (cc)

    pub are_without : AreThreads tree new.slots new.waits.places more waiting
    are_without = record {
      each = λ p s e. kept_slot p s e (not_here p s e);
      one = λ p q s t e f equal.
          are.one p q s t (sym (others.slots p (not_here p s e)) ∙ e) (sym (others.slots q (not_here q t f)) ∙ f) equal;
      vacant = λ p e. ⊎_elim
          (λ (here : p ≡ place). ap (at_place new.waits.places) here ∙ none)
          (λ apart. others.waits p apart ∙ are.vacant p (sym (others.slots p apart) ∙ e))
          (same_or_not p place);
      found = λ n r e live. ⊎_elim
          (λ (here : n ≡ number). absurd (no_life r (ap (slice_get more) (sym here) ∙ e) live))
          (λ apart. kept_found n apart (are.found n r (sym (same n apart) ∙ e) live))
          (same_or_not n number);
      waiters = kept_waiters;
      once = are.once;
      all = λ p s e some. are.all p s (sym (others.slots p (not_here p s e)) ∙ e) (subst (λ (o : Option Wait). IsSome o) (others.waits p (not_here p s e)) some);
    }
