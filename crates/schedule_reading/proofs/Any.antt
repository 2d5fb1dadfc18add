-- What some thread does that waits: by the places, and by those that wait.
use Rattle.schedule_reading.proofs.Common.{◌≡◌, ℕ, zero, suc, ◌||◌, ◌&&◌, not, Bool, true, false, List, [], ◌∷◌, Option, Some, None, IsSome, refl, sym, ap, ◌∙◌, subst, nat_eq, slice_get, slice_index_or, AllByRecursion, list_any, eqb-true, Exchange, Fresh, Blocked, ProgramTree, Waiter, waits, Slab, get, Wait, Rest, Slot, AreThreads, IsSince, IsWaiter, RestsAs, WaitsAs, at_place, or_right, or_left}
use Rattle.c_mean.specs.World as source
use Rattle.choice_rules.specs.Readiness as rules
use Rattle.thread_waits.specs.Waiting as waits_of
use Rattle.schedule_reading.specs.declared.threads.Rest.TheVariants as rest

both_ways : (a b : Bool) → (a ≡ true → b ≡ true) → (b ≡ true → a ≡ true) → a ≡ b
both_ways true b there back = sym (there refl)
both_ways false true there back = back refl
both_ways false false there back = refl

-- ---- lists

-- an element of a list that passes
record Found {X : Type 0} (P : X → Type 0) (test : X → Bool) : Type 0 where
  pub element : X
  pub has : P element
  pub passes : test element ≡ true

found_by : {X : Type 0} (P : X → Type 0) (test : X → Bool) (x : X) (xs : List X) (b : Bool) → test x ≡ b → P x → (list_any test xs ≡ true → Found P test) → (b || list_any test xs) ≡ true → Found P test
found_by P test x xs true e p rest h = record { element = x; has = p; passes = e }
found_by P test x xs false e p rest h = rest h

found : {X : Type 0} (P : X → Type 0) (test : X → Bool) (xs : List X) → AllByRecursion P xs → list_any test xs ≡ true → Found P test
found P test [] all h = absurd (cc)
found P test (x ∷ xs) all h = found_by P test x xs (test x) refl all.0 (found P test xs all.1) h

-- a place at which a test passes
record Place {X : Type 0} (test : Option X → Bool) (xs : List (Option X)) : Type 0 where
  pub place : ℕ
  pub passes : test (slice_index_or xs place None) ≡ true

place_by : {X : Type 0} (test : Option X → Bool) (x : Option X) (xs : List (Option X)) (b : Bool) → test x ≡ b → (list_any test xs ≡ true → Place test xs) → (b || list_any test xs) ≡ true → Place test (x ∷ xs)
place_by test x xs true e rest h = record { place = 0; passes = e }
place_by test x xs false e rest h = let p = rest h in record { place = suc p.place; passes = p.passes }

place_of : {X : Type 0} (test : Option X → Bool) (xs : List (Option X)) → list_any test xs ≡ true → Place test xs
place_of test [] h = absurd (cc)
place_of test (x ∷ xs) h = place_by test x xs (test x) refl (place_of test xs) h

pub at_any : {X : Type 0} (test : Option X → Bool) → test None ≡ false → (xs : List (Option X)) (k : ℕ) → test (slice_index_or xs k None) ≡ true → list_any test xs ≡ true
at_any test none [] k h = absurd (let no : false ≡ true = sym none ∙ h in cc)
at_any test none (x ∷ xs) zero h = or_left (test x) (list_any test xs) h
at_any test none (x ∷ xs) (suc k) h = or_right (test x) (list_any test xs) (at_any test none xs k h)

-- ---- threads

module _ (tree : ProgramTree) (slots : Slab Slot) (places : List (Option Wait)) (rests : List source.Rest) (waiting : List Waiter) (are : AreThreads tree slots places rests waiting) where
  some_slot : (place : ℕ) (o : Option Slot) → get slots place ≡ o → (at_place places place ≡ None → ⊥) → (slot : Slot) × (get slots place ≡ Some slot)
  some_slot place None e some = absurd (some (are.vacant place e))
  some_slot place (Some slot) e some = (slot, e)

  pub slot_at : (place : ℕ) → (at_place places place ≡ None → ⊥) → (slot : Slot) × (get slots place ≡ Some slot)
  slot_at place some = some_slot place (get slots place) refl some

  is_some : {X : Type 0} (o : Option X) → (o ≡ None → ⊥) → IsSome o
  is_some None some = absurd (some refl)
  is_some (Some x) some = refl

  -- ---- tests

  module _ (f : Option Wait → Bool) (h : Waiter → Bool) (none : f None ≡ false) (agree : (w : Waiter) (is : IsWaiter slots places w) → h w ≡ f (at_place places is.has.place)) where
    passes_some : (o : Option Wait) → f o ≡ true → o ≡ None → ⊥
    passes_some o passes e = let no : true ≡ false = sym passes ∙ ap f e ∙ none in absurd (cc)

    -- by the places, and back
    back : list_any h waiting ≡ true → list_any f places ≡ true
    back e =
        let w = found (IsWaiter slots places) h waiting are.waiters e in
        at_any f none places w.has.has.place (sym (agree w.element w.has) ∙ w.passes)

    any_with : (place : ℕ) (slot : Slot) → get slots place ≡ Some slot → f (at_place places place) ≡ true → (xs : List Waiter) → AllByRecursion (IsWaiter slots places) xs → waits xs slot.number ≡ true → list_any h xs ≡ true
    any_with place slot there passes [] all e = absurd (cc)
    any_with place slot there passes (w ∷ xs) all e = by (nat_eq w.thread slot.number) refl (any_with place slot there passes xs all.1) where
      by : (b : Bool) → nat_eq w.thread slot.number ≡ b → (waits xs slot.number ≡ true → list_any h xs ≡ true) → list_any h (w ∷ xs) ≡ true
      by true same more =
          let here : all.0.has.place ≡ place = are.one all.0.has.place place all.0.has.slot slot all.0.has.there there (all.0.has.number_is ∙ eqb-true w.thread slot.number same) in
          or_left (h w) (list_any h xs) (agree w all.0 ∙ ap (λ (k : ℕ). f (at_place places k)) here ∙ passes)
      by false other more =
          let rest : waits xs slot.number ≡ true = subst (λ (b : Bool). (b || waits xs slot.number) ≡ true) other e in
          or_right (h w) (list_any h xs) (more rest)

    there : list_any f places ≡ true → list_any h waiting ≡ true
    there e =
        let p = place_of f places e in
        let some = passes_some (at_place places p.place) p.passes in
        let slot = slot_at p.place some in
        any_with p.place slot.0 slot.1 p.passes waiting are.waiters (are.all p.place slot.0 slot.1 (is_some (at_place places p.place) some))

    pub any_same : list_any f places ≡ list_any h waiting
    any_same = both_ways (list_any f places) (list_any h waiting) there back

  -- ---- what a waiter's thread does

  pub rest_is : (w : Waiter) (is : IsWaiter slots places w) → (there : source.Rest) × (slice_get rests w.thread ≡ Some there) × RestsAs tree is.has.slot.rest there
  rest_is w is =
      let s = are.each is.has.place is.has.slot is.has.there in
      (s.there, ap (λ (n : ℕ). slice_get rests n) (sym is.has.number_is) ∙ s.is_there, s.rests_as)

  ready_by : (caps : List ℕ) (x : Exchange) (clock since : ℕ) (r : Rest) (there : source.Rest) (o : Option Wait) → RestsAs tree r there → WaitsAs r o → IsSince since o →
      rules.is_ready_at caps x clock since (Some there) ≡ waits_of.is_ready_in caps x clock o
  ready_by caps x clock since (rest.Fresh function argument) there o rests waits_as is =
      rw (rests, waits_as) refl
  ready_by caps x clock since (rest.Blocked block thread) there o rests waits_as is =
      let same : waits_as.0 ≡ since = subst (IsSince since) waits_as.1 is in
      rw (rests, waits_as.1) (ap (λ (n : ℕ). waits_of.is_ready_for caps x clock (Wait.At block n)) (sym same))
  ready_by caps x clock since rest.Away there o rests waits_as is = absurd (subst (IsSince since) waits_as is)

  pub ready_agrees : (caps : List ℕ) (x : Exchange) (clock : ℕ) (w : Waiter) (is : IsWaiter slots places w) →
      rules.is_ready_at caps x clock w.since (slice_get rests w.thread) ≡ waits_of.is_ready_in caps x clock (at_place places is.has.place)
  ready_agrees caps x clock w is =
      let r = rest_is w is in
      let s = are.each is.has.place is.has.slot is.has.there in
      ap (λ (o : Option source.Rest). rules.is_ready_at caps x clock w.since o) r.1 ∙ ready_by caps x clock w.since is.has.slot.rest r.0 (at_place places is.has.place) r.2 s.waits is.since

  -- some thread is ready, by the places and by those that wait
  pub any_ready_same : (caps : List ℕ) (x : Exchange) (clock : ℕ) →
      list_any (waits_of.is_ready_in caps x clock) places ≡ list_any (λ w. rules.is_ready_at caps x clock w.since (slice_get rests w.thread)) waiting
  any_ready_same caps x clock =
      any_same (waits_of.is_ready_in caps x clock) (λ w. rules.is_ready_at caps x clock w.since (slice_get rests w.thread)) refl (ready_agrees caps x clock)

  -- ---- at `accept`

  accept_by : (since : ℕ) (r : Rest) (there : source.Rest) (o : Option Wait) → RestsAs tree r there → WaitsAs r o → IsSince since o → rules.is_accepting (Some there) ≡ waits_of.is_at_accept o
  accept_by since (rest.Fresh function argument) there o rests waits_as is = rw (rests, waits_as) refl
  accept_by since (rest.Blocked block thread) there o rests waits_as is = rw (rests, waits_as.1) refl
  accept_by since rest.Away there o rests waits_as is = absurd (subst (IsSince since) waits_as is)

  pub accept_agrees : (w : Waiter) (is : IsWaiter slots places w) → rules.is_accepting (slice_get rests w.thread) ≡ waits_of.is_at_accept (at_place places is.has.place)
  accept_agrees w is =
      let r = rest_is w is in
      let s = are.each is.has.place is.has.slot is.has.there in
      ap (λ (o : Option source.Rest). rules.is_accepting o) r.1 ∙ accept_by w.since is.has.slot.rest r.0 (at_place places is.has.place) r.2 s.waits is.since

  -- some thread elsewhere than at `accept` is ready
  pub any_elsewhere_same : (caps : List ℕ) (x : Exchange) (clock : ℕ) →
      list_any (λ wait. waits_of.is_ready_in caps x clock wait && not (waits_of.is_at_accept wait)) places
      ≡ list_any (λ w. rules.is_ready_at caps x clock w.since (slice_get rests w.thread) && not (rules.is_accepting (slice_get rests w.thread))) waiting
  any_elsewhere_same caps x clock =
      any_same (λ wait. waits_of.is_ready_in caps x clock wait && not (waits_of.is_at_accept wait))
      (λ w. rules.is_ready_at caps x clock w.since (slice_get rests w.thread) && not (rules.is_accepting (slice_get rests w.thread))) refl
      (λ w is. ap (λ (b : Bool). b && not (rules.is_accepting (slice_get rests w.thread))) (ready_agrees caps x clock w is)
      ∙ ap (λ (b : Bool). waits_of.is_ready_in caps x clock (at_place places is.has.place) && not b) (accept_agrees w is))
