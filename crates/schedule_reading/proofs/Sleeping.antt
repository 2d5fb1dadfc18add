-- Those who sleep: by the places, and by those that wait.
use Rattle.schedule_reading.proofs.Common.{◌≡◌, ℕ, zero, suc, ◌<◌, ◌≤◌, ◌||◌, Bool, true, false, List, [], ◌∷◌, length, Option, Some, None, IsSome, refl, sym, ap, ◌∙◌, subst, arith, nat_eq, cond, All, Contains, filter_map, map, slice_get, slice_index_or, AllByRecursion, cons_option, eqb-true, Exchange, wakes_at, ProgramTree, IsLeastOf, Waiter, waits, Slab, get, Wait, Rest, Slot, AreThreads, IsSince, IsWaiter, RestsAs, WaitsAs, at_place}
use Rattle.std.proofs.lemmas.List.Elements.{All-from_recursion}
use Rattle.c_mean.specs.ModelledCalls as table
use Rattle.c_mean.specs.World as source
use Rattle.choice_rules.specs.Readiness as rules
use Rattle.thread_waits.specs.Waiting as waits_of
use Rattle.schedule_reading.specs.declared.threads.Rest.TheVariants as rest
use Rattle.schedule_reading.proofs.Any.{slot_at, rest_is}

-- ---- lists

later : (x : ℕ) (xs : List ℕ) (y : ℕ) → Contains xs y → Contains (x ∷ xs) y
later x xs y c = (suc c.0, omega (arith, c.1), c.2)

head : (x : ℕ) (xs : List ℕ) (y : ℕ) → x ≡ y → Contains (x ∷ xs) y
head x xs y e = (0, omega arith, e)

module _ {X : Type 0} (h : X → Option ℕ) where
  given_on : (time : ℕ) (x : X) (xs : List X) (o : Option ℕ) → Contains (filter_map h xs) time → Contains (cons_option o (filter_map h xs)) time
  given_on time x xs None c = c
  given_on time x xs (Some t) c = later t (filter_map h xs) time c

  given_here : (time : ℕ) (xs : List X) (o : Option ℕ) → o ≡ Some time → Contains (cons_option o (filter_map h xs)) time
  given_here time xs None e = absurd (cc)
  given_here time xs (Some t) e = head t (filter_map h xs) time (cc)

  none_on : (x : X) (xs : List X) (o : Option ℕ) → o ≡ None → filter_map h xs ≡ [] → cons_option o (filter_map h xs) ≡ []
  none_on x xs None e rest = rest
  none_on x xs (Some t) e rest = absurd (cc)

  gives_none : (xs : List X) → AllByRecursion (λ x. h x ≡ None) xs → filter_map h xs ≡ []
  gives_none [] all = refl
  gives_none (x ∷ xs) all = none_on x xs (h x) all.0 (gives_none xs all.1)

  above_on : (time : ℕ) (x : X) (xs : List X) (o : Option ℕ) → ((t : ℕ) → o ≡ Some t → time ≤ t) → AllByRecursion (λ t. time ≤ t) (filter_map h xs) → AllByRecursion (λ t. time ≤ t) (cons_option o (filter_map h xs))
  above_on time x xs None above rest = rest
  above_on time x xs (Some t) above rest = (above t refl, rest)

  gives_above : (time : ℕ) (xs : List X) → AllByRecursion (λ x. (t : ℕ) → h x ≡ Some t → time ≤ t) xs → AllByRecursion (λ t. time ≤ t) (filter_map h xs)
  gives_above time [] all = tt
  gives_above time (x ∷ xs) all = above_on time x xs (h x) all.0 (gives_above time xs all.1)

-- an element of what a function makes of options
pub at_map : {X : Type 0} (f : Option X → Option ℕ) (xs : List (Option X)) (k : ℕ) (d : Option ℕ) → k < length (map f xs) → slice_index_or (map f xs) k d ≡ f (slice_index_or xs k None)
at_map f [] k d h = absurd (omega arith)
at_map f (x ∷ xs) zero d h = refl
at_map f (x ∷ xs) (suc k) d h = at_map f xs k d (omega (arith, h))

map_has : {X : Type 0} (f : Option X → Option ℕ) → f None ≡ None → (xs : List (Option X)) (k time : ℕ) → f (slice_index_or xs k None) ≡ Some time → Contains (map f xs) (Some time)
map_has f none [] k time e = absurd (let no : None ≡ Some time = sym none ∙ e in cc)
map_has f none (x ∷ xs) zero time e = (0, omega arith, e)
map_has f none (x ∷ xs) (suc k) time e = let c = map_has f none xs k time e in (suc c.0, omega (arith, c.1), c.2)

none_at : {X : Type 0} (f : Option X → Option ℕ) → f None ≡ None → (xs : List (Option X)) (k : ℕ) → All (λ x. f x ≡ None) xs → f (slice_index_or xs k None) ≡ None
none_at f none [] k all = none
none_at f none (x ∷ xs) zero all = all 0 None (omega arith)
none_at f none (x ∷ xs) (suc k) all = none_at f none xs k (λ j d h. all (suc j) d (omega (arith, h)))

-- ---- threads

module _ (tree : ProgramTree) (slots : Slab Slot) (places : List (Option Wait)) (rests : List source.Rest) (waiting : List Waiter) (are : AreThreads tree slots places rests waiting) where
  module _ (f : Option Wait → Option ℕ) (h : Waiter → Option ℕ) (none : f None ≡ None) (agree : (w : Waiter) (is : IsWaiter slots places w) → h w ≡ f (at_place places is.has.place)) where
    all_none : (xs : List Waiter) → AllByRecursion (IsWaiter slots places) xs → All (λ wait. f wait ≡ None) places → AllByRecursion (λ w. h w ≡ None) xs
    all_none [] all nobody = tt
    all_none (w ∷ xs) all nobody = (agree w all.0 ∙ none_at f none places all.0.has.place nobody, all_none xs all.1 nobody)

    pub nobody_sleeps : All (λ wait. f wait ≡ None) places → filter_map h waiting ≡ []
    nobody_sleeps nobody = gives_none h waiting (all_none waiting are.waiters nobody)

    some_of : (o : Option Wait) (time : ℕ) → f o ≡ Some time → o ≡ None → ⊥
    some_of o time e is = let no : None ≡ Some time = sym none ∙ ap f (sym is) ∙ e in absurd (cc)

    is_some : (o : Option Wait) → (o ≡ None → ⊥) → IsSome o
    is_some None some = absurd (some refl)
    is_some (Some wait) some = refl

    has_with : (place time : ℕ) (slot : Slot) → get slots place ≡ Some slot → f (at_place places place) ≡ Some time → (xs : List Waiter) → AllByRecursion (IsWaiter slots places) xs → waits xs slot.number ≡ true → Contains (filter_map h xs) time
    has_with place time slot there e [] all w = absurd (cc)
    has_with place time slot there e (x ∷ xs) all w = by (nat_eq x.thread slot.number) refl (has_with place time slot there e xs all.1) where
      by : (b : Bool) → nat_eq x.thread slot.number ≡ b → (waits xs slot.number ≡ true → Contains (filter_map h xs) time) → Contains (filter_map h (x ∷ xs)) time
      by true same more =
          let here : all.0.has.place ≡ place = are.one all.0.has.place place all.0.has.slot slot all.0.has.there there (all.0.has.number_is ∙ eqb-true x.thread slot.number same) in
          given_here h time xs (h x) (agree x all.0 ∙ ap (λ (k : ℕ). f (at_place places k)) here ∙ e)
      by false other more =
          let rest : waits xs slot.number ≡ true = subst (λ (b : Bool). (b || waits xs slot.number) ≡ true) other w in
          given_on h time x xs (h x) (more rest)

    has_time : (place time : ℕ) → f (at_place places place) ≡ Some time → Contains (filter_map h waiting) time
    has_time place time e =
        let some = some_of (at_place places place) time e in
        let slot = slot_at tree slots places rests waiting are place some in
        has_with place time slot.0 slot.1 e waiting are.waiters (are.all place slot.0 slot.1 (is_some (at_place places place) some))

    all_above : (time : ℕ) → ((other : ℕ) → Contains (map f places) (Some other) → time ≤ other) → (xs : List Waiter) → AllByRecursion (IsWaiter slots places) xs → AllByRecursion (λ w. (t : ℕ) → h w ≡ Some t → time ≤ t) xs
    all_above time least [] all = tt
    all_above time least (w ∷ xs) all =
        ((λ t e. least t (map_has f none places all.0.has.place t (sym (agree w all.0) ∙ e))), all_above time least xs all.1)

    pub least_sleeps : (time : ℕ) → Contains (map f places) (Some time) → ((other : ℕ) → Contains (map f places) (Some other) → time ≤ other) → IsLeastOf (filter_map h waiting) time
    least_sleeps time c least = record {
      one = has_time c.0 time (sym (at_map f places c.0 (Some time) c.1) ∙ c.2);
      least = All-from_recursion (λ t. time ≤ t) (filter_map h waiting) (gives_above h time waiting (all_above time least waiting are.waiters));
    }

  -- ---- where nobody is ready

  asleep : (b : Bool) (o : Option ℕ) → b ≡ false → cond b None o ≡ o
  asleep true o e = absurd (cc)
  asleep false o e = refl

  wakes_by : (caps : List ℕ) (x : Exchange) (clock since : ℕ) (r : Rest) (there : source.Rest) (o : Option Wait) → RestsAs tree r there → WaitsAs r o → IsSince since o → waits_of.is_ready_in caps x clock o ≡ false →
      rules.wakes since (Some there) ≡ waits_of.sleeps_in caps x clock o
  wakes_by caps x clock since (rest.Fresh function argument) there o rests waits_as is unready = rw (rests, waits_as) refl
  wakes_by caps x clock since (rest.Blocked block thread) there o rests waits_as is unready =
      let same : waits_as.0 ≡ since = subst (IsSince since) waits_as.1 is in
      let not_yet : table.is_ready caps x clock waits_as.0 block ≡ false = ap (λ (w : Option Wait). waits_of.is_ready_in caps x clock w) (sym waits_as.1) ∙ unready in
      rw (rests, waits_as.1) (ap (λ (n : ℕ). wakes_at n block) (sym same) ∙ sym (asleep (table.is_ready caps x clock waits_as.0 block) (wakes_at waits_as.0 block) not_yet))
  wakes_by caps x clock since rest.Away there o rests waits_as is unready = absurd (subst (IsSince since) waits_as is)

  pub wakes_agrees : (caps : List ℕ) (x : Exchange) (clock : ℕ) → ((place : ℕ) → waits_of.is_ready_in caps x clock (at_place places place) ≡ false) → (w : Waiter) (is : IsWaiter slots places w) →
      rules.wakes w.since (slice_get rests w.thread) ≡ waits_of.sleeps_in caps x clock (at_place places is.has.place)
  wakes_agrees caps x clock unready w is =
      let r = rest_is tree slots places rests waiting are w is in
      let s = are.each is.has.place is.has.slot is.has.there in
      ap (λ (o : Option source.Rest). rules.wakes w.since o) r.1 ∙ wakes_by caps x clock w.since is.has.slot.rest r.0 (at_place places is.has.place) r.2 s.waits is.since (unready is.has.place)
