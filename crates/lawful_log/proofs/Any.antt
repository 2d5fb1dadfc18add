-- What holds of some live thread holds of some thread that waits, and the other way round.
use Rattle.lawful_log.proofs.Common.{◌≡◌, ℕ, ◌+◌, ◌≤◌, Bool, true, nat_eq, List, [], ◌∷◌, Some, None, refl, sym, ap, ◌∙◌, arith, ⊎_elim, AllByRecursion, list_any, cases_eq, cond-true, cond-false, eq-eqb, ne_eqb, eqb-true, Waiter, waits, either, RiseBetween, IsNumbered, Thread, World, first_with, thread_of, IsWaiting, AreWaiting, or_right, or_left, false}
use Rattle.lawful_log.proofs.Kept.{is_some_of}

both_ways : (a b : Bool) → (a ≡ true → b ≡ true) → (b ≡ true → a ≡ true) → a ≡ b
both_ways true b there back = sym (there refl)
both_ways false true there back = back refl
both_ways false false there back = refl

-- a list has an element with P that passes the test
pub record Has {X : Type 0} (P : X → Type 0) (test : X → Bool) : Type 0 where
  pub one : X
  pub holds : P one
  pub passes : test one ≡ true

pub any_has : {X : Type 0} (P : X → Type 0) (test : X → Bool) (xs : List X) → AllByRecursion P xs → list_any test xs ≡ true → Has P test
any_has P test [] all e = absurd (cc)
any_has P test (x ∷ xs) all e = either (test x) (list_any test xs) e _ (λ yes. record { one = x; holds = all.0; passes = yes }) (λ later. any_has P test xs all.1 later)

-- a thread of a list, found by its number
above_first : (number from next : ℕ) (threads : List Thread) (t : Thread) → RiseBetween from next threads → first_with number threads ≡ Some t → from ≤ number
above_first number from next [] t rise found = absurd (cc)
above_first number from next (u ∷ us) t rise found = ⊎_elim
    (λ (same : u.number ≡ number). omega (arith, rise.0, same))
    (λ apart. let later = above_first number (u.number + 1) next us t rise.1 (sym (cond-false (nat_eq u.number number) (Some u) (first_with number us) (ne_eqb u.number number apart)) ∙ found) in omega (arith, rise.0, later))
    (cases_eq u.number number)

pub record FoundWith (threads : List Thread) (test : Thread → Bool) : Type 0 where
  pub thread : Thread
  pub found : first_with thread.number threads ≡ Some thread
  pub passes : test thread ≡ true

later_found : (u : Thread) (us : List Thread) (next : ℕ) (test : Thread → Bool) → RiseBetween (u.number + 1) next us → FoundWith us test → FoundWith (u ∷ us) test
later_found u us next test rise f =
    let above = above_first f.thread.number (u.number + 1) next us f.thread rise f.found in
    record { thread = f.thread; found = cond-false (nat_eq u.number f.thread.number) (Some u) (first_with f.thread.number us) (ne_eqb u.number f.thread.number (λ e. omega (arith, above, e))) ∙ f.found; passes = f.passes }

pub any_found : (from next : ℕ) (threads : List Thread) (test : Thread → Bool) → RiseBetween from next threads → list_any test threads ≡ true → FoundWith threads test
any_found from next [] test rise e = absurd (cc)
any_found from next (u ∷ us) test rise e = either (test u) (list_any test us) e _
    (λ yes. record { thread = u; found = cond-true (nat_eq u.number u.number) (Some u) (first_with u.number us) (eq-eqb u.number u.number refl); passes = yes })
    (λ later. later_found u us next test rise.1 (any_found (u.number + 1) next us test rise.1 later))

pub found_any : (number : ℕ) (threads : List Thread) (t : Thread) (test : Thread → Bool) → first_with number threads ≡ Some t → test t ≡ true → list_any test threads ≡ true
found_any number [] t test found passes = absurd (cc)
found_any number (u ∷ us) t test found passes = ⊎_elim
    (λ (same : u.number ≡ number).
    let here : Some u ≡ Some t = sym (cond-true (nat_eq u.number number) (Some u) (first_with number us) (eq-eqb u.number number same)) ∙ found in
    let is : u ≡ t = cc in or_left (test u) (list_any test us) (ap test is ∙ passes))
    (λ apart. or_right (test u) (list_any test us) (found_any number us t test (sym (cond-false (nat_eq u.number number) (Some u) (first_with number us) (ne_eqb u.number number apart)) ∙ found) passes))
    (cases_eq u.number number)

-- the waiter of a number, and that a test passes for the list where it does for the waiter
pub record WaiterOf (P : Waiter → Type 0) (waiting : List Waiter) (number : ℕ) : Type 0 where
  pub waiter : Waiter
  pub holds : P waiter
  pub thread_is : waiter.thread ≡ number
  pub settles : (test : Waiter → Bool) → test waiter ≡ true → list_any test waiting ≡ true

pub waiter_of : (P : Waiter → Type 0) (waiting : List Waiter) (number : ℕ) → AllByRecursion P waiting → waits waiting number ≡ true → WaiterOf P waiting number
waiter_of P [] number all e = absurd (cc)
waiter_of P (x ∷ waiting) number all e = either (nat_eq x.thread number) (waits waiting number) e _
    (λ yes. record { waiter = x; holds = all.0; thread_is = eqb-true x.thread number yes; settles = λ test passes. or_left (test x) (list_any test waiting) passes })
    (λ later. let rest = waiter_of P waiting number all.1 later in
    record { waiter = rest.waiter; holds = rest.holds; thread_is = rest.thread_is; settles = λ test passes. or_right (test x) (list_any test waiting) (rest.settles test passes) })

module _ (w : World) (waiting : List Waiter) (numbered : IsNumbered w) (between : w.running ≡ None) (are : AreWaiting w waiting) where
  -- the waiter of a live thread
  pub waiter_of_live : (number : ℕ) (t : Thread) → thread_of w number ≡ Some t → WaiterOf (IsWaiting w) waiting number
  waiter_of_live number t live =
      waiter_of (IsWaiting w) waiting number are.each
      (are.all number (λ e. let no : None ≡ Some number = sym between ∙ e in absurd (cc)) (is_some_of (thread_of w number) t live))

  pub any_same : (test : Thread → Bool) (other : Waiter → Bool) → ((x : Waiter) (v : IsWaiting w x) → test v.thread ≡ other x) → list_any test w.threads ≡ list_any other waiting
  any_same test other same = both_ways (list_any test w.threads) (list_any other waiting)
      (λ e.
      let f = any_found 0 w.next w.threads test numbered e in
      let x = waiter_of_live f.thread.number f.thread f.found in
      let both : Some x.holds.thread ≡ Some f.thread = sym x.holds.live ∙ ap (λ (n : ℕ). thread_of w n) x.thread_is ∙ f.found in
      let is : x.holds.thread ≡ f.thread = cc in
      x.settles other (sym (same x.waiter x.holds) ∙ ap test is ∙ f.passes))
      (λ e.
      let h = any_has (IsWaiting w) other waiting are.each e in
      found_any h.one.thread w.threads h.holds.thread test h.holds.live (same h.one h.holds ∙ h.passes))
