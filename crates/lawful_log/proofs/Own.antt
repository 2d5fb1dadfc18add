-- What a step of the world leaves of the running thread, and a thread that it starts.
use Rattle.lawful_log.proofs.Common.{◌≡◌, ◌≢◌, ℕ, ◌+◌, ◌<◌, ◌≤◌, Bool, true, false, nat_eq, not, List, [], ◌∷◌, ◌++◌, Option, Some, None, refl, sym, ap, ◌∙◌, cond, arith, subst, ⊎_elim, cond_both, cases_eq, cond-true, cond-false, eq-eqb, ne_eqb, RiseBetween, IsNumbered, Blocked, Thread, World, Setting, first_with, thread_of, replaced, without, resumed, Move, Goes, Puts, Spawns, Blocks, Ends, Stops, Wrong, step, RiseBetween-bound, first_with-number}
use Rattle.machine_world.proofs.StepCases.{Ways, on_printed, on_step, row_for}

-- ---- threads by number

-- a live thread's number is below the next one
pub found_below : (number from next : ℕ) (threads : List Thread) (t : Thread) → RiseBetween from next threads → first_with number threads ≡ Some t → number < next
found_below number from next [] t rise found = absurd (cc)
found_below number from next (u ∷ us) t rise found = ⊎_elim
    (λ (same : u.number ≡ number). let above = RiseBetween-bound (u.number + 1) next us rise.1 in omega (arith, same, above))
    (λ apart. found_below number (u.number + 1) next us t rise.1 (sym (cond-false (nat_eq u.number number) (Some u) (first_with number us) (ne_eqb u.number number apart)) ∙ found))
    (cases_eq u.number number)

pub none_at_next : (number from next : ℕ) (threads : List Thread) → RiseBetween from next threads → next ≤ number → first_with number threads ≡ None
none_at_next number from next threads rise above = none_by (first_with number threads) refl where
  none_by : (found : Option Thread) → first_with number threads ≡ found → first_with number threads ≡ None
  none_by None e = e
  none_by (Some t) e = let below = found_below number from next threads t rise e in absurd (omega (arith, below, above))

-- ---- the thread of a number after a change

found_replaced : (new : Thread) (threads : List Thread) (old : Thread) → first_with new.number threads ≡ Some old → first_with new.number (replaced new threads) ≡ Some new
found_replaced new [] old found = absurd (cc)
found_replaced new (t ∷ ts) old found = ⊎_elim
    (λ (same : t.number ≡ new.number).
    let test : nat_eq t.number new.number ≡ true = eq-eqb t.number new.number same in
    ap (λ (u : Thread). first_with new.number (u ∷ replaced new ts)) (cond-true (nat_eq t.number new.number) new t test)
    ∙ cond-true (nat_eq new.number new.number) (Some new) (first_with new.number (replaced new ts)) (eq-eqb new.number new.number refl))
    (λ apart.
    let test : nat_eq t.number new.number ≡ false = ne_eqb t.number new.number apart in
    let later : first_with new.number ts ≡ Some old = sym (cond-false (nat_eq t.number new.number) (Some t) (first_with new.number ts) test) ∙ found in
    ap (λ (u : Thread). first_with new.number (u ∷ replaced new ts)) (cond-false (nat_eq t.number new.number) new t test)
    ∙ cond-false (nat_eq t.number new.number) (Some t) (first_with new.number (replaced new ts)) test
    ∙ found_replaced new ts old later)
    (cases_eq t.number new.number)

none_replaced : (number : ℕ) (new : Thread) (threads : List Thread) → number ≢ new.number → first_with number threads ≡ None → first_with number (replaced new threads) ≡ None
none_replaced number new [] apart none = refl
none_replaced number new (t ∷ ts) apart none = ⊎_elim
    (λ (same : t.number ≡ number). absurd (let here : Some t ≡ None = sym (cond-true (nat_eq t.number number) (Some t) (first_with number ts) (eq-eqb t.number number same)) ∙ none in cc))
    (λ differ.
    let later : first_with number ts ≡ None = sym (cond-false (nat_eq t.number number) (Some t) (first_with number ts) (ne_eqb t.number number differ)) ∙ none in
    cond_both (nat_eq t.number new.number) new t (λ (u : Thread). first_with number (u ∷ replaced new ts) ≡ None)
    (λ _. cond-false (nat_eq new.number number) (Some new) (first_with number (replaced new ts)) (ne_eqb new.number number (λ e. apart (sym e))) ∙ none_replaced number new ts apart later)
    (λ _. cond-false (nat_eq t.number number) (Some t) (first_with number (replaced new ts)) (ne_eqb t.number number differ) ∙ none_replaced number new ts apart later))
    (cases_eq t.number number)

found_appended : (new : Thread) (threads : List Thread) → first_with new.number threads ≡ None → first_with new.number (threads ++ new ∷ []) ≡ Some new
found_appended new [] none = cond-true (nat_eq new.number new.number) (Some new) None (eq-eqb new.number new.number refl)
found_appended new (t ∷ ts) none = ⊎_elim
    (λ (same : t.number ≡ new.number). absurd (let here : Some t ≡ None = sym (cond-true (nat_eq t.number new.number) (Some t) (first_with new.number ts) (eq-eqb t.number new.number same)) ∙ none in cc))
    (λ differ.
    let test : nat_eq t.number new.number ≡ false = ne_eqb t.number new.number differ in
    let later : first_with new.number ts ≡ None = sym (cond-false (nat_eq t.number new.number) (Some t) (first_with new.number ts) test) ∙ none in
    cond-false (nat_eq t.number new.number) (Some t) (first_with new.number (ts ++ new ∷ [])) test ∙ found_appended new ts later)
    (cases_eq t.number new.number)

none_without : (number : ℕ) (threads : List Thread) → first_with number (without number threads) ≡ None
none_without number [] = refl
none_without number (t ∷ ts) = ⊎_elim
    (λ (same : t.number ≡ number).
    ap (λ (b : Bool). first_with number (cond (not b) (t ∷ without number ts) (without number ts))) (eq-eqb t.number number same) ∙ none_without number ts)
    (λ differ.
    let test : nat_eq t.number number ≡ false = ne_eqb t.number number differ in
    ap (λ (b : Bool). first_with number (cond (not b) (t ∷ without number ts) (without number ts))) test
    ∙ cond-false (nat_eq t.number number) (Some t) (first_with number (without number ts)) test ∙ none_without number ts)
    (cases_eq t.number number)

-- ---- what a move leaves of the running thread

-- a thread is blocked since that clock
abbrev pub IsBlockedSince : Option Blocked → ℕ → Type 0
IsBlockedSince None clock = ⊥
IsBlockedSince (Some blocked) clock = blocked.since ≡ clock

pub record StandsBlocked (after : World) (number : ℕ) : Type 0 where
  pub thread : Thread
  pub live : thread_of after number ≡ Some thread
  pub since : IsBlockedSince thread.blocked after.clock

-- a thread that hasn't run yet
pub record StandsFresh (after : World) (number : ℕ) : Type 0 where
  pub thread : Thread
  pub live : thread_of after number ≡ Some thread
  pub unblocked : thread.blocked ≡ None

abbrev pub LeavesOwn : World → ℕ → Move → Type 0
LeavesOwn w number (Blocks after) = StandsBlocked after number
LeavesOwn w number (Ends after) = thread_of after number ≡ None
LeavesOwn w number (Spawns started after) = StandsFresh after started
LeavesOwn w number (Goes after) = Unit {0}
LeavesOwn w number (Puts value after) = Unit {0}
LeavesOwn w number (Stops stop) = Unit {0}
LeavesOwn w number Wrong = Unit {0}

module _ (s : Setting) (w : World) (numbered : IsNumbered w) (old : Thread) (found : thread_of w old.number ≡ Some old) where
  own_ways : Ways s w (LeavesOwn w old.number) old
  own_ways = record {
    goes = λ after e. tt;
    answers = λ ask still e. on_printed (LeavesOwn w old.number) (row_for s w old ask).prints _ tt (λ word prints. tt);
    blocks = λ block. record { thread = _; live = found_replaced _ w.threads old found; since = refl };
    spawns = λ entry argument need still taken e few some.
        let below = found_below old.number 0 w.next w.threads old numbered found in
        let none = none_at_next w.next 0 w.next w.threads numbered (omega arith) in
        record { thread = _; live = found_appended _ (replaced (resumed old (Some w.next)) w.threads) (none_replaced w.next _ w.threads (λ same. omega (arith, below, same)) none); unblocked = refl };
    ends = λ areas e. none_without old.number w.threads;
  }

-- what a step leaves of the thread that runs
pub own_step : (s : Setting) (w : World) (number : ℕ) → IsNumbered w → w.running ≡ Some number → LeavesOwn w number (step s w)
own_step s w number numbered e = on_step s w (LeavesOwn w number) (λ stop. tt) tt ways where
  ways : (n : ℕ) (thread : Thread) → w.running ≡ Some n → thread_of w n ≡ Some thread → (nat_eq w.cost s.fuel ≡ false) → Ways s w (LeavesOwn w number) thread
  ways n thread runs there left =
      let own = first_with-number n w.threads thread there in
      let same : n ≡ number = cc in
      subst (λ (m : ℕ). Ways s w (LeavesOwn w m) thread) (own ∙ same) (own_ways s w numbered thread (subst (λ (m : ℕ). thread_of w m ≡ Some thread) (sym own) there))
