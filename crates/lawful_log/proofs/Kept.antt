-- The threads that wait are the live ones, after each step of the running thread and each action.
use Rattle.lawful_log.proofs.Common.{◌≡◌, ◌≢◌, ℕ, ◌<◌, ◌||◌, Bool, true, false, nat_eq, List, [], ◌∷◌, ◌++◌, Option, Some, None, refl, sym, ap, ◌∙◌, arith, subst, ⊎_elim, IsSome, if◌then◌else◌, AllByRecursion, cases_eq, ne_eqb, Waiter, waits, differ_all, once_append, waits_append, waits_one, waits_other, Taken, IsNumbered, empty_world, Blocked, Thread, World, thread_of, with_thread, SinceIs, IsWaiting, AreWaiting, StartsOne, IsOver, All-append, or_right, or_left, or_from}
use Rattle.machine_world.specs.Areas.{Areas}
use Rattle.lawful_log.proofs.Own.{found_below, StandsBlocked, StandsFresh, IsBlockedSince}

pub some_of : (o : Option Thread) → IsSome o → (t : Thread) × (o ≡ Some t)
some_of None e = absurd (let no : false ≡ true = e in cc)
some_of (Some t) e = (t, refl)

pub is_some_of : (o : Option Thread) (t : Thread) → o ≡ Some t → IsSome o
is_some_of None t e = absurd (cc)
is_some_of (Some u) t e = refl

since_fresh : (b : Option Blocked) → b ≡ None → SinceIs b 0
since_fresh None e = tt
since_fresh (Some b) e = absurd (cc)

since_blocked : (b : Option Blocked) (clock : ℕ) → IsBlockedSince b clock → SinceIs b clock
since_blocked None clock e = absurd e
since_blocked (Some b) clock e = e

abbrev KeepsOthers : World → World → Type 0
KeepsOthers w after = (number : ℕ) → w.running ≢ Some number → number ≢ w.next → thread_of after number ≡ thread_of w number

module _ (w after : World) (numbered : IsNumbered w) (after_numbered : IsNumbered after) (kept : KeepsOthers w after) where
  below : (number : ℕ) (t : Thread) → thread_of w number ≡ Some t → number < w.next
  below number t live = found_below number 0 w.next w.threads t numbered live

  below_after : (number : ℕ) (t : Thread) → thread_of after number ≡ Some t → number < after.next
  below_after number t live = found_below number 0 after.next after.threads t after_numbered live

  one_kept : (x : Waiter) → IsWaiting w x → w.running ≢ Some x.thread → IsWaiting after x
  one_kept x waits apart =
      let under = below x.thread waits.thread waits.live in
      record { thread = waits.thread; live = kept x.thread apart (λ e. omega (arith, under, e)) ∙ waits.live; since = waits.since }

  each_kept : (waiting : List Waiter) → AllByRecursion (IsWaiting w) waiting → ((number : ℕ) → w.running ≡ Some number → AllByRecursion (λ x. x.thread ≢ number) waiting) →
      AllByRecursion (IsWaiting after) waiting
  each_kept [] all apart = tt
  each_kept (x ∷ waiting) all apart =
      (one_kept x all.0 (λ e. (apart x.thread e).0 refl), each_kept waiting all.1 (λ number e. (apart number e).1))

  pub all_kept : (waiting : List Waiter) → AreWaiting w waiting → AllByRecursion (IsWaiting after) waiting
  all_kept waiting are = each_kept waiting are.each (λ number e. differ_all waiting number (are.running number e))

  -- a thread that lives after, and isn't new or the running one, waits
  old_waits : (waiting : List Waiter) → AreWaiting w waiting → (number : ℕ) → w.running ≢ Some number → number ≢ w.next → IsSome (thread_of after number) → waits waiting number ≡ true
  old_waits waiting are number apart old live = are.all number apart (subst (λ (o : Option Thread). IsSome o) (kept number apart old) live)

  pub waiting_on : (waiting : List Waiter) → after.next ≡ w.next → after.running ≡ w.running → AreWaiting w waiting → AreWaiting after waiting
  waiting_on waiting next running are = record {
    each = all_kept waiting are;
    once = are.once;
    running = λ number e. are.running number (sym running ∙ e);
    all = λ number apart live.
        let found = some_of (thread_of after number) live in
        let under = below_after number found.0 found.1 in
        old_waits waiting are number (λ e. apart (running ∙ e)) (λ e. omega (arith, under, next, e)) live;
  }

  next_waits : (waiting : List Waiter) → AllByRecursion (IsWaiting w) waiting → waits waiting w.next ≡ false
  next_waits [] all = refl
  next_waits (x ∷ waiting) all =
      let under = below x.thread all.0.thread all.0.live in
      or_from (nat_eq x.thread w.next) (waits waiting w.next) (ne_eqb x.thread w.next (λ e. omega (arith, under, e))) (next_waits waiting all.1)

  pub waiting_started : (waiting : List Waiter) (number : ℕ) → StartsOne w after number → StandsFresh after number → ((n : ℕ) → w.running ≡ Some n → n < w.next) →
      AreWaiting w waiting → AreWaiting after (waiting ++ record { thread = number; node = 0; since = 0 } ∷ [])
  waiting_started waiting number starts fresh runs_below are =
      let new : Waiter = record { thread = number; node = 0; since = 0 } in
      let at_next : waits waiting number ≡ false = subst (λ (n : ℕ). waits waiting n ≡ false) (sym starts.number_is) (next_waits waiting are.each) in
      record {
        each = All-append (IsWaiting after) waiting (new ∷ []) (all_kept waiting are)
            (record { thread = fresh.thread; live = fresh.live; since = since_fresh fresh.thread.blocked fresh.unblocked }, tt);
        once = once_append waiting new are.once at_next;
        running = λ n e.
            let before : w.running ≡ Some n = sym starts.running ∙ e in
            let under = runs_below n before in
            waits_append waiting (new ∷ []) n ∙ or_from (waits waiting n) (waits (new ∷ []) n) (are.running n before) (waits_other new n (λ same. omega (arith, under, same, starts.number_is)));
        all = λ n apart live. waits_append waiting (new ∷ []) n ∙ ⊎_elim
            (λ (same : n ≡ number). or_right (waits waiting n) (waits (new ∷ []) n) (subst (λ (m : ℕ). waits (new ∷ []) m ≡ true) (sym same) (waits_one new)))
            (λ differ. or_left (waits waiting n) (waits (new ∷ []) n) (old_waits waiting are n (λ e. apart (starts.running ∙ e)) (λ e. differ (e ∙ sym starts.number_is)) live))
            (cases_eq n number);
      }

  module _ (number : ℕ) (runs : w.running ≡ Some number) (over : IsOver w after) where
    others : (n : ℕ) → n ≢ number → w.running ≢ Some n
    others n apart e = let both : Some n ≡ Some number = sym e ∙ runs in apart (cc)

    pub waiting_blocked : (waiting : List Waiter) (node : ℕ) → StandsBlocked after number → AreWaiting w waiting →
        AreWaiting after (waiting ++ record { thread = number; node = node; since = after.clock } ∷ [])
    waiting_blocked waiting node blocked are =
        let new : Waiter = record { thread = number; node = node; since = after.clock } in
        record {
          each = All-append (IsWaiting after) waiting (new ∷ []) (all_kept waiting are)
              (record { thread = blocked.thread; live = blocked.live; since = since_blocked blocked.thread.blocked after.clock blocked.since }, tt);
          once = once_append waiting new are.once (are.running number runs);
          running = λ n e. absurd (let no : None ≡ Some n = sym over.running ∙ e in cc);
          all = λ n apart live. waits_append waiting (new ∷ []) n ∙ ⊎_elim
              (λ (same : n ≡ number). or_right (waits waiting n) (waits (new ∷ []) n) (subst (λ (m : ℕ). waits (new ∷ []) m ≡ true) (sym same) (waits_one new)))
              (λ differ.
              let found = some_of (thread_of after n) live in
              let under = below_after n found.0 found.1 in
              or_left (waits waiting n) (waits (new ∷ []) n) (old_waits waiting are n (others n differ) (λ e. omega (arith, under, over.next, e)) live))
              (cases_eq n number);
        }

    pub waiting_ended : (waiting : List Waiter) → thread_of after number ≡ None → AreWaiting w waiting → AreWaiting after waiting
    waiting_ended waiting gone are = record {
      each = all_kept waiting are;
      once = are.once;
      running = λ n e. absurd (let no : None ≡ Some n = sym over.running ∙ e in cc);
      all = λ n apart live. ⊎_elim
          (λ (same : n ≡ number). absurd (
          let found = some_of (thread_of after n) live in
          let here : Some found.0 ≡ None = sym found.1 ∙ ap (λ (m : ℕ). thread_of after m) same ∙ gone in cc))
          (λ differ.
          let found = some_of (thread_of after n) live in
          let under = below_after n found.0 found.1 in
          old_waits waiting are n (others n differ) (λ e. omega (arith, under, over.next, e)) live)
          (cases_eq n number);
    }

-- ---- the first thread waits

zero_only : (n : ℕ) (t : Bool) {X : Type 0} (x : X) → nat_eq 0 n ≡ t → IsSome (if t then Some x else None) → (t || false) ≡ true
zero_only n true x e some = refl
zero_only n false x e some = absurd (let no : false ≡ true = some in cc)

pub first_waits : (areas : Areas) (taken : Taken) (entry : ℕ) →
    AreWaiting (with_thread (empty_world areas) taken entry 0) (record { thread = 0; node = 0; since = 0 } ∷ [])
first_waits areas taken entry = record {
  each = (record { thread = _; live = refl; since = tt }, tt);
  once = (tt, tt);
  running = λ n e. absurd (let no : None ≡ Some n = e in cc);
  all = λ n apart some. zero_only n (nat_eq 0 n) _ refl some;
}
