-- What the pick of a thread leaves as it was.
use Rattle.lawful_log.proofs.Common.{◌≡◌, ◌≢◌, ℕ, Bool, true, false, not, List, [], ◌∷◌, Option, Some, None, refl, sym, ap, ◌∙◌, subst, cond, ⊎_elim, IsSome, if◌then◌else◌, AllByRecursion, cases_eq, eq-eqb, ne_eqb, Waiter, waits, but, once_but, waits_but_other, waits_but_self, Pick, picked, picked_at, may_run, after_action, is_between, Blocked, Thread, World, Setting, thread_of, IsWaiting, AreWaiting, first_with-replaced, first_with-number}

pub record IsPicked (w : World) (number : ℕ) (after : World) : Type 0 where
  pub cost : after.cost ≡ w.cost
  pub clock : after.clock ≡ w.clock
  pub next : after.next ≡ w.next
  pub running : after.running ≡ Some number
  pub others : (n : ℕ) → n ≢ number → thread_of after n ≡ thread_of w n

picked_kept : (s : Setting) (w : World) (thread : Thread) (blocked : Option Blocked) → IsPicked w thread.number (picked_at s w thread blocked)
picked_kept s w thread None = record { cost = refl; clock = refl; next = refl; running = refl; others = λ n apart. refl }
picked_kept s w thread (Some b) = record { cost = refl; clock = refl; next = refl; running = refl; others = λ n apart. first_with-replaced n _ w.threads apart }

pub given_if : (b : Bool) (x y : World) → (if b then Some x else None) ≡ Some y → x ≡ y
given_if true x y e = cc
given_if false x y e = absurd (cc)

picked_found : (s : Setting) (w : World) (number : ℕ) (found : Option Thread) (after : World) → thread_of w number ≡ found → picked s w found ≡ Some after → IsPicked w number after
picked_found s w number None after e p = absurd (cc)
picked_found s w number (Some thread) after e p =
    let is : picked_at s w thread thread.blocked ≡ after = given_if (may_run s w thread.blocked) _ after p in
    subst (IsPicked w number) is (subst (λ (n : ℕ). IsPicked w n (picked_at s w thread thread.blocked)) (first_with-number number w.threads thread e) (picked_kept s w thread thread.blocked))

pub between_if : (b : Bool) (o : Option World) (after : World) → (if b then o else None) ≡ Some after → o ≡ Some after
between_if true o after e = e
between_if false o after e = absurd (cc)

pub is_picked : (s : Setting) (w : World) (number : ℕ) (after : World) → after_action s w (Pick number) ≡ Some after → IsPicked w number after
is_picked s w number after e = picked_found s w number (thread_of w number) after refl (between_if (is_between w) _ after e)

-- ---- those that still wait

each_but : (w after : World) (number : ℕ) (waiting : List Waiter) → IsPicked w number after → AllByRecursion (IsWaiting w) waiting → AllByRecursion (IsWaiting after) (but number waiting)
each_but w after number [] is all = tt
each_but w after number (x ∷ waiting) is all = ⊎_elim
    (λ (same : x.thread ≡ number). subst (λ (b : Bool). AllByRecursion (IsWaiting after) (cond (not b) (x ∷ but number waiting) (but number waiting))) (sym (eq-eqb x.thread number same)) (each_but w after number waiting is all.1))
    (λ apart. subst (λ (b : Bool). AllByRecursion (IsWaiting after) (cond (not b) (x ∷ but number waiting) (but number waiting))) (sym (ne_eqb x.thread number apart))
    (record { thread = all.0.thread; live = is.others x.thread apart ∙ all.0.live; since = all.0.since }, each_but w after number waiting is all.1))
    (cases_eq x.thread number)

pub waiting_picked : (w after : World) (number : ℕ) (waiting : List Waiter) → w.running ≡ None → IsPicked w number after → AreWaiting w waiting → AreWaiting after (but number waiting)
waiting_picked w after number waiting between is are = record {
  each = each_but w after number waiting is are.each;
  once = once_but number waiting are.once;
  running = λ n e. let both : Some n ≡ Some number = sym e ∙ is.running in let same : n ≡ number = cc in
      subst (λ (m : ℕ). waits (but number waiting) m ≡ false) (sym same) (waits_but_self number waiting);
  all = λ n apart live.
      let differ : n ≢ number = λ same. apart (is.running ∙ ap Some (sym same)) in
      waits_but_other number n waiting differ
      ∙ are.all n (λ e. let no : None ≡ Some n = sym between ∙ e in absurd (cc)) (subst (λ (o : Option Thread). IsSome o) (is.others n differ) live);
}
