-- The queues after a choice.
use Rattle.choice_rules.proofs.Common.{◌≡◌, ◌≢◌, ℕ, Bool, true, false, nat_eq, List, [], ◌∷◌, Option, Some, find, sym, ap, ◌∙◌, subst, cond, ⊎_elim, AllByRecursion, cases_eq, cond-true, cond-false, eq-eqb, ne_eqb, ThreadId, Waiter, IsOnce, IsQueue, AreQueued, at_node, without, SchedulerState, queue_of, IsNoted, Choice}
use Rattle.choice_rules.proofs.Queues.{all_at_node, at_node-but, but_none, without_found}
use Rattle.choice_rules.proofs.Strides.{all_found}
use Rattle.choice_rules.proofs.Waiters.{but}

once_on : (t : Bool) (x : Waiter) (xs : List Waiter) → AllByRecursion (λ y. y.thread ≢ x.thread) xs → IsOnce xs → IsOnce (cond t (x ∷ xs) xs)
once_on true x xs apart once = (apart, once)
once_on false x xs apart once = once

once_at : (xs : List Waiter) (node : ℕ) → IsOnce xs → IsOnce (at_node xs node)
once_at [] node once = tt
once_at (x ∷ xs) node once = once_on (nat_eq x.node node) x (at_node xs node) (all_at_node (λ y. y.thread ≢ x.thread) xs node once.0) (once_at xs node once.1)

-- the chosen thread waits at no other node
apart_on : (u : Bool) (x : Waiter) (xs : List Waiter) (number : ℕ) → x.thread ≢ number → AllByRecursion (λ z. z.thread ≢ number) xs → AllByRecursion (λ z. z.thread ≢ number) (cond u (x ∷ xs) xs)
apart_on true x xs number p all = (p, all)
apart_on false x xs number p all = all

first_on : (b : Bool) (x : Waiter) (xs : List Waiter) (node other : ℕ) (test : Waiter → Bool) (y : Waiter) → nat_eq x.node other ≡ false → IsOnce (x ∷ xs) → cond b (Some x) (find test (at_node xs node)) ≡ Some y →
    (find test (at_node xs node) ≡ Some y → AllByRecursion (λ z. z.thread ≢ y.thread) (at_node xs other)) → AllByRecursion (λ z. z.thread ≢ y.thread) (at_node (x ∷ xs) other)
first_on true x xs node other test y off once e later =
    let is : x ≡ y = cc in
    subst (λ (l : List Waiter). AllByRecursion (λ z. z.thread ≢ y.thread) l) (sym (cond-false (nat_eq x.node other) (x ∷ at_node xs other) (at_node xs other) off))
    (subst (λ (w : Waiter). AllByRecursion (λ z. z.thread ≢ w.thread) (at_node xs other)) is (all_at_node (λ z. z.thread ≢ x.thread) xs other once.0))
first_on false x xs node other test y off once e later =
    subst (λ (l : List Waiter). AllByRecursion (λ z. z.thread ≢ y.thread) l) (sym (cond-false (nat_eq x.node other) (x ∷ at_node xs other) (at_node xs other) off)) (later e)

elsewhere : (xs : List Waiter) (node other : ℕ) (test : Waiter → Bool) (y : Waiter) → node ≢ other → IsOnce xs → find test (at_node xs node) ≡ Some y → AllByRecursion (λ x. x.thread ≢ y.thread) (at_node xs other)
elsewhere [] node other test y apart once e = tt
elsewhere (x ∷ xs) node other test y apart once e = ⊎_elim
    (λ (same : x.node ≡ node).
    first_on (test x) x xs node other test y (ne_eqb x.node other (λ o. apart (sym same ∙ o))) once
    (sym (ap (find test) (cond-true (nat_eq x.node node) (x ∷ at_node xs node) (at_node xs node) (eq-eqb x.node node same))) ∙ e)
    (λ e'. elsewhere xs node other test y apart once.1 e'))
    (λ differ.
    let later : find test (at_node xs node) ≡ Some y = sym (ap (find test) (cond-false (nat_eq x.node node) (x ∷ at_node xs node) (at_node xs node) (ne_eqb x.node node differ))) ∙ e in
    let y_apart : y.thread ≢ x.thread = all_found (λ z. z.thread ≢ x.thread) test (at_node xs node) y (all_at_node (λ z. z.thread ≢ x.thread) xs node once.0) later in
    apart_on (nat_eq x.node other) x (at_node xs other) y.thread (λ s. y_apart (sym s)) (elsewhere xs node other test y apart once.1 later))
    (cases_eq x.node node)

pub queued_left : (places : List (Option ℕ)) (old new : SchedulerState) (choice : Choice) (waiting : List Waiter) (eligible : ThreadId → Bool) (test : Waiter → Bool) (chosen : Waiter) → IsOnce waiting → AreQueued places old waiting →
    IsNoted old new choice → find eligible (queue_of old choice.node) ≡ Some choice.thread → find test (at_node waiting choice.node) ≡ Some chosen → choice.thread.number ≡ chosen.thread → AreQueued places new (but chosen.thread waiting)
queued_left places old new choice waiting eligible test chosen once queued noted first found same = record {
  queue = λ other. subst (λ (l : List Waiter). IsQueue places (queue_of new other) l) (sym (at_node-but waiting other chosen.thread)) (⊎_elim
      (λ (is : choice.node ≡ other).
      let here : IsQueue places (without choice.thread (queue_of old choice.node)) (but choice.thread.number (at_node waiting choice.node)) =
      without_found places (queue_of old choice.node) (at_node waiting choice.node) eligible choice.thread (once_at waiting choice.node once) (queued.queue choice.node) first in
      let now : IsQueue places (queue_of new choice.node) (but chosen.thread (at_node waiting choice.node)) =
      subst (λ (l : List ThreadId). IsQueue places l (but chosen.thread (at_node waiting choice.node))) (sym noted.queue)
      (subst (λ (n : ℕ). IsQueue places (without choice.thread (queue_of old choice.node)) (but n (at_node waiting choice.node))) same here) in
      subst (λ (n : ℕ). IsQueue places (queue_of new n) (but chosen.thread (at_node waiting n))) is now)
      (λ apart.
      subst (λ (l : List Waiter). IsQueue places (queue_of new other) l) (sym (but_none chosen.thread (at_node waiting other) (elsewhere waiting choice.node other test chosen apart once found)))
      (subst (λ (l : List ThreadId). IsQueue places l (at_node waiting other)) (sym (noted.others other (λ e. apart (sym e)))) (queued.queue other)))
      (cases_eq choice.node other));
}
