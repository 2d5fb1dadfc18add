-- The earliest sleeper of the machine world is the earliest of those that wait.
use Rattle.lawful_log.proofs.Common.{◌≡◌, ℕ, ◌≤◌, Bool, true, false, List, [], ◌∷◌, Option, Some, None, map, sym, ap, ◌∙◌, subst, ⊎_elim, All, Contains, filter_map, nat_eq, AllByRecursion, list_any, cases_eq, cond-true, cond-false, eq-eqb, ne_eqb, eqb-true, Exchange, is_ready, any_ready, waking_times, Waiter, IsLeastOf, Setup, setting_of, State, seen_of, IsNumbered, advanced, may_run, asleep_until, StandsForWorld, StandsForRest, Blocked, Thread, World, first_with, thread_of, checked_of, IsWaiting, AreWaiting, All-weaker, or_right, or_left, or_parts}
use Rattle.std.proofs.lemmas.List.Elements.{All-contains, All-from_recursion}
use Rattle.choice_rules.specs.Readiness as rules
use Rattle.lawful_log.proofs.Any.{any_found, waiter_of}
use Rattle.lawful_log.proofs.Clocks.{gives_contains, gives_none, gives_above, is_time, asleep_is, contains_later, contains_head, contains_tail, contains_none}
use Rattle.lawful_log.proofs.Kept.{is_some_of}
use Rattle.lawful_log.proofs.Same.{alike_rest, ready_alike, wakes_alike}
use Rattle.lawful_log.proofs.Finding.{all_both}

-- ---- lists

pub all_false : {X : Type 0} (test : X → Bool) (xs : List X) → list_any test xs ≡ false → AllByRecursion (λ x. test x ≡ false) xs
all_false test [] e = tt
all_false test (x ∷ xs) e = let both : (test x ≡ false) × (list_any test xs ≡ false) = or_parts (test x) (list_any test xs) e in (both.0, all_false test xs both.1)

found_contains : (number : ℕ) (threads : List Thread) (t : Thread) → first_with number threads ≡ Some t → Contains threads t
found_contains number [] t e = absurd (cc)
found_contains number (u ∷ us) t e = ⊎_elim
    (λ (same : u.number ≡ number). let here : Some u ≡ Some t = sym (cond-true (nat_eq u.number number) (Some u) (first_with number us) (eq-eqb u.number number same)) ∙ e in contains_head u us t (cc))
    (λ apart. contains_later u us t (found_contains number us t (sym (cond-false (nat_eq u.number number) (Some u) (first_with number us) (ne_eqb u.number number apart)) ∙ e)))
    (cases_eq u.number number)

map_contains : (f : Thread → Option ℕ) (number : ℕ) (threads : List Thread) (t : Thread) (o : Option ℕ) → first_with number threads ≡ Some t → f t ≡ o → Contains (map f threads) o
map_contains f number [] t o e is = absurd (cc)
map_contains f number (u ∷ us) t o e is = ⊎_elim
    (λ (same : u.number ≡ number).
    let here : Some u ≡ Some t = sym (cond-true (nat_eq u.number number) (Some u) (first_with number us) (eq-eqb u.number number same)) ∙ e in
    let equal : u ≡ t = cc in contains_head (f u) (map f us) o (ap f equal ∙ is))
    (λ apart. contains_later (f u) (map f us) o (map_contains f number us t o (sym (cond-false (nat_eq u.number number) (Some u) (first_with number us) (ne_eqb u.number number apart)) ∙ e) is))
    (cases_eq u.number number)

time_is : (time : ℕ) (o : Option ℕ) → o ≡ Some time → is_time time o ≡ true
time_is time None e = absurd (cc)
time_is time (Some t) e = eq-eqb t time (cc)

is_time_is : (time : ℕ) (o : Option ℕ) → is_time time o ≡ true → o ≡ Some time
is_time_is time None e = absurd (cc)
is_time_is time (Some t) e = ap Some (eqb-true t time e)

map_any : (f : Thread → Option ℕ) (time : ℕ) (threads : List Thread) → Contains (map f threads) (Some time) → list_any (λ t. is_time time (f t)) threads ≡ true
map_any f time [] c = absurd (contains_none (Some time) c)
map_any f time (u ∷ us) c = ⊎_elim
    (λ (here : f u ≡ Some time). or_left (is_time time (f u)) (list_any (λ t. is_time time (f t)) us) (time_is time (f u) here))
    (λ later. or_right (is_time time (f u)) (list_any (λ t. is_time time (f t)) us) (map_any f time us later))
    (contains_tail (f u) (map f us) (Some time) c)

-- ---- the sleepers

module _ (w : World) (waiting : List Waiter) (numbered : IsNumbered w) (between : w.running ≡ None) (are : AreWaiting w waiting) (time_of : Option Blocked → Option ℕ) (h : Waiter → Option ℕ)
    (same : AllByRecursion (λ x. (v : IsWaiting w x) × (h x ≡ time_of v.thread.blocked)) waiting) where
  abbrev Fits : Waiter → Type 0
  Fits x = (v : IsWaiting w x) × (h x ≡ time_of v.thread.blocked)

  pub none_sleeps : All (λ thread. time_of thread.blocked ≡ None) w.threads → filter_map h waiting ≡ []
  none_sleeps all = gives_none h waiting
      (All-weaker Fits (λ x. h x ≡ None)
      (λ x fits. fits.1 ∙ All-contains (λ thread. time_of thread.blocked ≡ None) w.threads fits.0.thread all (found_contains x.thread w.threads fits.0.thread fits.0.live)) waiting same)

  pub least_sleeps : (time : ℕ) → Contains (map (λ thread. time_of thread.blocked) w.threads) (Some time) →
      ((other : ℕ) → Contains (map (λ thread. time_of thread.blocked) w.threads) (Some other) → time ≤ other) → IsLeastOf (filter_map h waiting) time
  least_sleeps time one least =
      let f = any_found 0 w.next w.threads (λ thread. is_time time (time_of thread.blocked)) numbered (map_any (λ thread. time_of thread.blocked) time w.threads one) in
      let x = waiter_of Fits waiting f.thread.number same (are.all f.thread.number (λ e. let no : None ≡ Some f.thread.number = sym between ∙ e in absurd (cc)) (is_some_of (thread_of w f.thread.number) f.thread f.found)) in
      let both : Some x.holds.0.thread ≡ Some f.thread = sym x.holds.0.live ∙ ap (λ (n : ℕ). thread_of w n) x.thread_is ∙ f.found in
      let is : x.holds.0.thread ≡ f.thread = cc in
      let gives : h x.waiter ≡ Some time = x.holds.1 ∙ ap (λ (t : Thread). time_of t.blocked) is ∙ is_time_is time (time_of f.thread.blocked) f.passes in
      record {
        one = gives_contains h time (λ y. is_time time (h y)) (λ y e. is_time_is time (h y) e) waiting (x.settles (λ y. is_time time (h y)) (time_is time (h x.waiter) gives));
        least = All-from_recursion (λ other. time ≤ other) (filter_map h waiting)
            (gives_above h time waiting (All-weaker Fits (λ y. (t : ℕ) → h y ≡ Some t → time ≤ t)
            (λ y fits t e. least t (map_contains (λ thread. time_of thread.blocked) y.thread w.threads fits.0.thread (Some t) fits.0.live (sym fits.1 ∙ e))) waiting same));
      }

-- ---- in a state where no thread is ready

fits_state : (g : Setup) (state : State) (clock : ℕ) (x : Waiter) → StandsForWorld (checked_of g) g.program state.machine state.source → (v : IsWaiting state.machine x) → is_ready g.policy (seen_of state) clock x ≡ false →
    (u : IsWaiting state.machine x) × (rules.wakes x.since (rules.rest_of (seen_of state) x.thread) ≡ asleep_until (setting_of g) (advanced state.machine clock) u.thread.blocked)
fits_state g state clock x stands v unready =
    let rest : StandsForRest (checked_of g) g.program state.machine.areas.pool (Some v.thread) (rules.rest_of (seen_of state) x.thread) =
    subst (λ (o : Option Thread). StandsForRest (checked_of g) g.program state.machine.areas.pool o (rules.rest_of (seen_of state) x.thread)) v.live (stands.threads x.thread) in
    let alike = alike_rest (checked_of g) g.program state.machine.areas.pool v.thread x.since (rules.rest_of (seen_of state) x.thread) rest v.since in
    let waits_still : may_run (setting_of g) (advanced state.machine clock) v.thread.blocked ≡ false =
    ready_alike (setting_of g) (advanced state.machine clock) v.thread.blocked x.since (rules.rest_of (seen_of state) x.thread) alike
    ∙ ap (λ (e : Exchange). rules.is_ready_at g.policy.caps e clock x.since (rules.rest_of (seen_of state) x.thread)) stands.exchange ∙ unready in
    (v, sym (wakes_alike v.thread.blocked x.since (rules.rest_of (seen_of state) x.thread) alike) ∙ sym (asleep_is (setting_of g) (advanced state.machine clock) v.thread.blocked waits_still))

module _ (g : Setup) (state : State) (clock : ℕ) (numbered : IsNumbered state.machine) (stands : StandsForWorld (checked_of g) g.program state.machine state.source) (are : AreWaiting state.machine state.waiting)
    (unready : any_ready g.policy (seen_of state) clock ≡ false) where
  fitting : AllByRecursion (λ x. (v : IsWaiting state.machine x) × (rules.wakes x.since (rules.rest_of (seen_of state) x.thread) ≡ asleep_until (setting_of g) (advanced state.machine clock) v.thread.blocked)) state.waiting
  fitting = all_both (IsWaiting state.machine) (λ x. is_ready g.policy (seen_of state) clock x ≡ false) (λ x. (v : IsWaiting state.machine x) × (rules.wakes x.since (rules.rest_of (seen_of state) x.thread) ≡ asleep_until (setting_of g) (advanced state.machine clock) v.thread.blocked))
      (λ x v e. fits_state g state clock x stands v e) state.waiting are.each (all_false (is_ready g.policy (seen_of state) clock) state.waiting unready)

  pub none_wakes : All (λ thread. asleep_until (setting_of g) (advanced state.machine clock) thread.blocked ≡ None) state.machine.threads → waking_times (seen_of state) ≡ []
  none_wakes all = none_sleeps state.machine state.waiting numbered stands.between are (asleep_until (setting_of g) (advanced state.machine clock)) (λ x. rules.wakes x.since (rules.rest_of (seen_of state) x.thread)) fitting all

  pub least_wakes : (time : ℕ) → Contains (map (λ thread. asleep_until (setting_of g) (advanced state.machine clock) thread.blocked) state.machine.threads) (Some time) →
      ((other : ℕ) → Contains (map (λ thread. asleep_until (setting_of g) (advanced state.machine clock) thread.blocked) state.machine.threads) (Some other) → time ≤ other) → IsLeastOf (waking_times (seen_of state)) time
  least_wakes time one least = least_sleeps state.machine state.waiting numbered stands.between are (asleep_until (setting_of g) (advanced state.machine clock)) (λ x. rules.wakes x.since (rules.rest_of (seen_of state) x.thread)) fitting time one least
