-- At a choice point the next line of the trace, the clock and the lawful choice are one, and the run goes on or stops.
use Rattle.choice_rules.proofs.Common.{◌≡◌, ◌≢◌, ℕ, ◌+◌, ◌<◌, ◌≤◌, Bool, true, false, ◌||◌, inl, inr, List, [], length, Option, Some, None, refl, sym, ◌∙◌, ap, subst, arith, Contains, IsTrue, IsSome, find, ℤ, nat_eq, nat_tests, eqb-true, Event, comes_before, Rule, by_graph, by_stride, Policy, Waiter, Seen, last_choice, any_ready, waking_times, is_due, IsLeastOf, IsClockBy, IsChoicePoint, is_eligible, queue_at, score_of, IsGraphChoice, goes_before_at, IsStrideChoice, IsLawfulBy, IsLawful, IsChoice, pass_of, goes_before-asym, by_test}
use Rattle.std.proofs.lemmas.List.Elements.{All-contains}
use Rattle.schedule_log.specs.declared.entries.Item.{Item}
use Rattle.scheduler.proofs.OrderLemmas.{comes_before-asym}
use Rattle.choice_rules.specs.Trace.{Trace, IsNext, IsRefused}
use Rattle.choice_rules.specs.Deliveries.{IsDelivery}
use Rattle.choice_rules.specs.Stops.{IsDone, IsBadTrace, IsIdle}
use Rattle.choice_rules.proofs.Strides.{all_found, first_passes, one_thread}

-- ---- tests

false_true : (b : Bool) → b ≡ false → IsTrue b → ⊥
false_true b e h = let both : false ≡ true = sym e ∙ h in absurd (cc)

other_number : (a b : ℕ) → nat_eq a b ≡ false → a ≢ b
other_number a b h e = grind (arith, nat_tests)

some_found : (o : Option Waiter) (w : Waiter) → o ≡ Some w → IsSome o
some_found None w e = absurd (cc)
some_found (Some v) w e = refl

-- ---- the next line

no_bytes : (bytes : List ℕ) → bytes ≡ [] → 0 < length bytes → ⊥
no_bytes bytes e some = let n : length bytes ≡ 0 = ap (λ (bs : List ℕ). length bs) e in omega (arith, some, n)

pub one_next : (trace : Trace) (a b : Option Event) → IsNext trace a → IsNext trace b → a ≡ b
one_next trace None None p q = refl
one_next trace None (Some e) p q = absurd (no_bytes trace.bytes p q.some)
one_next trace (Some e) None p q = absurd (no_bytes trace.bytes q p.some)
one_next trace (Some e) (Some f) p q = ap Some (q.line.only e p.line.spells)

pub not_refused : (trace : Trace) (next : Option Event) (number : ℕ) → IsNext trace next → IsRefused trace number → ⊥
not_refused trace None number p (inl r) = no_bytes trace.bytes p r.some
not_refused trace None number p (inr r) = no_bytes trace.bytes p r.2.some
not_refused trace (Some e) number p (inl r) = r.spells_none p.counted e p.line.spells
not_refused trace (Some e) number p (inr r) =
    let same : e.time ≡ r.0 = ap (λ (v : Event). v.time) (r.2.line.only e p.line.spells) in
    omega (arith, same, r.2.falls, r.2.earlier_is, p.rises)

pub refused_number : (trace : Trace) (number : ℕ) → IsRefused trace number → number ≡ trace.lines + 1
refused_number trace number (inl r) = r.number_is
refused_number trace number (inr r) = r.2.number_is

pub one_refusal : (trace : Trace) (a b : ℕ) → IsRefused trace a → IsRefused trace b → a ≡ b
one_refusal trace a b p q = refused_number trace a p ∙ sym (refused_number trace b q)

-- ---- the clock

least_below : (times : List ℕ) (a b : ℕ) → IsLeastOf times a → IsLeastOf times b → a ≤ b
least_below times a b p q = All-contains (λ other. a ≤ other) times b p.least q.one

clock_by : (b : Bool) (seen : Seen) (next : Option Event) (c d : ℕ) → IsClockBy b seen next c → IsClockBy b seen next d → c ≡ d
clock_by true seen next c d p q = p ∙ sym q
clock_by false seen next c d p q =
    let below : c ≤ d = least_below _ c d p q in let above : d ≤ c = least_below _ d c q p in omega arith

module _ (policy : Policy) (seen : Seen) where
  abbrev ClockAt : Option Event → ℕ → Type 0
  ClockAt next clock = IsClockBy (is_due next seen.clock || any_ready policy seen seen.clock) seen next clock

  pub one_clock : (a b : Option Event) (c d : ℕ) → IsChoicePoint policy seen a c → IsChoicePoint policy seen b d → (a ≡ b) × (c ≡ d)
  one_clock a b c d p q =
      let same : a ≡ b = one_next seen.trace a b p.next_is q.next_is in
      let at : ClockAt b c = subst (λ (v : Option Event). ClockAt v c) same p.clock_is in
      (same, clock_by _ seen b c d at q.clock_is)

  -- where the trace is over, no thread is ready and none sleeps, there is no clock to go to
  nowhere_to_go : (b : Bool) (clock : ℕ) → b ≡ false → waking_times seen ≡ [] → IsClockBy b seen None clock → ⊥
  nowhere_to_go true clock e none p = absurd (cc)
  nowhere_to_go false clock e none p =
      let one : Contains [] clock = subst (λ (times : List ℕ). Contains times clock) none p.one in omega (arith, one.1)

  -- ---- a choice point, or a stop

  pub not_done : (next : Option Event) (clock : ℕ) → IsChoicePoint policy seen next clock → IsDone seen → ⊥
  not_done next clock p q = p.live q.nobody

  pub not_bad : (next : Option Event) (clock line : ℕ) → IsChoicePoint policy seen next clock → IsBadTrace seen line → ⊥
  not_bad next clock line p q = not_refused seen.trace next line p.next_is q.refused

  pub not_idle : (next : Option Event) (clock : ℕ) → IsChoicePoint policy seen next clock → IsIdle policy seen → ⊥
  not_idle next clock p q =
      let same : next ≡ None = one_next seen.trace next None p.next_is q.over in
      let at : IsClockBy (any_ready policy seen seen.clock) seen None clock = subst (λ (v : Option Event). ClockAt v clock) same p.clock_is in
      nowhere_to_go _ clock q.none_ready q.none_sleeps at

  pub not_both : (clock time : ℕ) (event : Event) (item : Item) (drops : Bool) (chosen : Waiter) → IsDelivery policy seen clock event item drops → IsChoice policy seen time chosen → ⊥
  not_both clock time event item drops chosen p q =
      let same : (q.next ≡ Some event) × (time ≡ clock) = one_clock q.next (Some event) time clock q.point p.point in
      let due : is_due q.next time ≡ true = ap (λ (v : Option Event). is_due v time) same.0 ∙ ap (λ (n : ℕ). is_due (Some event) n) same.1 ∙ p.due in
      let no : false ≡ true = sym q.not_due ∙ due in absurd (cc)

-- ---- the choice

none_both : (score : ℕ → ℤ) (last : ℕ → ℕ) (a b : ℕ) → IsTrue (comes_before score last a b) → IsTrue (comes_before score last b a) → ⊥
none_both score last a b p q = let e : comes_before score last b a ≡ false = comes_before-asym score last a b p in absurd (false_true _ e q)

by_node : (a b : ℕ) (P : Type 0) → (a ≡ b → P) → (a ≢ b → P) → P
by_node a b P first second = by_test (nat_eq a b) P (λ e. first (eqb-true a b e)) (λ e. second (other_number a b e))

module _ (policy : Policy) (seen : Seen) (clock : ℕ) where
  one_graph_choice : (a b : Waiter) → IsGraphChoice policy seen clock a → IsGraphChoice policy seen clock b → a ≡ b
  one_graph_choice a b p q = by_node a.node b.node _
      (λ e. let at : find (is_eligible policy seen clock) (queue_at seen b.node) ≡ Some a = subst (λ (n : ℕ). find (is_eligible policy seen clock) (queue_at seen n) ≡ Some a) e p.first in
      let two : Some a ≡ Some b = sym at ∙ q.first in cc)
      (λ ne. absurd (none_both (score_of policy seen) (last_choice seen.past.taken) a.node b.node
      (p.least b.node (λ e. ne (sym e)) (some_found _ b q.first)) (q.least a.node ne (some_found _ a p.first))))

  none_both_at : (tickets : List (ℕ × ℕ)) (a b : ℕ) → IsTrue (goes_before_at tickets seen a b) → IsTrue (goes_before_at tickets seen b a) → ⊥
  none_both_at tickets a b p q =
      let e : goes_before_at tickets seen b a ≡ false = goes_before-asym (pass_of tickets seen.past.taken a) a (pass_of tickets seen.past.taken b) b p in
      absurd (false_true _ e q)

  one_stride_choice : (tickets : List (ℕ × ℕ)) (a b : Waiter) → IsStrideChoice tickets policy seen clock a → IsStrideChoice tickets policy seen clock b → a ≡ b
  one_stride_choice tickets a b p q = by_node a.thread b.thread _
      (λ e. one_thread (is_eligible policy seen clock) seen.waiting a b e p.first q.first)
      (λ ne. absurd (none_both_at tickets a.thread b.thread
      (all_found _ _ seen.waiting b p.least q.first (first_passes (is_eligible policy seen clock) b.thread seen.waiting b q.first) (λ e. ne (sym e)))
      (all_found _ _ seen.waiting a q.least p.first (first_passes (is_eligible policy seen clock) a.thread seen.waiting a p.first) ne)))

  one_by : (rule : Rule) (a b : Waiter) → IsLawfulBy rule policy seen clock a → IsLawfulBy rule policy seen clock b → a ≡ b
  one_by by_graph a b p q = one_graph_choice a b p q
  one_by (by_stride tickets) a b p q = one_stride_choice tickets a b p q

  pub one_choice : (a b : Waiter) → IsLawful policy seen clock a → IsLawful policy seen clock b → a ≡ b
  one_choice a b p q = one_by policy.rule a b p q
