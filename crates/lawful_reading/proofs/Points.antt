-- At a choice point it is decided which event comes, which thread is the lawful choice, and whether a run stops there.
use Rattle.lawful_reading.proofs.Common.{◌≡◌, ◌≢◌, ℕ, suc, ◌+◌, ◌≤◌, ◌&&◌, ◌||◌, Bool, true, false, inr, List, [], ◌∷◌, ◌++◌, length, get_or, Option, Some, None, find, refl, sym, ◌∙◌, subst, arith, Contains, IsTrue, IsSome, is_some, filter, nat_eq, AllByRecursion, ne_eqb, Event, Item, is_dropped, Trace, IsNext, IsRefused, Waiter, Seen, last_choice, delivery_of, item_of, IsDelivery, is_eligible, queue_at, score_of, IsGraphChoice, goes_before_at, IsStrideChoice, IsLawfulBy, IsLawful, IsChoice, one_next, not_refused, one_refusal, refused_number, Decided, decided_by, both_decided, denied, implied_decided, only_decided, le_decided, number_same, bool_same, integer_same, Below, below_decided, everywhere, all_decided, option_same, text_same}
use Rattle.std.proofs.lemmas.List.Elements.{All-from_recursion, recursion_from_All}
use Rattle.scheduler.specs.Scores.{comes_before}
use Rattle.choice_rules.specs.Policy.{Rule, by_graph, by_stride, Policy}
use Rattle.choice_rules.specs.Readiness.{any_ready, waking_times}
use Rattle.choice_rules.specs.Clock.{is_due, event_times, IsLeastOf, IsClockBy, IsChoicePoint}
use Rattle.choice_rules.specs.Stops.{IsDone, IsBadTrace, IsIdle}
use Rattle.choice_rules.proofs.TraceLines.{Next, Over, Line, Refused, next_of}

-- ---- small things

same_event : (a b : Event) → Some a ≡ Some b → a ≡ b
same_event a b e = cc

waiter_same : (a b : Waiter) → Decided (a ≡ b)
waiter_same a b = decided_by (λ (e : (a.thread ≡ b.thread) × ((a.node ≡ b.node) × (a.since ≡ b.since))) k. record { thread = e.0 k; node = e.1.0 k; since = e.1.1 k })
    (λ e. ((λ k. (e k).thread), ((λ k. (e k).node), (λ k. (e k).since))))
    (both_decided (number_same a.thread b.thread) (both_decided (number_same a.node b.node) (number_same a.since b.since)))

item_same : (a b : Item) → Decided (a ≡ b)
item_same (Item.Arrive v) (Item.Arrive w) = decided_by (λ (e : v ≡ w) k. Item.Arrive (e k)) (λ e. cc) (integer_same v w)
item_same (Item.Data c v) (Item.Data d w) = decided_by (λ (e : (c ≡ d) × (v ≡ w)) k. Item.Data (e.0 k) (e.1 k)) (λ e. (cc, cc)) (both_decided (number_same c d) (integer_same v w))
item_same _ _ = inr (λ e. cc)

contains_decided : (xs : List ℕ) (x : ℕ) → Decided (Contains xs x)
contains_decided xs x = decided_by (λ (b : Below (λ k. get_or xs k x ≡ x) (length xs)). (b.0, b.1.0, b.1.1)) (λ c. (c.0, (c.1, c.2))) (below_decided (λ k. get_or xs k x ≡ x) (λ k. number_same (get_or xs k x) x) (length xs))

least_decided : (times : List ℕ) (time : ℕ) → Decided (IsLeastOf times time)
least_decided times time =
    decided_by (λ (p : Contains times time × AllByRecursion (λ other. time ≤ other) times). record { one = p.0; least = All-from_recursion (λ other. time ≤ other) times p.1 })
    (λ is. (is.one, recursion_from_All (λ other. time ≤ other) times is.least))
    (both_decided (contains_decided times time) (all_decided (λ other. time ≤ other) (λ other. le_decided time other) times))

-- ---- what a run stops by

refused_decided : (trace : Trace) (line : ℕ) → Decided (IsRefused trace line)
refused_decided trace line = by (next_of trace) where
  by : Next trace → Decided (IsRefused trace line)
  by (Over e) = inr (λ r. not_refused trace None line e r)
  by (Line event is) = inr (λ r. not_refused trace (Some event) line is r)
  by (Refused number r) = decided_by (λ (e : number ≡ line). subst (λ (n : ℕ). IsRefused trace n) e r) (λ s. one_refusal trace number line r s) (number_same number line)

module _ (policy : Policy) (seen : Seen) where
  pub done_decided : Decided (IsDone seen)
  done_decided = decided_by (λ (p : (seen.under_way ≡ false) × (seen.live ≡ 0)). record { between = p.0; nobody = p.1 }) (λ d. (d.between, d.nobody))
      (both_decided (bool_same seen.under_way false) (number_same seen.live 0))

  pub bad_decided : (line : ℕ) → Decided (IsBadTrace seen line)
  bad_decided line =
      decided_by (λ (p : (seen.under_way ≡ false) × ((seen.live ≢ 0) × IsRefused seen.trace line)). record { between = p.0; live = p.1.0; refused = p.1.1 }) (λ b. (b.between, (b.live, b.refused)))
      (both_decided (bool_same seen.under_way false) (both_decided (denied (number_same seen.live 0)) (refused_decided seen.trace line)))

  pub some_bad_decided : Decided ((line : ℕ) × IsBadTrace seen line)
  some_bad_decided = only_decided (λ line. IsBadTrace seen line) (seen.trace.lines + 1) (λ line bad. refused_number seen.trace line bad.refused) (bad_decided (seen.trace.lines + 1))

  abbrev IdleParts : Type 0
  IdleParts = (seen.under_way ≡ false) × ((seen.live ≢ 0) × ((seen.trace.bytes ≡ []) × ((any_ready policy seen seen.clock ≡ false) × (waking_times seen ≡ []))))

  pub idle_decided : Decided (IsIdle policy seen)
  idle_decided =
      decided_by (λ (p : IdleParts). record { between = p.0; live = p.1.0; over = p.1.1.0; none_ready = p.1.1.1.0; none_sleeps = p.1.1.1.1 })
      (λ i. (i.between, (i.live, (i.over, (i.none_ready, i.none_sleeps)))))
      (both_decided (bool_same seen.under_way false) (both_decided (denied (number_same seen.live 0)) (both_decided (text_same seen.trace.bytes [])
      (both_decided (bool_same (any_ready policy seen seen.clock) false) (text_same (waking_times seen) [])))))

  -- ---- the clock

  clock_decided : (stays : Bool) (next : Option Event) (clock : ℕ) → Decided (IsClockBy stays seen next clock)
  clock_decided true next clock = number_same clock seen.clock
  clock_decided false next clock = least_decided (event_times next ++ waking_times seen) clock

  abbrev ClockAt : Option Event → ℕ → Type 0
  ClockAt next clock = IsClockBy (is_due next seen.clock || any_ready policy seen seen.clock) seen next clock

  point_decided : (next : Option Event) (clock : ℕ) → IsNext seen.trace next → Decided (IsChoicePoint policy seen next clock)
  point_decided next clock is =
      decided_by (λ (p : (seen.under_way ≡ false) × ((seen.live ≢ 0) × ClockAt next clock)). record { between = p.0; live = p.1.0; next_is = is; clock_is = p.1.1 })
      (λ p. (p.between, (p.live, p.clock_is)))
      (both_decided (bool_same seen.under_way false) (both_decided (denied (number_same seen.live 0)) (clock_decided (is_due next seen.clock || any_ready policy seen seen.clock) next clock)))

  -- ---- what comes

  module _ (clock : ℕ) (item : Item) (drops : Bool) where
    abbrev Comes : Event → Type 0
    Comes event = IsDelivery policy seen clock event item drops

    abbrev ComesParts : Event → Type 0
    ComesParts event = IsChoicePoint policy seen (Some event) clock × ((is_due (Some event) clock ≡ true) × ((item ≡ item_of event.kind) × (drops ≡ is_dropped policy.backlog seen.source.exchange (delivery_of event.kind))))

    comes_decided : (event : Event) → IsNext seen.trace (Some event) → Decided (Comes event)
    comes_decided event is =
        decided_by (λ (p : ComesParts event). record { point = p.0; due = p.1.0; item_is = p.1.1.0; drops_is = p.1.1.1 }) (λ d. (d.point, (d.due, (d.item_is, d.drops_is))))
        (both_decided (point_decided (Some event) clock is) (both_decided (bool_same (is_due (Some event) clock) true) (both_decided (item_same item (item_of event.kind))
        (bool_same drops (is_dropped policy.backlog seen.source.exchange (delivery_of event.kind))))))

    pub delivery_decided : Decided ((event : Event) × Comes event)
    delivery_decided = by (next_of seen.trace) where
      by : Next seen.trace → Decided ((event : Event) × Comes event)
      by (Over e) = inr (λ d. let no : None ≡ Some d.0 = one_next seen.trace None (Some d.0) e d.1.point.next_is in absurd (cc))
      by (Line event is) = only_decided Comes event (λ other d. same_event other event (one_next seen.trace (Some other) (Some event) d.point.next_is is)) (comes_decided event is)
      by (Refused number r) = inr (λ d. not_refused seen.trace (Some d.0) number d.1.point.next_is r)

  -- ---- the choice

  module _ (clock : ℕ) where
    abbrev Turn : Option Event → Type 0
    Turn next = IsChoicePoint policy seen next clock × (is_due next clock ≡ false)

    turn_at : (next : Option Event) → IsNext seen.trace next → Decided (Turn next)
    turn_at next is = both_decided (point_decided next clock is) (bool_same (is_due next clock) false)

    turn_decided : Decided ((next : Option Event) × Turn next)
    turn_decided = by (next_of seen.trace) where
      known : (next : Option Event) → IsNext seen.trace next → Decided ((next : Option Event) × Turn next)
      known next is = only_decided Turn next (λ other t. one_next seen.trace other next t.0.next_is is) (turn_at next is)

      by : Next seen.trace → Decided ((next : Option Event) × Turn next)
      by (Over e) = known None e
      by (Line event is) = known (Some event) is
      by (Refused number r) = inr (λ t. not_refused seen.trace t.0 number t.1.0.next_is r)

    -- a number above each node at which a thread waits
    abbrev nodes_above : List Waiter → ℕ
    nodes_above [] = 0
    nodes_above (w ∷ waiting) = suc w.node + nodes_above waiting

    nobody_above : (waiting : List Waiter) (node : ℕ) → nodes_above waiting ≤ node → filter (λ w. nat_eq w.node node) waiting ≡ []
    nobody_above [] node past = refl
    nobody_above (w ∷ waiting) node past =
        let apart : nat_eq w.node node ≡ false = ne_eqb w.node node (λ e. omega (arith, past, e)) in
        let rest = nobody_above waiting node (omega (arith, past)) in
        rw apart rest

    abbrev Yields : Waiter → ℕ → Type 0
    Yields chosen other = other ≢ chosen.node → IsSome (find (is_eligible policy seen clock) (queue_at seen other)) →
        IsTrue (comes_before (score_of policy seen) (last_choice seen.past.taken) chosen.node other)

    nobody_yields : (chosen : Waiter) (other : ℕ) → nodes_above seen.waiting ≤ other → Yields chosen other
    nobody_yields chosen other past apart some =
        let none : is_some (find (is_eligible policy seen clock) []) ≡ true = subst (λ (queue : List Waiter). IsSome (find (is_eligible policy seen clock) queue)) (nobody_above seen.waiting other past) some in
        absurd (cc)

    graph_decided : (chosen : Waiter) → Decided (IsGraphChoice policy seen clock chosen)
    graph_decided chosen =
        decided_by (λ (p : (find (is_eligible policy seen clock) (queue_at seen chosen.node) ≡ Some chosen) × ((other : ℕ) → Yields chosen other)). record { first = p.0; least = p.1 })
        (λ c. (c.first, c.least))
        (both_decided (option_same waiter_same (find (is_eligible policy seen clock) (queue_at seen chosen.node)) (Some chosen))
        (everywhere (Yields chosen)
        (λ other. implied_decided (denied (number_same other chosen.node)) (implied_decided (bool_same (is_some (find (is_eligible policy seen clock) (queue_at seen other))) true)
        (bool_same (comes_before (score_of policy seen) (last_choice seen.past.taken) chosen.node other) true)))
        (nodes_above seen.waiting) (nobody_yields chosen)))

    abbrev IsBehind : List (ℕ × ℕ) → Waiter → Waiter → Type 0
    IsBehind tickets chosen other = IsTrue (is_eligible policy seen clock other) → other.thread ≢ chosen.thread → IsTrue (goes_before_at tickets seen chosen.thread other.thread)

    abbrev first_of : ℕ → Option Waiter
    first_of thread = find (λ w. is_eligible policy seen clock w && nat_eq w.thread thread) seen.waiting

    stride_decided : (tickets : List (ℕ × ℕ)) (chosen : Waiter) → Decided (IsStrideChoice tickets policy seen clock chosen)
    stride_decided tickets chosen =
        decided_by (λ (p : (first_of chosen.thread ≡ Some chosen) × AllByRecursion (IsBehind tickets chosen) seen.waiting). record { first = p.0; least = p.1 }) (λ c. (c.first, c.least))
        (both_decided (option_same waiter_same (first_of chosen.thread) (Some chosen))
        (all_decided (IsBehind tickets chosen)
        (λ other. implied_decided (bool_same (is_eligible policy seen clock other) true) (implied_decided (denied (number_same other.thread chosen.thread)) (bool_same (goes_before_at tickets seen chosen.thread other.thread) true)))
        seen.waiting))

    lawful_by : (rule : Rule) (chosen : Waiter) → Decided (IsLawfulBy rule policy seen clock chosen)
    lawful_by by_graph chosen = graph_decided chosen
    lawful_by (by_stride tickets) chosen = stride_decided tickets chosen

    choice_of : (chosen : Waiter) → Decided (IsChoice policy seen clock chosen)
    choice_of chosen = decided_by (λ (p : ((next : Option Event) × Turn next) × IsLawful policy seen clock chosen). record { next = p.0.0; point = p.0.1.0; not_due = p.0.1.1; lawful = p.1 })
        (λ c. ((c.next, (c.point, c.not_due)), c.lawful)) (both_decided turn_decided (lawful_by policy.rule chosen))

    -- by the thread and the node the choice is found
    abbrev found_by : Rule → ℕ → ℕ → Option Waiter
    found_by by_graph thread node = find (is_eligible policy seen clock) (queue_at seen node)
    found_by (by_stride tickets) thread node = first_of thread

    is_found : (rule : Rule) (thread node : ℕ) (chosen : Waiter) → IsLawfulBy rule policy seen clock chosen → thread ≡ chosen.thread → node ≡ chosen.node → found_by rule thread node ≡ Some chosen
    is_found by_graph thread node chosen lawful t n = subst (λ (m : ℕ). find (is_eligible policy seen clock) (queue_at seen m) ≡ Some chosen) (sym n) lawful.first
    is_found (by_stride tickets) thread node chosen lawful t n = subst (λ (m : ℕ). first_of m ≡ Some chosen) (sym t) lawful.first

    abbrev Chosen : ℕ → ℕ → Waiter → Type 0
    Chosen thread node chosen = IsChoice policy seen clock chosen × ((thread ≡ chosen.thread) × (node ≡ chosen.node))

    pub choice_decided : (thread node : ℕ) → Decided ((chosen : Waiter) × Chosen thread node chosen)
    choice_decided thread node = by (found_by policy.rule thread node) refl where
      found : (chosen : Waiter) → Chosen thread node chosen → found_by policy.rule thread node ≡ Some chosen
      found chosen c = is_found policy.rule thread node chosen c.0.lawful c.1.0 c.1.1

      by : (o : Option Waiter) → found_by policy.rule thread node ≡ o → Decided ((chosen : Waiter) × Chosen thread node chosen)
      by None e = inr (λ c. let no : None ≡ Some c.0 = sym e ∙ found c.0 c.1 in absurd (cc))
      by (Some w) e = only_decided (Chosen thread node) w (λ chosen c. let both : Some w ≡ Some chosen = sym e ∙ found chosen c in cc)
          (both_decided (choice_of w) (both_decided (number_same thread w.thread) (number_same node w.node)))
