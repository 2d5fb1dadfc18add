-- What the log has at a choice point is one.
use Rattle.lawful_log.proofs.Common.{◌≡◌, ℕ, Bool, true, false, [], ◌∷◌, Option, Some, None, sym, ◌∙◌, ap, subst, is_dropped, IsLawful, is_due, IsChoicePoint, delivery_of, item_of, received, coming_entry, Waiter, behind, one_clock, one_choice, not_done, not_bad, not_idle, Event, Advance, Deliver, Pick, after_actions, World, Entry, Setup, setting_of, State, seen_of, IsRun, chosen_from, IsComing}
use Rattle.choice_rules.specs.Stops.{IsDone, IsBadTrace, IsIdle}
use Rattle.schedule_log.specs.declared.entries.Item.{Item}

module _ (g : Setup) (state : State) where
  record Comes (event : Event) (clock : ℕ) (entry : Entry) (after : State) : Type 0 where
    machine : World
    delivers : after_actions (setting_of g) (Advance clock ∷ Deliver (delivery_of event.kind) ∷ []) state.machine ≡ Some machine
    entry_is : entry ≡ coming_entry (is_dropped g.policy.backlog state.source.exchange (delivery_of event.kind)) clock (item_of event.kind)
    after_is : after ≡ record state {
      machine = machine;
      source = received (is_dropped g.policy.backlog state.source.exchange (delivery_of event.kind)) state.source (delivery_of event.kind);
      trace = behind state.trace event;
    }

  record Runs (clock : ℕ) (entry : Entry) (after : State) : Type 0 where
    chosen : Waiter
    lawful : IsLawful g.policy (seen_of state) clock chosen
    machine : World
    begins : after_actions (setting_of g) (Advance clock ∷ Pick chosen.thread ∷ []) state.machine ≡ Some machine
    entry_is : entry ≡ Entry.Run clock chosen.thread chosen.node
    after_is : after ≡ chosen_from state chosen machine

  abbrev TellsPoint : Option Event → ℕ → Bool → Entry → State → Type 0
  TellsPoint (Some event) clock true entry after = Comes event clock entry after
  TellsPoint None clock true entry after = ⊥
  TellsPoint next clock false entry after = Runs clock entry after

  pub record IsAtPoint (entry : Entry) (after : State) : Type 0 where
    pub next : Option Event
    pub clock : ℕ
    pub point : IsChoicePoint g.policy (seen_of state) next clock
    tells : TellsPoint next clock (is_due next clock) entry after

  one_coming : (event : Event) (clock : ℕ) (a b : Entry) (s t : State) → Comes event clock a s → Comes event clock b t → (a ≡ b) × (s ≡ t)
  one_coming event clock a b s t p q =
      let both : Some p.machine ≡ Some q.machine = sym p.delivers ∙ q.delivers in
      let machines : p.machine ≡ q.machine = cc in (
        p.entry_is ∙ sym q.entry_is,
        p.after_is ∙ ap (λ (w : World). record state {
          machine = w;
          source = received (is_dropped g.policy.backlog state.source.exchange (delivery_of event.kind)) state.source (delivery_of event.kind);
          trace = behind state.trace event;
        }) machines ∙ sym q.after_is,
      )

  one_running : (clock : ℕ) (a b : Entry) (s t : State) → Runs clock a s → Runs clock b t → (a ≡ b) × (s ≡ t)
  one_running clock a b s t p q =
      let chosen : p.chosen ≡ q.chosen = one_choice g.policy (seen_of state) clock p.chosen q.chosen p.lawful q.lawful in
      let both : Some p.machine ≡ Some q.machine =
      sym p.begins ∙ ap (λ (w : Waiter). after_actions (setting_of g) (Advance clock ∷ Pick w.thread ∷ []) state.machine) chosen ∙ q.begins in
      let machines : p.machine ≡ q.machine = cc in (
        p.entry_is ∙ ap (λ (w : Waiter). Entry.Run clock w.thread w.node) chosen ∙ sym q.entry_is,
        p.after_is ∙ ap (λ (w : Waiter). chosen_from state w p.machine) chosen ∙ ap (λ (w : World). chosen_from state q.chosen w) machines ∙ sym q.after_is,
      )

  one_point : (next : Option Event) (clock : ℕ) (due : Bool) (a b : Entry) (s t : State) → TellsPoint next clock due a s → TellsPoint next clock due b t → (a ≡ b) × (s ≡ t)
  one_point (Some event) clock true a b s t p q = one_coming event clock a b s t p q
  one_point None clock true a b s t p q = absurd p
  one_point _ clock false a b s t p q = one_running clock a b s t p q

  pub one_at_point : (a b : Entry) (s t : State) → IsAtPoint a s → IsAtPoint b t → (a ≡ b) × (s ≡ t)
  one_at_point a b s t p q =
      let same : (p.next ≡ q.next) × (p.clock ≡ q.clock) = one_clock g.policy (seen_of state) p.next q.next p.clock q.clock p.point q.point in
      one_point q.next q.clock (is_due q.next q.clock) a b s t
      (subst (λ (c : ℕ). TellsPoint q.next c (is_due q.next c) a s) same.1
      (subst (λ (n : Option Event). TellsPoint n p.clock (is_due n p.clock) a s) same.0 p.tells))
      q.tells

  -- ---- the rules say so

  come_at : (event : Event) (clock : ℕ) (entry : Entry) (after : State) → is_due (Some event) clock ≡ true → Comes event clock entry after →
      TellsPoint (Some event) clock (is_due (Some event) clock) entry after
  come_at event clock entry after due t = subst (λ (b : Bool). TellsPoint (Some event) clock b entry after) (sym due) t

  run_at : (next : Option Event) (clock : ℕ) (entry : Entry) (after : State) → Runs clock entry after → TellsPoint next clock false entry after
  run_at None clock entry after t = t
  run_at (Some event) clock entry after t = t

  pub coming_point : (clock : ℕ) (item : Item) (drops : Bool) (after : State) → IsComing g state clock item drops after → IsAtPoint (coming_entry drops clock item) after
  coming_point clock item drops after p = record {
    next = Some p.event;
    clock = clock;
    point = p.delivery.point;
    tells = come_at p.event clock (coming_entry drops clock item) after p.delivery.due (record {
      machine = p.machine;
      delivers = p.delivers;
      entry_is = ap (λ (b : Bool). coming_entry b clock item) p.delivery.drops_is ∙ ap (λ (i : Item). coming_entry (is_dropped g.policy.backlog state.source.exchange (delivery_of p.event.kind)) clock i) p.delivery.item_is;
      after_is = p.after_is ∙ ap (λ (b : Bool). record state {
        machine = p.machine;
        source = received b state.source (delivery_of p.event.kind);
        trace = behind state.trace p.event;
      }) p.delivery.drops_is;
    });
  }

  pub run_point : (clock thread node : ℕ) (after : State) → IsRun g state clock thread node after → IsAtPoint (Entry.Run clock thread node) after
  run_point clock thread node after p = record {
    next = p.choice.next;
    clock = clock;
    point = p.choice.point;
    tells = subst (λ (b : Bool). TellsPoint p.choice.next clock b (Entry.Run clock thread node) after) (sym p.choice.not_due) (run_at p.choice.next clock (Entry.Run clock thread node) after (record {
      chosen = p.chosen;
      lawful = p.choice.lawful;
      machine = p.machine;
      begins = subst (λ (n : ℕ). after_actions (setting_of g) (Advance clock ∷ Pick n ∷ []) state.machine ≡ Some p.machine) p.thread_is p.begins;
      entry_is = ap (λ (n : ℕ). Entry.Run clock n node) p.thread_is ∙ ap (λ (n : ℕ). Entry.Run clock p.chosen.thread n) p.node_is;
      after_is = p.after_is;
    }));
  }

  -- ---- stops between segments

  pub point_not_done : (a : Entry) (s : State) → IsAtPoint a s → IsDone (seen_of state) → ⊥
  point_not_done a s p q = not_done g.policy (seen_of state) p.next p.clock p.point q

  pub point_not_bad : (a : Entry) (s : State) (line : ℕ) → IsAtPoint a s → IsBadTrace (seen_of state) line → ⊥
  point_not_bad a s line p q = not_bad g.policy (seen_of state) p.next p.clock line p.point q

  pub point_not_idle : (a : Entry) (s : State) → IsAtPoint a s → IsIdle g.policy (seen_of state) → ⊥
  point_not_idle a s p q = not_idle g.policy (seen_of state) p.next p.clock p.point q
