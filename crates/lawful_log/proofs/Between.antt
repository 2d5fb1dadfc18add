-- How a choice point goes on: what comes, and the choice of a thread.
use Rattle.lawful_log.proofs.Common.{◌≡◌, ◌≢◌, ℕ, ◌-◌, ◌≤◌, ◌&&◌, ◌||◌, Bool, true, false, List, [], ◌∷◌, ◌++◌, length, map, Option, Some, None, refl, sym, ap, ◌∙◌, arith, subst, inl, append-nil, nat_le, is_none, is_some, if◌then◌else◌, AllByRecursion, range_with_len, nat_tests, Delivery, is_dropped, with_delivery, Event, IsLawful, any_ready, waking_times, IsNext, behind, Waiter, uses_of, is_due, event_times, IsLeastOf, IsChoicePoint, delivery_of, item_of, received, IsRun, chosen_from, IsComing, checked_of, Setup, setting_of, Segment, State, seen_of, Action, Deliver, Advance, Pick, delivered, advanced, after_action, after_actions, and_then, StandsForWorld, World, Setting, IsWellFormed, IsWellFormedIf, DeliversWords, IsWellFormedIf-action, goes_on, IsWaiting, AreWaiting, IsBetween, IsWithin, or_right}
use Rattle.std.proofs.lemmas.List.{nil_from_length}
use Rattle.lawful_log.proofs.Clocks.{clock_by, moves_to}
use Rattle.lawful_log.proofs.Picked.{is_picked, waiting_picked}

module _ (g : Setup) (state : State) where
  -- the step goes on from here, where the next line is good and something goes on at the clock
  pub point : (next : Option Event) (machine : World) → IsBetween g state (Some next) machine → machine.threads ≢ [] → IsNext state.trace next → goes_on g state next machine.clock ≡ true →
      IsChoicePoint g.policy (seen_of state) next machine.clock
  point next machine is live next_is goes = record {
    between = ap (λ (o : Option Segment). is_some o) is.between;
    live = λ e. live (ap (λ (w : World). w.threads) is.machine_is ∙ nil_from_length state.machine.threads e);
    next_is = next_is;
    clock_is = clock_by g state next machine.clock is.clock_is goes;
  }

  -- ---- the clock moves

  le_true : (a b : ℕ) → a ≤ b → nat_le a b ≡ true
  le_true a b h = grind (arith, nat_tests, h)

  advances : (s : Setting) (w : World) (clock : ℕ) → w.running ≡ None → w.clock ≤ clock → after_action s w (Advance clock) ≡ Some (advanced w clock)
  advances s w clock between later =
      ap (λ (o : Option ℕ). if is_none o && nat_le w.clock clock then Some (advanced w clock) else None) between
      ∙ ap (λ (b : Bool). if b then Some (advanced w clock) else None) (le_true w.clock clock later)

  delivers : (s : Setting) (w : World) (delivery : Delivery) → w.running ≡ None → after_action s w (Deliver delivery) ≡ Some (delivered s w delivery)
  delivers s w delivery between = ap (λ (o : Option ℕ). if is_none o then Some (delivered s w delivery) else None) between

  two : (s : Setting) (w v : World) (first second : Action) (o : Option World) → after_action s w first ≡ Some v → after_action s v second ≡ o → after_actions s (first ∷ second ∷ []) w ≡ and_then o (after_actions s [])
  two s w v first second o e f = ap (λ (p : Option World). and_then p (after_actions s (second ∷ []))) e ∙ ap (λ (p : Option World). and_then p (after_actions s [])) f

  -- ---- what comes

  module _ (event : Event) (machine : World) (is : IsBetween g state (Some (Some event)) machine) (words : DeliversWords (Deliver (delivery_of event.kind))) where
    abbrev pub delivery : Delivery
    delivery = delivery_of event.kind

    abbrev pub drops : Bool
    drops = is_dropped g.policy.backlog state.source.exchange delivery

    abbrev pub came : World
    came = delivered (setting_of g) machine delivery

    abbrev pub come_state : State
    come_state = record state { machine = came; source = received drops state.source delivery; trace = behind state.trace event }

    idle_machine : machine.running ≡ None
    idle_machine = ap (λ (w : World). w.running) is.machine_is ∙ is.stands.between

    exchange_is : machine.exchange ≡ state.source.exchange
    exchange_is = ap (λ (w : World). w.exchange) is.machine_is ∙ is.stands.exchange

    formed_now : IsWellFormed (checked_of g) (setting_of g) machine
    formed_now =
        let there = IsWellFormedIf-action (checked_of g) (setting_of g) state.machine (Advance machine.clock) tt is.formed in
        let now : IsWellFormed (checked_of g) (setting_of g) (advanced state.machine machine.clock) =
        subst (IsWellFormedIf (checked_of g) (setting_of g)) (advances (setting_of g) state.machine machine.clock is.stands.between is.later) there in
        subst (IsWellFormed (checked_of g) (setting_of g)) (sym is.machine_is) now

    actions : after_actions (setting_of g) (Advance machine.clock ∷ Deliver delivery ∷ []) state.machine ≡ Some came
    actions = two (setting_of g) state.machine machine (Advance machine.clock) (Deliver delivery) (Some came)
        (advances (setting_of g) state.machine machine.clock is.stands.between is.later ∙ ap Some (sym is.machine_is))
        (delivers (setting_of g) machine delivery idle_machine)

    pub coming : machine.threads ≢ [] → IsNext state.trace (Some event) → is_due (Some event) machine.clock ≡ true → IsComing g state machine.clock (item_of event.kind) drops come_state
    coming live next_is due = record {
      event = event;
      delivery = record {
        point = point (Some event) machine is live next_is (ap (λ (b : Bool). b || any_ready g.policy (seen_of state) machine.clock) due);
        due = due;
        item_is = refl;
        drops_is = refl;
      };
      machine = came;
      delivers = actions;
      after_is = refl;
    }

    stands_now : StandsForWorld (checked_of g) g.program machine state.source
    stands_now = subst (λ (w : World). StandsForWorld (checked_of g) g.program w state.source) (sym is.machine_is)
        (record { between = is.stands.between; threads = is.stands.threads; globals_are = is.stands.globals_are; exchange = is.stands.exchange; next = is.stands.next })

    stands_by : (b : Bool) → StandsForWorld (checked_of g) g.program (if b then machine else record machine { exchange = with_delivery machine.exchange delivery }) (received b state.source delivery)
    stands_by true = stands_now
    stands_by false = record {
      between = stands_now.between;
      threads = stands_now.threads;
      globals_are = stands_now.globals_are;
      exchange = ap (λ x. with_delivery x delivery) exchange_is;
      next = stands_now.next;
    }

    stands_came : StandsForWorld (checked_of g) g.program came (received drops state.source delivery)
    stands_came = subst (λ (b : Bool). StandsForWorld (checked_of g) g.program (if b then machine else record machine { exchange = with_delivery machine.exchange delivery }) (received drops state.source delivery))
        (ap (λ x. is_dropped g.policy.backlog x delivery) (sym exchange_is)) (stands_by drops)

    waiting_now : AreWaiting machine state.waiting
    waiting_now = subst (λ (w : World). AreWaiting w state.waiting) (sym is.machine_is)
        (record { each = all_moved state.waiting is.threads.each; once = is.threads.once; running = is.threads.running; all = is.threads.all }) where
          all_moved : (waiting : List Waiter) → AllByRecursion (IsWaiting state.machine) waiting → AllByRecursion (IsWaiting (advanced state.machine machine.clock)) waiting
          all_moved [] all = tt
          all_moved (x ∷ waiting) all = (record { thread = all.0.thread; live = all.0.live; since = all.0.since }, all_moved waiting all.1)

    waiting_by : (b : Bool) → AreWaiting (if b then machine else record machine { exchange = with_delivery machine.exchange delivery }) state.waiting
    waiting_by true = waiting_now
    waiting_by false = record { each = all_same state.waiting waiting_now.each; once = waiting_now.once; running = waiting_now.running; all = waiting_now.all } where
      all_same : (waiting : List Waiter) → AllByRecursion (IsWaiting machine) waiting → AllByRecursion (IsWaiting (record machine { exchange = with_delivery machine.exchange delivery })) waiting
      all_same [] all = tt
      all_same (x ∷ waiting) all = (record { thread = all.0.thread; live = all.0.live; since = all.0.since }, all_same waiting all.1)

    formed_came : IsWellFormed (checked_of g) (setting_of g) came
    formed_came = subst (IsWellFormedIf (checked_of g) (setting_of g)) (delivers (setting_of g) machine delivery idle_machine)
        (IsWellFormedIf-action (checked_of g) (setting_of g) machine (Deliver delivery) words formed_now)

    pub between_came : IsBetween g come_state None came
    between_came = record {
      between = is.between;
      formed = formed_came;
      stands = stands_came;
      threads = waiting_by (is_dropped g.policy.backlog machine.exchange delivery);
      machine_is = refl;
      later = omega arith;
      clock_is = refl;
    }

  -- ---- the choice of a thread

  module _ (next : Option Event) (machine : World) (is : IsBetween g state (Some next) machine) (chosen : Waiter) (picked_world : World)
      (picks : after_action (setting_of g) machine (Pick chosen.thread) ≡ Some picked_world) where
    resting : machine.running ≡ None
    resting = ap (λ (w : World). w.running) is.machine_is ∙ is.stands.between

    formed_there : IsWellFormed (checked_of g) (setting_of g) machine
    formed_there =
        let there = IsWellFormedIf-action (checked_of g) (setting_of g) state.machine (Advance machine.clock) tt is.formed in
        let now : IsWellFormed (checked_of g) (setting_of g) (advanced state.machine machine.clock) =
        subst (IsWellFormedIf (checked_of g) (setting_of g)) (advances (setting_of g) state.machine machine.clock is.stands.between is.later) there in
        subst (IsWellFormed (checked_of g) (setting_of g)) (sym is.machine_is) now

    abbrev pub run_state : State
    run_state = chosen_from state chosen picked_world

    abbrev pub run_segment : Segment
    run_segment = record { thread = chosen.thread; node = chosen.node; uses = uses_of (seen_of state); cost = 0; puts = [] }

    pub run_allowed : machine.threads ≢ [] → IsNext state.trace next → is_due next machine.clock ≡ false → any_ready g.policy (seen_of state) machine.clock ≡ true → IsLawful g.policy (seen_of state) machine.clock chosen →
        IsRun g state machine.clock chosen.thread chosen.node run_state
    run_allowed live next_is due ready lawful = record {
      chosen = chosen;
      choice = record {
        next = next;
        point = point next machine is live next_is (or_right (is_due next machine.clock) (any_ready g.policy (seen_of state) machine.clock) ready);
        not_due = due;
        lawful = lawful;
      };
      thread_is = refl;
      node_is = refl;
      machine = picked_world;
      begins = two (setting_of g) state.machine machine (Advance machine.clock) (Pick chosen.thread) (Some picked_world)
          (advances (setting_of g) state.machine machine.clock is.stands.between is.later ∙ ap Some (sym is.machine_is)) picks;
      after_is = refl;
    }

    all_there : (waiting : List Waiter) → AllByRecursion (IsWaiting state.machine) waiting → AllByRecursion (IsWaiting (advanced state.machine machine.clock)) waiting
    all_there [] all = tt
    all_there (x ∷ waiting) all = (record { thread = all.0.thread; live = all.0.live; since = all.0.since }, all_there waiting all.1)

    waiting_there : AreWaiting machine state.waiting
    waiting_there = subst (λ (w : World). AreWaiting w state.waiting) (sym is.machine_is)
        (record { each = all_there state.waiting is.threads.each; once = is.threads.once; running = is.threads.running; all = is.threads.all })

    pub within_run : IsWithin g run_state run_segment machine.cost picked_world run_state.waiting
    within_run =
        let kept = is_picked (setting_of g) machine chosen.thread picked_world picks in
        let next_is : picked_world.next ≡ length state.source.threads = kept.next ∙ ap (λ (w : World). w.next) is.machine_is ∙ is.stands.next in
        let none : picked_world.next - length state.source.threads ≡ 0 = omega arith in
        record {
          under_way = refl;
          steps = 0;
          quiet = refl;
          cost = omega arith;
          since = let same = kept.cost in omega arith;
          formed = subst (IsWellFormedIf (checked_of g) (setting_of g)) picks (IsWellFormedIf-action (checked_of g) (setting_of g) machine (Pick chosen.thread) tt formed_there);
          running = kept.running;
          started = omega arith;
          waiting_is = sym (append-nil run_state.waiting)
              ∙ ap (λ (n : ℕ). run_state.waiting ++ map (λ (thread : ℕ). let w : Waiter = record { thread = thread; node = 0; since = 0 } in w) (range_with_len (length state.source.threads) n)) (sym none);
          threads = waiting_picked machine picked_world chosen.thread state.waiting resting kept waiting_there;
        }

-- ---- the same between segments after one has ended

-- a segment has ended in a world that stands for the source's
pub between_after : (g : Setup) (state : State) → state.segment ≡ None → IsWellFormed (checked_of g) (setting_of g) state.machine → StandsForWorld (checked_of g) g.program state.machine state.source →
    AreWaiting state.machine state.waiting → IsBetween g state None state.machine
between_after g state between formed stands threads = record {
  between = between;
  formed = formed;
  stands = stands;
  threads = threads;
  machine_is = refl;
  later = omega arith;
  clock_is = refl;
}

-- the next line has been looked at
pub between_read : (g : Setup) (state : State) (machine : World) (next : Option Event) → IsBetween g state None machine → IsBetween g state (Some next) machine
between_read g state machine next is = record {
  between = is.between;
  formed = is.formed;
  stands = is.stands;
  threads = is.threads;
  machine_is = is.machine_is;
  later = is.later;
  clock_is = inl is.clock_is;
}

-- the clock goes on
pub between_moved : (g : Setup) (state : State) (machine : World) (next : Option Event) (time : ℕ) → IsBetween g state (Some next) machine → machine.clock ≤ time → goes_on g state next machine.clock ≡ false →
    IsLeastOf (event_times next ++ waking_times (seen_of state)) time → IsBetween g state (Some next) (advanced machine time)
between_moved g state machine next time is later stuck least = record {
  between = is.between;
  formed = is.formed;
  stands = is.stands;
  threads = is.threads;
  machine_is = ap (λ (w : World). advanced w time) is.machine_is;
  later = let before = is.later in omega arith;
  clock_is = moves_to g state next machine.clock time is.clock_is stuck least;
}
