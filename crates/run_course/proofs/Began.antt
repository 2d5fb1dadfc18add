-- The choice of a thread, and the beginning of its segment.
use Rattle.run_course.proofs.Common.{◌≡◌, ◌≢◌, ℕ, suc, ◌+◌, Bool, true, false, List, [], length, Option, Some, refl, sym, ap, ◌∙◌, subst, arith, le_refl, edges_of, EdgeLine, Event, monitor_of, observed, all_caps, any_ready, any_elsewhere, uses_of, IsNext, is_due, checked_of, Setup, setting_of, Segment, State, seen_of, IsChosenAs, IsChosen, IsBetween, IsWithin, run_state, run_segment, run_allowed, within_run, still_waiting, Pick, after_action, World, Setting, step, gate_after, MonitorState, NoneAbove, pressures, HasTaken, IsLawfulOf, IsUnderWay, noted_of, RuleState, is_eligible, score, Choice, is_ready_in, is_at_accept_in, any_ready_in, any_elsewhere_in, Tells, Begins, KeepsSetting, GoesOn, Held, KeepsPlaces, Turn, IsReached, Kept, known, is_picked, ThreadId, AreKeptBeside, HasAccounts, StandsBetween, StandsWithin, StepsAsSource, Rest}
use Rattle.lawful_log.specs.Choice.{IsRun}
use Rattle.resource_monitor.specs.declared.curves.Curve.{Curve}
use Rattle.run_course.proofs.Rules.{accounts_taken, kept_beside, kept_taken, noted_taken, rule_choice_told, told_along, told_picked, told_taken}
use Rattle.run_course.proofs.Going.{Along, along}
use Rattle.run_course.proofs.Ready.{ready_told, accept_told, any_ready_told, any_elsewhere_told}
use Rattle.run_course.proofs.Times.{timely_picked, timely_turn}
use Rattle.run_course.proofs.Turned.{of_kept, told_live}

module _ (g : Setup) (state : State) (k : Kept) (held : Held) (left : Rest) (stands : StandsBetween g state k held left) (next : Option Event) (known_is : known k.next ≡ Some next)
    (ready : any_ready_in held ≡ true) (uses : List ℕ) (uses_is : uses ≡ uses_of (seen_of state)) (within_caps : NoneAbove uses (all_caps g.policy)) where
  pub between : IsBetween g state (Some next) held.machine
  between = subst (λ (o : Option (Option Event)). IsBetween g state o held.machine) known_is stands.between

  monitor_is : observed k.monitor uses ≡ monitor_of g.policy (seen_of state)
  monitor_is =
      let m : MonitorState = k.monitor in
      let is = stands.past.monitor_is in
      ap (λ (c : List Curve). let v : MonitorState = record { curves = c; caps = m.caps; high = m.high; low = m.low; uses = uses; is_open = gate_after m.high m.low m.is_open (pressures c uses m.caps) } in v) is.curves
      ∙ ap (λ (c : List ℕ). let v : MonitorState = record { curves = g.policy.curves; caps = c; high = m.high; low = m.low; uses = uses; is_open = gate_after m.high m.low m.is_open (pressures g.policy.curves uses c) } in v) is.caps
      ∙ ap (λ (n : ℕ). let v : MonitorState = record { curves = g.policy.curves; caps = all_caps g.policy; high = n; low = m.low; uses = uses; is_open = gate_after n m.low m.is_open (pressures g.policy.curves uses (all_caps g.policy)) } in v) is.high
      ∙ ap (λ (n : ℕ). let v : MonitorState = record { curves = g.policy.curves; caps = all_caps g.policy; high = g.policy.high; low = n; uses = uses; is_open = gate_after g.policy.high n m.is_open (pressures g.policy.curves uses (all_caps g.policy)) } in v) is.low
      ∙ ap (λ (u : List ℕ). let v : MonitorState = record { curves = g.policy.curves; caps = all_caps g.policy; high = g.policy.high; low = g.policy.low; uses = u; is_open = gate_after g.policy.high g.policy.low m.is_open (pressures g.policy.curves u (all_caps g.policy)) } in v) uses_is
      ∙ ap (λ (b : Bool). let v : MonitorState = record { curves = g.policy.curves; caps = all_caps g.policy; high = g.policy.high; low = g.policy.low; uses = uses_of (seen_of state); is_open = b } in v) stands.gate

  pub some_ready : any_ready g.policy (seen_of state) held.machine.clock ≡ true
  some_ready = sym (any_ready_told g state held (Some next) between stands.of.setting) ∙ ready

  abbrev pub Lawful : Option Choice → Type 0
  Lawful o = IsLawfulOf k.rule (is_eligible (is_ready_in held) (is_at_accept_in held) (any_elsewhere_in held) (observed k.monitor uses).is_open) (score (observed k.monitor uses) k.graph.edges) o

  lawful_now : (o : Option Choice) → Lawful o → IsLawfulOf k.rule (is_eligible (is_ready_in held) (is_at_accept_in held) (any_elsewhere g.policy (seen_of state) held.machine.clock) (observed k.monitor uses).is_open)
      (score (observed k.monitor uses) (edges_of state.past.records)) o
  lawful_now o lawful =
      subst (λ (es : List EdgeLine). IsLawfulOf k.rule (is_eligible (is_ready_in held) (is_at_accept_in held) (any_elsewhere g.policy (seen_of state) held.machine.clock) (observed k.monitor uses).is_open)
      (score (observed k.monitor uses) es) o) stands.past.graph_is.edges
      (subst (λ (b : Bool). IsLawfulOf k.rule (is_eligible (is_ready_in held) (is_at_accept_in held) b (observed k.monitor uses).is_open)
      (score (observed k.monitor uses) k.graph.edges) o) (any_elsewhere_told g state held (Some next) between stands.of.setting) lawful)

  pub chosen_as : (o : Option Choice) → Lawful o → IsChosen g state held.machine.clock held.places o
  chosen_as o lawful = rule_choice_told g state held.machine.clock held.places between.formed.counted.numbered between.stands between.threads k.rule (is_ready_in held) (is_at_accept_in held) (observed k.monitor uses) stands.past.accounts stands.kept
      (ready_told g state held (Some next) between stands.of.setting) (accept_told g state held (Some next) between stands.of.setting) monitor_is some_ready o (lawful_now o lawful)

  -- ---- its segment begins

  module _ (choice : Choice) (lawful : Lawful (Some choice)) (rule : RuleState) (taken : HasTaken k.rule rule (is_eligible (is_ready_in held) (is_at_accept_in held) (any_elsewhere_in held) (observed k.monitor uses).is_open) choice) (under_way : IsUnderWay rule choice.thread) (new : Held) (keeps : KeepsSetting held new) (places : KeepsPlaces held new) (turn : Turn) (did : Begins held choice.thread.number turn new)
      (picks_law : (number : ℕ) (after : World) → after_action (setting_of g) held.machine (Pick number) ≡ Some after → IsReached (checked_of g) g.program (setting_of g) state.source number [] after)
      (law : (number : ℕ) → StepsAsSource g state number) where
    pub chosen : IsChosenAs g state held.machine.clock held.places choice
    chosen = chosen_as (Some choice) lawful

    pub picks_now : after_action (setting_of g) held.machine (Pick chosen.waiter.thread) ≡ Some did.picked
    picks_now = subst (λ (n : ℕ). after_action (setting_of g) held.machine (Pick n) ≡ Some did.picked) chosen.thread_is
        (subst (λ (s : Setting). after_action s held.machine (Pick choice.thread.number) ≡ Some did.picked) stands.of.setting did.picks)

    abbrev pub began_state : State
    began_state = run_state g state next held.machine between chosen.waiter did.picked picks_now

    abbrev pub began_segment : Segment
    began_segment = run_segment g state next held.machine between chosen.waiter did.picked picks_now

    pub run_is : held.machine.threads ≢ [] → IsNext state.trace next → is_due next held.machine.clock ≡ false → IsRun g state held.machine.clock choice.thread.number choice.node began_state
    run_is live next_is due =
        subst (λ (n : ℕ). IsRun g state held.machine.clock n choice.node began_state) (sym chosen.thread_is)
        (subst (λ (n : ℕ). IsRun g state held.machine.clock chosen.waiter.thread n began_state) (sym chosen.node_is)
        (run_allowed g state next held.machine between chosen.waiter did.picked picks_now live next_is due some_ready chosen.lawful))

    within_picked : IsWithin g began_state began_segment held.machine.cost did.picked began_state.waiting
    within_picked = within_run g state next held.machine between chosen.waiter did.picked picks_now

    pub there : Along g began_state began_segment held.machine.cost did.made.at began_state.waiting
    there = along g began_state began_segment held.machine.cost began_state.waiting (law chosen.waiter.thread) did.made.steps did.picked did.made.at
        (subst (λ (s : Setting). GoesOn s did.made.steps did.picked did.made.at) stands.of.setting did.made.goes_on)
        (record { within = within_run g state next held.machine between chosen.waiter did.picked picks_now; reached = picks_law chosen.waiter.thread did.picked picks_now })

    pub tells_now : Tells (step (setting_of g) did.made.at) turn chosen.waiter.thread did.made.at new
    tells_now = subst (λ (n : ℕ). Tells (step (setting_of g) did.made.at) turn n did.made.at new) chosen.thread_is
        (subst (λ (s : Setting). Tells (step s did.made.at) turn choice.thread.number did.made.at new) stands.of.setting did.made.tells)

    abbrev passes_now : ThreadId → Bool
    passes_now = is_eligible (is_ready_in held) (is_at_accept_in held) (any_elsewhere_in held) (observed k.monitor uses).is_open

    kept_now : AreKeptBeside held.places rule began_state.waiting choice.thread
    kept_now = kept_taken g state held.machine.clock held.places between.formed.counted.numbered between.stands between.threads passes_now (score (observed k.monitor uses) k.graph.edges) choice chosen k.rule rule
        stands.past.accounts stands.kept lawful taken under_way

    accounts_now : HasAccounts g.policy.rule rule began_state.past
    accounts_now = accounts_taken g state held.machine.clock held.places between.formed.counted.numbered between.stands between.threads passes_now (score (observed k.monitor uses) k.graph.edges) choice chosen k.rule rule
        stands.past.taken stands.past.accounts stands.kept lawful taken

    noted_now : noted_of rule ≡ noted_of k.rule + 1
    noted_now = noted_taken k.rule rule passes_now choice taken

    pub began : StandsWithin g began_state (record k { rule = rule; monitor = observed k.monitor uses }) new left (record { choice = choice; before = uses; turn = turn })
    began = record {
      of = of_kept g held new stands.of keeps
          (timely_turn held choice.thread.number did.picked turn new did.made (timely_picked held.setting held.machine did.picked choice.thread.number did.picks stands.of.timely));
      segment = began_segment;
      waiting = began_state.waiting;
      here = did.made.at;
      within = subst (λ (b : ℕ). IsWithin g began_state began_segment b did.made.at began_state.waiting) (sym did.begun) there.within;
      tells = tells_now;
      reached = there.reached;
      thread_is = chosen.thread_is;
      node_is = chosen.node_is;
      before_is = uses_is;
      within_caps = within_caps;
      placed = λ live. places choice.thread chosen.placed live;
      started = le_refl (length state.source.threads);
      kept = kept_beside held new rule began_state.waiting choice.thread places
          (told_live g began_state began_segment held.machine.cost did.made.at began_state.waiting there.within (step (setting_of g) did.made.at) turn chosen.waiter.thread new
          (still_waiting g began_state began_segment held.machine.cost did.made.at began_state.waiting there.within (step (setting_of g) did.made.at) refl) tells_now) kept_now;
      needed = told_along g began_state began_segment held.machine.cost began_state.waiting held.places rule choice.thread kept_now did.made.steps did.picked did.made.at
          (subst (λ (s : Setting). GoesOn s did.made.steps did.picked did.made.at) stands.of.setting did.made.goes_on) within_picked
          (told_picked g began_state began_segment held.machine.cost did.picked began_state.waiting within_picked held.places rule choice.thread kept_now held.machine
          (is_picked (setting_of g) held.machine chosen.waiter.thread did.picked picks_now).others (told_taken held.machine held.places state.waiting k.rule rule (is_eligible (is_ready_in held) (is_at_accept_in held) (any_elsewhere_in held) (observed k.monitor uses).is_open) choice taken stands.kept stands.needed));
      past = record {
        accounts = accounts_now;
        graph_is = record { keys = stands.past.graph_is.keys; edges = stands.past.graph_is.edges };
        monitor_is = record { curves = stands.past.monitor_is.curves; caps = stands.past.monitor_is.caps; high = stands.past.monitor_is.high; low = stands.past.monitor_is.low };
        taken = noted_now ∙ ap (λ (n : ℕ). n + 1) stands.past.taken ∙ (let e : length state.past.taken + 1 ≡ suc (length state.past.taken) = omega arith in e);
        noted = let is = noted_now in let most = stands.past.noted in let begun = did.begun in omega arith;
        records = let most = stands.past.records in let begun = did.begun in omega arith;
        keys = let most = stands.past.keys in let begun = did.begun in omega arith;
      };
      gate = ap (λ (m : MonitorState). m.is_open) monitor_is;
      read = stands.read;
    }
