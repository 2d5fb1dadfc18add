-- The end of a segment with its thread.
use Rattle.run_course.proofs.Common.{◌≡◌, ℕ, zero, suc, ◌+◌, ◌<◌, ◌≤◌, Bool, List, [], ◌∷◌, ◌++◌, length, Some, None, refl, sym, ap, ◌∙◌, subst, arith, append-nil, IsSome, slice_get, edges_of, edges_with, count_of, GraphState, all_caps, changes, newcomers, end_node, Waiter, uses_in, edges_more, gate_more, checked_of, HasRun, IsEnd, IsOver, Setup, setting_of, State, held_chunks, IsBetween, between_after, found_below, cost_of, over_end, ended_state, end_allowed, threads_ended, formed_after_end, World, thread_of, Move, Ends, step, gate_after, pressures, Tells, Held, segment_cost, Turn, IsFinishedIn, StepReaches, IsSettled, Under, Kept, known, StandsBetween, StandsWithin, StepsAsSource, KeepsThread, KeepsThread-step, AreKept, AreTold, Rest, HasLeft, RuleState, free_count}
use Rattle.run_course.proofs.Rules.{accounts_left, kept_left, noted_left, told_left, told_step}
use Rattle.run_course.proofs.Over.{begun_below, between_any, cost_after, edges_after, nothing_waits}

some_get : {X : Type 0} (xs : List X) (k : ℕ) → k < length xs → IsSome (slice_get xs k)
some_get [] k h = absurd (omega (arith, h))
some_get (x ∷ xs) zero h = refl
some_get (x ∷ xs) (suc k) h = some_get xs k (omega (arith, h))

pub record TellsEnd (move : Move) (cost : ℕ) (new : Held) : Type 0 where
  pub after : World
  pub step_is : move ≡ Ends after
  pub cost_is : cost ≡ segment_cost new
  pub machine : new.machine ≡ after
  pub going : new.stopped ≡ None

pub tells_end : (move : Move) (cost number : ℕ) (at : World) (new : Held) → Tells move (Turn.Ended cost) number at new → TellsEnd move cost new
tells_end (Ends after) cost number at new t = record { after = after; step_is = refl; cost_is = t.0; machine = t.1; going = t.2 }
tells_end _ cost number at new t = absurd t

module _ (g : Setup) (state : State) (k : Kept) (held : Held) (left : Rest) (under : Under) (stands : StandsWithin g state k held left under) (law : StepsAsSource g state stands.segment.thread)
    (cost : ℕ) (told : TellsEnd (step (setting_of g) stands.here) cost held) where
  pub reaches : IsFinishedIn (checked_of g) g.program (setting_of g) state.source stands.segment.thread stands.segment.puts told.after
  reaches = subst (StepReaches (checked_of g) g.program (setting_of g) state.source stands.segment.thread stands.segment.puts) told.step_is (law stands.segment.puts stands.here stands.within.formed stands.reached)

  pub run_is : HasRun g state stands.segment None reaches.0
  run_is = record { runs = reaches.1.runs; puts = reaches.1.outputs }

  abbrev pub over_state : State
  over_state = ended_state g state stands.segment held.begun stands.here stands.waiting stands.within told.after reaches.0

  over : IsOver stands.here told.after
  over = over_end g state stands.segment held.begun stands.here stands.waiting stands.within told.after told.step_is

  -- its thread is there in the source world after it
  pub was_there : IsSome (slice_get reaches.0.threads stands.segment.thread)
  was_there =
      let live = subst (λ (n : ℕ). thread_of stands.here n ≡ Some stands.reached.under_way.thread) stands.reached.of_thread stands.reached.under_way.live in
      let below = found_below stands.segment.thread 0 stands.here.next stands.here.threads stands.reached.under_way.thread stands.within.formed.counted.numbered live in
      let count = reaches.2.stands.next in let same = over.next in
      some_get reaches.0.threads stands.segment.thread (omega (arith, below, count, same))

  pub end_is : IsSome (slice_get reaches.0.threads stands.segment.thread) → IsEnd g state under.choice.thread.number cost (free_count held.machine.areas.pool) over_state
  end_is there =
      let is : IsEnd g state stands.segment.thread (cost_of g state stands.segment held.begun stands.here stands.waiting stands.within) (free_count held.machine.areas.pool) over_state =
      end_allowed g state stands.segment held.begun stands.here stands.waiting stands.within told.after reaches.0 (free_count held.machine.areas.pool) told.step_is run_is reaches.2.stands there (ap (λ (w : World). free_count w.areas.pool) told.machine) in
      subst (λ (n : ℕ). IsEnd g state n cost (free_count held.machine.areas.pool) over_state) (sym stands.thread_is)
      (subst (λ (n : ℕ). IsEnd g state stands.segment.thread n (free_count held.machine.areas.pool) over_state)
      (cost_after g state k held left under stands told.after told.machine over cost told.cost_is) is)

  module _ (uses : List ℕ) (uses_is : uses ≡ uses_in (held_chunks held.machine) held.machine.exchange) (rule : RuleState) (leaves : HasLeft k.rule rule under.choice.thread) (graph : GraphState) (keys_are : graph.keys ≡ k.graph.keys)
      (edges_are : graph.edges ≡ edges_with k.graph.edges (record { from = under.choice.node; to = end_node; cost = cost; change = changes under.before uses }))
      (counted : count_of graph.edges ≡ count_of k.graph.edges + 1) where
    edges_now : graph.edges ≡ edges_of over_state.past.records
    edges_now =
        edges_after g state k held left under stands told.after told.machine over uses uses_is reaches.0.exchange reaches.2.stands.exchange
        cost told.cost_is end_node end_node refl graph.edges edges_are ∙ sym (edges_more state.past.records _)

    kept_now : AreKept held.places rule over_state.waiting
    kept_now =
        let next : stands.here.next ≡ length reaches.0.threads = sym over.next ∙ reaches.2.stands.next in
        subst (λ (l : List Waiter). AreKept held.places rule l)
        (stands.within.waiting_is ∙ ap (λ (n : ℕ). state.waiting ++ newcomers state.source n) next ∙ sym (append-nil (state.waiting ++ newcomers state.source (length reaches.0.threads))))
        (kept_left held.places k.rule rule stands.waiting under.choice.thread stands.kept leaves
        (nothing_waits g state k held left under stands told.after told.machine over))

    below : held.begun + 1 ≤ held.machine.cost
    below = begun_below g state k held left under stands told.after told.machine over

    pub end_stands : StandsBetween g over_state (record k { rule = rule; graph = graph; under = None }) held left
    end_stands = record {
      of = stands.of;
      going = told.going;
      between = between_any g over_state held.machine (known k.next) (subst (λ (w : World). IsBetween g over_state None w) (sym told.machine)
          (between_after g over_state refl (formed_after_end g state stands.segment held.begun stands.here stands.waiting stands.within told.after told.step_is) reaches.2.stands
          (threads_ended g state stands.segment held.begun stands.here stands.waiting stands.within told.after reaches.0 told.step_is reaches.2.stands)));
      ended = λ none. ap (λ (w : World). w.clock) told.machine;
      settled = subst (IsSettled (checked_of g)) (sym told.machine) reaches.2.settled;
      kept = kept_now;
      needed = subst (λ (w : World). AreTold w rule) (sym told.machine) (told_left told.after held.places stands.waiting k.rule rule under.choice.thread leaves stands.kept
          (told_step g state stands.segment held.begun stands.here stands.waiting stands.within held.places k.rule under.choice.thread stands.kept stands.needed told.after
          (λ number apart old. subst (KeepsThread number stands.here) told.step_is (KeepsThread-step (setting_of g) number stands.here apart old))));
      past = record {
        accounts = accounts_left g.policy.rule k.rule rule state.past over_state.past under.choice.thread refl stands.past.accounts leaves;
        graph_is = record { keys = keys_are ∙ stands.past.graph_is.keys; edges = edges_now };
        monitor_is = stands.past.monitor_is;
        taken = noted_left k.rule rule under.choice.thread leaves ∙ stands.past.taken;
        noted = let same = noted_left k.rule rule under.choice.thread leaves in let most = stands.past.noted in let begun = below in omega arith;
        records = let most = stands.past.records in let begun = below in omega arith;
        keys = let most = stands.past.keys in let begun = below in let same = keys_are in
            let size : length graph.keys ≡ length k.graph.keys = ap (λ (ks : List (List ℕ)). length ks) same in omega arith;
      };
      gate = ap (λ (b : Bool). gate_after g.policy.high g.policy.low b (pressures g.policy.curves (uses_in (held_chunks told.after) reaches.0.exchange) (all_caps g.policy))) stands.gate ∙ sym (gate_more g.policy state.past (uses_in (held_chunks told.after) reaches.0.exchange));
      read = stands.read;
    }
