-- The end of a segment: at a blocking call, or with its thread.
use Rattle.run_course.proofs.Common.{◌≡◌, ℕ, ◌+◌, ◌-◌, ◌≤◌, Bool, false, List, [], ◌∷◌, ◌++◌, length, Option, Some, None, refl, sym, ap, ◌∙◌, subst, arith, IsSome, drop, edges_of, edges_with, count_of, GraphState, keys_with, node_number, EdgeLine, Pool, free_count, Exchange, ProgramTree, lowered, Event, all_caps, changes, Waiter, uses_in, newcomers, waits, edges_more, gate_more, checked_of, HasRun, IsBlock, IsOver, Setup, setting_of, State, held_chunks, IsBetween, between_after, between_read, cost_of, cost_is, over_block, rests_blocked, RestsBlocked, blocked_state, block_allowed, threads_blocked, formed_after_block, Core, Checked, IsPast, Thread, World, thread_of, Move, Blocks, step, gate_after, pressures, HasRejoined, RuleState, waiter_of, none_waiting, Tells, HasKey, HasKeyOf, Held, segment_cost, Turn, IsFinishedIn, StepReaches, IsSettled, Under, Kept, known, IsOf, StandsBetween, StandsWithin, StepsAsSource, KeepsThread, KeepsThread-step, IsNeeded, AreKept, AreTold, Rest, Need}
use Rattle.c_mean.specs.Frames.{Waiting, key_of}
use Rattle.machine_world.specs.Rests.{IsResting, PastCall}
use Rattle.machine_meaning.specs.Between.{resting_key}
use Rattle.machine_meaning.proofs.SiteKeys.{key_is}
use Rattle.segment_run.specs.Contexts as core
use Rattle.run_course.proofs.Rules.{accounts_rejoined, kept_rejoined, noted_rejoined, told_rejoined, told_step}
use Rattle.run_course.proofs.Turned.{some_live}

-- ---- the key

key_by : (c : Checked) (program : ProgramTree) (pool : Pool) (core : Core) (key : List ℕ) (waiting : Waiting) (rests : IsResting c pool core) → IsPast c pool core rests → HasKeyOf c pool core key → resting_key c pool core rests ≡ key_of waiting → key ≡ key_of waiting
key_by c program pool core key waiting (PastCall f i op word place frames in_place) past has law = has.is f i word op place frames in_place ∙ law
key_by c program pool core key waiting _ past has law = absurd past

pub record TellsBlock (move : Move) (key : List ℕ) (cost : ℕ) (number : ℕ) (new : Held) : Type 0 where
  pub after : World
  pub step_is : move ≡ Blocks after
  pub key_is : HasKey (core.checked_of new.accepted) after (thread_of after number) key
  pub cost_is : cost ≡ segment_cost new
  pub machine : new.machine ≡ after
  pub going : new.stopped ≡ None

pub tells_block : (move : Move) (key : List ℕ) (cost number : ℕ) (at : World) (new : Held) → Tells move (Turn.Blocked key cost) number at new → TellsBlock move key cost number new
tells_block (Blocks after) key cost number at new t = record { after = after; step_is = refl; key_is = t.0; cost_is = t.1; machine = t.2; going = t.3 }
tells_block _ key cost number at new t = absurd t

pub checked_same : (g : Setup) (held : Held) → IsOf g held → core.checked_of held.accepted ≡ checked_of g
checked_same g held of =
    ap (λ (p : ProgramTree). let c : Checked = record { flat = lowered p; certificate = held.accepted.certificate } in c) of.program
    ∙ ap (λ x. let c : Checked = record { flat = lowered g.program; certificate = x } in c) of.certificate

pub between_any : (g : Setup) (state : State) (machine : World) (o : Option (Option Event)) → IsBetween g state None machine → IsBetween g state o machine
between_any g state machine None is = is
between_any g state machine (Some next) is = between_read g state machine next is

-- ---- at either end

module _ (g : Setup) (state : State) (k : Kept) (held : Held) (left : Rest) (under : Under) (stands : StandsWithin g state k held left under) (after : World)
    (machine_is : held.machine ≡ after) (over : IsOver stands.here after) where
  pub cost_after : (cost : ℕ) → cost ≡ segment_cost held → cost_of g state stands.segment held.begun stands.here stands.waiting stands.within ≡ cost
  cost_after cost told = cost_is g state stands.segment held.begun stands.here stands.waiting stands.within after over
      ∙ ap (λ (w : World). w.cost - held.begun) (sym machine_is) ∙ sym told

  pub begun_below : held.begun + 1 ≤ held.machine.cost
  begun_below =
      let here : held.machine.cost ≡ stands.here.cost + 1 = ap (λ (w : World). w.cost) machine_is ∙ over.cost in
      let way = stands.within.cost in let since = stands.within.since in omega arith

  pub nothing_waits : waiter_of under.choice.thread.number stands.waiting ≡ None
  nothing_waits = none_waiting stands.waiting under.choice.thread.number
      (subst (λ (n : ℕ). waits stands.waiting n ≡ false) (sym stands.thread_is) (stands.within.threads.running stands.segment.thread stands.within.running))

  module _ (uses : List ℕ) (uses_is : uses ≡ uses_in (held_chunks held.machine) held.machine.exchange) (exchange : Exchange)
      (exchange_is : after.exchange ≡ exchange) where
    uses_same : uses ≡ uses_in (held_chunks after) exchange
    uses_same = uses_is ∙ ap (λ (w : World). uses_in (held_chunks w) w.exchange) machine_is
        ∙ ap (λ (x : Exchange). (after.areas.pool.count - free_count after.areas.pool) ∷ drop 1 x.uses) exchange_is

    -- the edge is that of the segment's record
    pub edges_after : (cost : ℕ) → cost ≡ segment_cost held → (node to : ℕ) → node ≡ to → (edges : List EdgeLine) →
        edges ≡ edges_with k.graph.edges (record { from = under.choice.node; to = node; cost = cost; change = changes under.before uses }) →
        edges ≡ edges_with (edges_of state.past.records) (record {
          from = stands.segment.node;
          to = to;
          cost = cost_of g state stands.segment held.begun stands.here stands.waiting stands.within;
          change = changes stands.segment.uses (uses_in (held_chunks after) exchange);
        })
    edges_after cost told node to node_is edges edges_are =
        edges_are ∙ rw (stands.past.graph_is.edges, stands.node_is, node_is, ← cost_after cost told, stands.before_is, uses_same) refl

module _ (g : Setup) (state : State) (k : Kept) (held : Held) (left : Rest) (under : Under) (stands : StandsWithin g state k held left under) (law : StepsAsSource g state stands.segment.thread)
    (key : List ℕ) (cost : ℕ) (told : TellsBlock (step (setting_of g) stands.here) key cost stands.segment.thread held) where
  pub reaches : IsFinishedIn (checked_of g) g.program (setting_of g) state.source stands.segment.thread stands.segment.puts told.after
  reaches = subst (StepReaches (checked_of g) g.program (setting_of g) state.source stands.segment.thread stands.segment.puts) told.step_is (law stands.segment.puts stands.here stands.within.formed stands.reached)

  pub run_is : HasRun g state stands.segment None reaches.0
  run_is = record { runs = reaches.1.runs; puts = reaches.1.outputs }

  pub rests : RestsBlocked g state stands.segment held.begun stands.here stands.waiting stands.within told.after reaches.0
  rests = rests_blocked g state stands.segment held.begun stands.here stands.waiting stands.within told.after reaches.0 told.step_is reaches.2.stands

  has_key : HasKeyOf (checked_of g) told.after.areas.pool rests.thread.core key
  has_key = subst (λ (c : Checked). HasKeyOf c told.after.areas.pool rests.thread.core key) (checked_same g held stands.of)
      (subst (λ (o : Option Thread). HasKey (core.checked_of held.accepted) told.after o key) rests.live told.key_is)

  pub key_same : key ≡ key_of rests.waiting_at
  key_same = key_by (checked_of g) g.program told.after.areas.pool rests.thread.core key rests.waiting_at rests.blocked.rests rests.blocked.past has_key
      (key_is (checked_of g) g.program told.after.areas.pool rests.thread.core rests.blocked.rests rests.waiting_at rests.blocked.stands)

  abbrev pub over_state : State
  over_state = blocked_state g state stands.segment held.begun stands.here stands.waiting stands.within told.after reaches.0 key

  over : IsOver stands.here told.after
  over = over_block g state stands.segment held.begun stands.here stands.waiting stands.within told.after told.step_is

  pub block_is : (node : ℕ) → node ≡ node_number k.graph.keys key → IsBlock g state under.choice.thread.number node key cost (free_count held.machine.areas.pool) over_state
  block_is node node_is =
      let there : IsBlock g state stands.segment.thread (node_number state.past.keys key) key (cost_of g state stands.segment held.begun stands.here stands.waiting stands.within) (free_count held.machine.areas.pool) over_state =
      block_allowed g state stands.segment held.begun stands.here stands.waiting stands.within told.after reaches.0 key (free_count held.machine.areas.pool) told.step_is run_is rests key_same (ap (λ (w : World). free_count w.areas.pool) told.machine) in
      subst (λ (n : ℕ). IsBlock g state n node key cost (free_count held.machine.areas.pool) over_state) (sym stands.thread_is)
      (subst (λ (n : ℕ). IsBlock g state stands.segment.thread n key cost (free_count held.machine.areas.pool) over_state) (sym (node_is ∙ ap (λ (ks : List (List ℕ)). node_number ks key) stands.past.graph_is.keys))
      (subst (λ (n : ℕ). IsBlock g state stands.segment.thread (node_number state.past.keys key) key n (free_count held.machine.areas.pool) over_state)
      (cost_after g state k held left under stands told.after told.machine over cost told.cost_is) there))

  pub live_is : thread_of held.machine under.choice.thread.number ≡ Some rests.thread
  live_is = ap (λ (n : ℕ). thread_of held.machine n) stands.thread_is ∙ ap (λ (w : World). thread_of w stands.segment.thread) told.machine ∙ rests.live

  pub live_now : IsSome (thread_of held.machine under.choice.thread.number)
  live_now = some_live held.machine under.choice.thread.number rests.thread live_is

  -- ---- how the run stands after it

  module _ (node : ℕ) (node_is : node ≡ node_number k.graph.keys key) (uses : List ℕ) (uses_is : uses ≡ uses_in (held_chunks held.machine) held.machine.exchange) (rule : RuleState) (need : Need) (joins : HasRejoined k.rule rule under.choice.thread node need)
      (own : IsNeeded held.machine (record { thread = under.choice.thread; need = need })) (graph : GraphState)
      (keys_are : graph.keys ≡ keys_with k.graph.keys key)
      (edges_are : graph.edges ≡ edges_with k.graph.edges (record { from = under.choice.node; to = node; cost = cost; change = changes under.before uses }))
      (counted : count_of graph.edges ≡ count_of k.graph.edges + 1) (few : length graph.keys ≤ length k.graph.keys + 1) where
    number_same : node ≡ node_number state.past.keys key
    number_same = node_is ∙ ap (λ (ks : List (List ℕ)). node_number ks key) stands.past.graph_is.keys

    edges_now : graph.edges ≡ edges_of over_state.past.records
    edges_now =
        edges_after g state k held left under stands told.after told.machine over uses uses_is reaches.0.exchange reaches.2.stands.exchange
        cost told.cost_is node (node_number state.past.keys key) number_same graph.edges edges_are ∙ sym (edges_more state.past.records _)

    kept_now : AreKept held.places rule over_state.waiting
    kept_now =
        let last : ℕ → ℕ → List Waiter = λ thread at. record { thread = thread; node = at; since = told.after.clock } ∷ [] in
        let all : AreKept held.places rule (stands.waiting ++ last under.choice.thread.number node) =
        kept_rejoined held.places k.rule rule stands.waiting under.choice.thread node told.after.clock need stands.kept joins (stands.placed live_now)
        (nothing_waits g state k held left under stands told.after told.machine over) in
        let next : stands.here.next ≡ length reaches.0.threads = sym over.next ∙ reaches.2.stands.next in
        subst (λ (l : List Waiter). AreKept held.places rule l)
        (ap (λ (n : ℕ). stands.waiting ++ last n node) stands.thread_is ∙ ap (λ (n : ℕ). stands.waiting ++ last stands.segment.thread n) number_same
        ∙ ap (λ (l : List Waiter). l ++ last stands.segment.thread (node_number state.past.keys key)) (stands.within.waiting_is ∙ ap (λ (n : ℕ). state.waiting ++ newcomers state.source n) next)) all

    below : held.begun + 1 ≤ held.machine.cost
    below = begun_below g state k held left under stands told.after told.machine over

    pub over_stands : StandsBetween g over_state (record k { rule = rule; graph = graph; under = None }) held left
    over_stands = record {
      of = stands.of;
      going = told.going;
      between = between_any g over_state held.machine (known k.next) (subst (λ (w : World). IsBetween g over_state None w) (sym told.machine)
          (between_after g over_state refl (formed_after_block g state stands.segment held.begun stands.here stands.waiting stands.within told.after told.step_is) reaches.2.stands
          (threads_blocked g state stands.segment held.begun stands.here stands.waiting stands.within told.after reaches.0 key told.step_is reaches.2.stands)));
      ended = λ none. ap (λ (w : World). w.clock) told.machine;
      settled = subst (IsSettled (checked_of g)) (sym told.machine) reaches.2.settled;
      kept = kept_now;
      needed = told_rejoined held.machine held.places stands.waiting k.rule rule under.choice.thread node need joins stands.kept own
          (subst (λ (w : World). AreTold w k.rule) (sym told.machine)
          (told_step g state stands.segment held.begun stands.here stands.waiting stands.within held.places k.rule under.choice.thread stands.kept stands.needed told.after
          (λ number apart old. subst (KeepsThread number stands.here) told.step_is (KeepsThread-step (setting_of g) number stands.here apart old))));
      past = record {
        accounts = accounts_rejoined g.policy.rule k.rule rule state.past over_state.past under.choice.thread node need refl stands.past.accounts joins;
        graph_is = record { keys = keys_are ∙ ap (λ (ks : List (List ℕ)). keys_with ks key) stands.past.graph_is.keys; edges = edges_now };
        monitor_is = stands.past.monitor_is;
        taken = noted_rejoined k.rule rule under.choice.thread node need joins ∙ stands.past.taken;
        noted = let same = noted_rejoined k.rule rule under.choice.thread node need joins in let most = stands.past.noted in let begun = below in omega arith;
        records = let most = stands.past.records in let begun = below in omega arith;
        keys = let most = stands.past.keys in let begun = below in omega arith;
      };
      gate = ap (λ (b : Bool). gate_after g.policy.high g.policy.low b (pressures g.policy.curves (uses_in (held_chunks told.after) reaches.0.exchange) (all_caps g.policy))) stands.gate ∙ sym (gate_more g.policy state.past (uses_in (held_chunks told.after) reaches.0.exchange));
      read = stands.read;
    }
