-- What is told within a segment: a value, a thread that started, and a cut.
use Rattle.run_course.proofs.Common.{◌≡◌, ◌≢◌, ℕ, ◌+◌, ◌-◌, ◌<◌, ◌≤◌, [], ◌∷◌, ◌++◌, Some, None, sym, ap, ◌∙◌, subst, arith, length, signed, Stop, ThreadId, checked_of, IsOut, IsCut, Setup, setting_of, State, IsWithin, Counts, StartsOne, counts_step, within_spawns, put_segment, put_state, out_allowed, within_puts, KeepsThread, KeepsThread-step, World, thread_of, Move, Puts, Spawns, Stops, step, HasStarted, MayStart, RuleState, waiter_of, Tells, Held, IsThread, segment_cost, Turn, IsReached, StepReaches, Under, Kept, AreTold, LeavesOwn, StandsFresh, found_below, own_step, need_of_blocked, StandsInside, StandsWithin, StepsAsSource, Rest, free_count}
use Rattle.lawful_log.specs.Stops.{IsStopped, IsCutBy}
use Rattle.lawful_log.proofs.Entries.{stops_here}
use Rattle.run_course.proofs.Rules.{accounts_started, kept_started, may_start_within, next_waits, noted_started, told_started, told_step}

-- ---- which step a turn tells

pub record TellsPut (move : Move) (value : ℕ) (new : Held) : Type 0 where
  pub after : World
  pub step_is : move ≡ Puts value after
  pub machine : new.machine ≡ after
  pub going : new.stopped ≡ None

pub tells_put : (move : Move) (value number : ℕ) (at : World) (new : Held) → Tells move (Turn.Out value) number at new → TellsPut move value new
tells_put (Puts word after) value number at new t = record { after = after; step_is = ap (λ (v : ℕ). Puts v after) (sym t.0); machine = t.1; going = t.2 }
tells_put _ value number at new t = absurd t

record TellsSpawn (move : Move) (thread : ThreadId) (new : Held) : Type 0 where
  pub after : World
  pub step_is : move ≡ Spawns thread.number after
  pub machine : new.machine ≡ after
  placed : IsThread new thread
  pub going : new.stopped ≡ None

tells_spawn : (move : Move) (thread : ThreadId) (number : ℕ) (at : World) (new : Held) → Tells move (Turn.Spawned thread) number at new → TellsSpawn move thread new
tells_spawn (Spawns started after) thread number at new t =
    record { after = after; step_is = ap (λ (n : ℕ). Spawns n after) (sym t.0); machine = t.2; placed = t.1; going = t.3 }
tells_spawn _ thread number at new t = absurd t

pub record TellsCut (move : Move) (stop : Stop) (cost : ℕ) (at : World) (new : Held) : Type 0 where
  pub step_is : move ≡ Stops stop
  pub cost_is : cost ≡ segment_cost new
  pub machine : new.machine ≡ at

tells_cut : (move : Move) (stop : Stop) (cost number : ℕ) (at : World) (new : Held) → Tells move (Turn.Cut stop cost) number at new → TellsCut move stop cost at new
tells_cut (Stops told) stop cost number at new t = record { step_is = ap (λ (s : Stop). Stops s) (sym t.0); cost_is = t.1; machine = t.2 }
tells_cut _ stop cost number at new t = absurd t

module _ (g : Setup) (state : State) (k : Kept) (held : Held) (left : Rest) (under : Under) (stands : StandsWithin g state k held left under) (law : StepsAsSource g state stands.segment.thread) where
  -- ---- a value

  module _ (value : ℕ) (turn_is : under.turn ≡ Turn.Out value) where
    pub put_told : TellsPut (step (setting_of g) stands.here) value held
    put_told = tells_put (step (setting_of g) stands.here) value stands.segment.thread stands.here held
        (subst (λ (t : Turn). Tells (step (setting_of g) stands.here) t stands.segment.thread stands.here held) turn_is stands.tells)

    abbrev pub out_state : State
    out_state = put_state g state stands.segment held.begun stands.here stands.waiting stands.within value put_told.after

    pub out_is : IsOut g state under.choice.thread.number (signed value) out_state
    out_is = subst (λ (n : ℕ). IsOut g state n (signed value) out_state) (sym stands.thread_is)
        (out_allowed g state stands.segment held.begun stands.here stands.waiting stands.within value put_told.after put_told.step_is)

    pub out_inside : StandsInside g out_state k held left under.choice under.before
    out_inside = record {
      of = stands.of;
      going = put_told.going;
      segment = put_segment g state stands.segment held.begun stands.here stands.waiting stands.within value;
      waiting = stands.waiting;
      within = subst (λ (w : World). IsWithin g out_state (put_segment g state stands.segment held.begun stands.here stands.waiting stands.within value) held.begun w stands.waiting) (sym put_told.machine)
          (within_puts g state stands.segment held.begun stands.here stands.waiting stands.within value put_told.after put_told.step_is);
      reached = subst (λ (w : World). IsReached (checked_of g) g.program (setting_of g) state.source stands.segment.thread (stands.segment.puts ++ value ∷ []) w) (sym put_told.machine)
          (subst (StepReaches (checked_of g) g.program (setting_of g) state.source stands.segment.thread stands.segment.puts) put_told.step_is (law stands.segment.puts stands.here stands.within.formed stands.reached));
      thread_is = stands.thread_is;
      node_is = stands.node_is;
      before_is = stands.before_is;
      within_caps = stands.within_caps;
      placed = stands.placed;
      kept = stands.kept;
      started = stands.started;
      needed = subst (λ (w : World). AreTold w k.rule) (sym put_told.machine)
          (told_step g state stands.segment held.begun stands.here stands.waiting stands.within held.places k.rule under.choice.thread stands.kept stands.needed put_told.after
          (λ number apart old. subst (KeepsThread number stands.here) put_told.step_is (KeepsThread-step (setting_of g) number stands.here apart old)));
      past = stands.past;
      gate = stands.gate;
      read = stands.read;
    }

  -- ---- a thread that started

  module _ (thread : ThreadId) (turn_is : under.turn ≡ Turn.Spawned thread) where
    spawn_told : TellsSpawn (step (setting_of g) stands.here) thread held
    spawn_told = tells_spawn (step (setting_of g) stands.here) thread stands.segment.thread stands.here held
        (subst (λ (t : Turn). Tells (step (setting_of g) stands.here) t stands.segment.thread stands.here held) turn_is stands.tells)

    fresh : StandsFresh spawn_told.after thread.number
    fresh = subst (LeavesOwn stands.here stands.segment.thread) spawn_told.step_is (own_step (setting_of g) stands.here stands.segment.thread stands.within.formed.counted.numbered stands.within.running)

    starts_one : StartsOne stands.here spawn_told.after thread.number
    starts_one = subst (Counts stands.here) spawn_told.step_is (counts_step (setting_of g) stands.here)

    nothing_waits : waiter_of thread.number stands.waiting ≡ None
    nothing_waits = subst (λ (n : ℕ). waiter_of n stands.waiting ≡ None) (sym starts_one.number_is) (next_waits stands.here stands.waiting stands.within.formed.counted.numbered stands.within.threads.each)

    -- it isn't the one that runs
    other_thread : thread.number ≢ under.choice.thread.number
    other_thread same =
        let live : thread_of stands.here stands.segment.thread ≡ Some stands.reached.under_way.thread = ap (λ (n : ℕ). thread_of stands.here n) (sym stands.reached.of_thread) ∙ stands.reached.under_way.live in
        let below : stands.segment.thread < stands.here.next = found_below stands.segment.thread 0 stands.here.next stands.here.threads stands.reached.under_way.thread stands.within.formed.counted.numbered live in
        let number = starts_one.number_is in
        let thread_is = stands.thread_is in
        omega arith

    begun_by : length state.source.threads ≤ thread.number
    begun_by = let number = starts_one.number_is in let most = stands.within.started in omega arith

    pub spawn_may_start : MayStart k.rule thread
    spawn_may_start = may_start_within held.places k.rule stands.waiting under.choice.thread thread stands.kept other_thread nothing_waits

    module _ (rule : RuleState) (starts : HasStarted k.rule rule thread) where
      needed_now : AreTold spawn_told.after rule
      needed_now = told_started spawn_told.after k.rule rule thread starts spawn_may_start
          (record { thread = fresh.thread; live = fresh.live; need = sym (ap need_of_blocked fresh.unblocked) })
          (told_step g state stands.segment held.begun stands.here stands.waiting stands.within held.places k.rule under.choice.thread stands.kept stands.needed spawn_told.after
          (λ number apart old. subst (KeepsThread number stands.here) spawn_told.step_is (KeepsThread-step (setting_of g) number stands.here apart old)))

      pub spawn_inside : StandsInside g state (record k { rule = rule }) held left under.choice under.before
      spawn_inside = record {
        of = stands.of;
        going = spawn_told.going;
        segment = stands.segment;
        waiting = stands.waiting ++ record { thread = thread.number; node = 0; since = 0 } ∷ [];
        within = subst (λ (w : World). IsWithin g state stands.segment held.begun w (stands.waiting ++ record { thread = thread.number; node = 0; since = 0 } ∷ [])) (sym spawn_told.machine)
            (within_spawns g state stands.segment held.begun stands.here stands.waiting stands.within thread.number spawn_told.after spawn_told.step_is);
        reached = subst (λ (w : World). IsReached (checked_of g) g.program (setting_of g) state.source stands.segment.thread stands.segment.puts w) (sym spawn_told.machine)
            (subst (StepReaches (checked_of g) g.program (setting_of g) state.source stands.segment.thread stands.segment.puts) spawn_told.step_is (law stands.segment.puts stands.here stands.within.formed stands.reached));
        thread_is = stands.thread_is;
        node_is = stands.node_is;
        before_is = stands.before_is;
        within_caps = stands.within_caps;
        placed = stands.placed;
        kept = kept_started held.places k.rule rule stands.waiting under.choice.thread thread stands.kept starts spawn_told.placed other_thread nothing_waits;
        started = stands.started;
        needed = subst (λ (w : World). AreTold w rule) (sym spawn_told.machine) needed_now;
        past = record {
          accounts = accounts_started g.policy.rule k.rule rule state.past thread (length state.source.threads) stands.past.accounts starts stands.started begun_by;
          graph_is = stands.past.graph_is;
          monitor_is = stands.past.monitor_is;
          taken = noted_started k.rule rule thread starts ∙ stands.past.taken;
          noted = subst (λ (n : ℕ). n ≤ held.begun + 1) (sym (noted_started k.rule rule thread starts)) stands.past.noted;
          records = stands.past.records;
          keys = stands.past.keys;
        };
        gate = stands.gate;
        read = stands.read;
      }

  -- ---- a cut

  module _ (stop : Stop) (cost : ℕ) (turn_is : under.turn ≡ Turn.Cut stop cost) where
    pub cut_told : TellsCut (step (setting_of g) stands.here) stop cost stands.here held
    cut_told = tells_cut (step (setting_of g) stands.here) stop cost stands.segment.thread stands.here held
        (subst (λ (t : Turn). Tells (step (setting_of g) stands.here) t stands.segment.thread stands.here held) turn_is stands.tells)

    cut_here : IsCut g state stands.segment
    cut_here = record { reached = stands.reached.cut; cut = stands.reached.is_cut; puts = stands.reached.cut_outputs }

    cut_by : (s : Stop) → StepReaches (checked_of g) g.program (setting_of g) state.source stands.segment.thread stands.segment.puts (Stops s) → IsCutBy g state stands.segment s
    cut_by (Stop.Trap kind) r = (r.0, record { runs = r.1.runs; puts = r.1.outputs })
    cut_by _ r = cut_here

    pub cut_is : IsStopped g state under.choice.thread.number stop cost (free_count held.machine.areas.pool) held.machine
    cut_is =
        let puts = cut_by stop (subst (StepReaches (checked_of g) g.program (setting_of g) state.source stands.segment.thread stands.segment.puts) cut_told.step_is (law stands.segment.puts stands.here stands.within.formed stands.reached)) in
        let there : IsStopped g state stands.segment.thread stop (stands.here.cost - held.begun) (free_count stands.here.areas.pool) stands.here =
        stops_here g state stands.segment held.begun stands.here stands.waiting stop stands.within cut_told.step_is puts in
        let now : IsStopped g state stands.segment.thread stop (held.machine.cost - held.begun) (free_count held.machine.areas.pool) held.machine =
        subst (λ (w : World). IsStopped g state stands.segment.thread stop (w.cost - held.begun) (free_count w.areas.pool) w) (sym cut_told.machine) there in
        subst (λ (n : ℕ). IsStopped g state n stop cost (free_count held.machine.areas.pool) held.machine) (sym stands.thread_is)
        (subst (λ (n : ℕ). IsStopped g state stands.segment.thread stop n (free_count held.machine.areas.pool) held.machine) (sym cut_told.cost_is) now)
