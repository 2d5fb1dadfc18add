-- A run from any state comes to a stop: fuel bounds the steps of its segments, and the trace what comes.
use Rattle.log_laws.proofs.Common.{◌≡◌, ◌≢◌, ℕ, zero, suc, ◌+◌, ◌<◌, ◌≤◌, ◌&&◌, ◌||◌, Bool, true, false, List, [], ◌∷◌, length, Option, Some, None, refl, sym, ap, ◌∙◌, subst, arith, IsSome, slice_get, is_none, is_some, nat_le, if◌then◌else◌, nat_tests, nil_from_length, signed, Stop, lowered, key_of, Delivery, is_dropped, with_delivery, IsWellScoped, IsValid, Event, any_ready, IsNext, Waiter, is_due, event_times, delivery_of, item_of, IsComing, checked_of, IsAllowed, Leads, nowhere, by_entry, HasRun, Setup, setting_of, Segment, State, seen_of, IsCutBy, IsStop, IsWellFormed, IsWellFormedIf, IsWellFormedIf-action, Entry, Item, StopLine, IsReached, StepReaches, IsSettled, StandsSettled, delivered_law, advanced_law, goes_on, between_after, between_read, between_moved, come_state, coming, between_came, run_state, run_segment, run_allowed, within_run, moved_goes_on, free_count, or_parts}
use Rattle.blocking_graph.specs.Nodes.{node_number}
use Rattle.choice_rules.specs.Stops.{IsDone, IsBadTrace, IsIdle}
use Rattle.machine_world.specs.Runs.{Deliver, Advance, Pick, delivered, advanced, after_action, may_run, picked_at, picked}
use Rattle.machine_world.specs.Threads.{Thread, World, Setting, Move, Goes, Puts, Spawns, Blocks, Ends, Stops, Wrong, step, thread_of}
use Rattle.machine_meaning.proofs.WorldLaws as laws
use Rattle.lawful_log.specs.Waiting.{IsWaiting}
use Rattle.lawful_log.specs.Within.{IsBetween, IsWithin}
use Rattle.machine_world.proofs.Counts.{Counts, Retires, StartsOne, IsOver, counts_step}
use Rattle.lawful_log.proofs.Own.{found_below}
use Rattle.lawful_log.proofs.Picked.{is_picked}
use Rattle.lawful_log.proofs.Told.{ready_same}
use Rattle.lawful_log.proofs.Within.{within_goes, within_spawns, within_puts, put_state, put_segment, out_allowed, rests_blocked, blocked_state, cost_of, block_allowed, threads_blocked, formed_after_block, ended_state, end_allowed, threads_ended, formed_after_end, stop_allowed}
use Rattle.log_laws.proofs.Least.{lawful_choice}
use Rattle.choice_rules.proofs.TraceLines.{Next, Over, Line, Refused, next_of}
use Rattle.log_laws.proofs.Lines.{shorter}
use Rattle.log_laws.proofs.Times as times
use Rattle.log_laws.proofs.Words.{delivers_words}

-- ---- small things

some_get : {X : Type 0} (xs : List X) (k : ℕ) → k < length xs → IsSome (slice_get xs k)
some_get [] k h = absurd (omega (arith, h))
some_get (x ∷ xs) zero h = refl
some_get (x ∷ xs) (suc k) h = some_get xs k (omega (arith, h))

-- what is left of the fuel after one more step
record OneLess (fuel left cost : ℕ) : Type 0 where
  fewer : ℕ
  suc_is : suc fewer ≡ left
  room : fuel ≤ cost + fewer

one_less : (fuel left before cost : ℕ) → fuel ≤ before + left → cost ≡ before + 1 → cost ≤ fuel → OneLess fuel left cost
one_less fuel zero before cost room more within = absurd (omega (arith, room, more, within))
one_less fuel (suc left) before cost room more within = record { fewer = left; suc_is = refl; room = omega (arith, room, more) }

module _ (g : Setup) (scoped : IsWellScoped g.program) (valid : IsValid (lowered g.program) g.image g.certificate) where
  abbrev s : Setting
  s = setting_of g

  -- ---- what is to be found

  pub record Rest (state : State) : Type 0 where
    pub entries : List Entry
    pub last : State
    pub stop : StopLine
    pub end : World
    pub leads : Leads g state entries last
    pub stops : IsStop g last stop end

  here : (state : State) (stop : StopLine) (end : World) → IsStop g state stop end → Rest state
  here state stop end is = record { entries = []; last = state; stop = stop; end = end; leads = nowhere; stops = is }

  further : (before between : State) (entry : Entry) → IsAllowed g before entry between → Rest between → Rest before
  further before between entry is rest = record { entries = entry ∷ rest.entries; last = rest.last; stop = rest.stop; end = rest.end; leads = by_entry is rest.leads; stops = rest.stops }

  -- ---- where a run stands

  pub record Between (state : State) : Type 0 where
    pub is : IsBetween g state None state.machine
    pub settled : IsSettled (checked_of g) state.machine

  pub record Within (state : State) (segment : Segment) (begun : ℕ) (now : World) (waiting : List Waiter) : Type 0 where
    pub is : IsWithin g state segment begun now waiting
    pub reached : IsReached (checked_of g) g.program s state.source segment.thread segment.puts now

  abbrev AllWithin : ℕ → Type 0
  AllWithin left = (state : State) (segment : Segment) (begun : ℕ) (now : World) (waiting : List Waiter) → Within state segment begun now waiting → g.policy.fuel ≤ now.cost + left → Rest state

  abbrev AllBetween : ℕ → Type 0
  AllBetween left = (state : State) → Between state → g.policy.fuel ≤ state.machine.cost + left → Rest state

  -- ---- within a segment

  module _ (left : ℕ) (smaller : (n : ℕ) → suc n ≡ left → AllWithin n × AllBetween n) (state : State) (segment : Segment) (begun : ℕ) (now : World) (waiting : List Waiter)
      (w : Within state segment begun now waiting) (room : g.policy.fuel ≤ now.cost + left) where
    counts : (move : Move) → step s now ≡ move → Counts now move
    counts move e = subst (Counts now) e (counts_step s now)

    reaches : (move : Move) → step s now ≡ move → StepReaches (checked_of g) g.program s state.source segment.thread segment.puts move
    reaches move e = subst (StepReaches (checked_of g) g.program s state.source segment.thread segment.puts) e
        (laws.steps g.program g.image g.certificate s now state.source segment.thread segment.puts scoped valid refl w.is.formed w.reached)

    less : (after : World) → after.cost ≡ now.cost + 1 → IsWellFormed (checked_of g) s after → OneLess g.policy.fuel left after.cost
    less after more formed = one_less g.policy.fuel left now.cost after.cost room more formed.cost

    cut : (stop : Stop) → StepReaches (checked_of g) g.program s state.source segment.thread segment.puts (Stops stop) → IsCutBy g state segment stop
    cut (Stop.Trap kind) found = (found.0, record { runs = found.1.runs; puts = found.1.outputs })
    cut _ found = record { reached = w.reached.cut; cut = w.reached.is_cut; puts = w.reached.cut_outputs }

    by_move : (move : Move) → step s now ≡ move → Rest state
    by_move (Goes after) e =
        let counted : Retires now after = counts (Goes after) e in
        let is = within_goes g state segment begun now waiting w.is after e in
        let fewer = less after counted.cost is.formed in
        (smaller fewer.fewer fewer.suc_is).0 state segment begun after waiting (record { is = is; reached = reaches (Goes after) e }) fewer.room
    by_move (Spawns number after) e =
        let counted : StartsOne now after number = counts (Spawns number after) e in
        let is = within_spawns g state segment begun now waiting w.is number after e in
        let fewer = less after counted.cost is.formed in
        (smaller fewer.fewer fewer.suc_is).0 state segment begun after _ (record { is = is; reached = reaches (Spawns number after) e }) fewer.room
    by_move (Puts word after) e =
        let counted : Retires now after = counts (Puts word after) e in
        let is = within_puts g state segment begun now waiting w.is word after e in
        let fewer = less after counted.cost is.formed in
        let new = put_state g state segment begun now waiting w.is word after in
        further state new (Entry.Out segment.thread (signed word)) (out_allowed g state segment begun now waiting w.is word after e)
        ((smaller fewer.fewer fewer.suc_is).0 new (put_segment g state segment begun now waiting w.is word) begun after waiting (record { is = is; reached = reaches (Puts word after) e }) fewer.room)
    by_move (Blocks after) e =
        let counted : IsOver now after = counts (Blocks after) e in
        let found = reaches (Blocks after) e in
        let run : HasRun g state segment None found.0 = record { runs = found.1.runs; puts = found.1.outputs } in
        let rests = rests_blocked g state segment begun now waiting w.is after found.0 e found.2.stands in
        let key = key_of rests.waiting_at in
        let new = blocked_state g state segment begun now waiting w.is after found.0 key in
        let formed = formed_after_block g state segment begun now waiting w.is after e in
        let fewer = less after counted.cost formed in
        let is : IsBetween g new None new.machine = between_after g new refl formed found.2.stands (threads_blocked g state segment begun now waiting w.is after found.0 key e found.2.stands) in
        further state new (Entry.Block segment.thread (node_number state.past.keys key) key (cost_of g state segment begun now waiting w.is) (free_count after.areas.pool))
        (block_allowed g state segment begun now waiting w.is after found.0 key (free_count after.areas.pool) e run rests refl refl)
        ((smaller fewer.fewer fewer.suc_is).1 new (record { is = is; settled = found.2.settled }) fewer.room)
    by_move (Ends after) e =
        let counted : IsOver now after = counts (Ends after) e in
        let found = reaches (Ends after) e in
        let run : HasRun g state segment None found.0 = record { runs = found.1.runs; puts = found.1.outputs } in
        let new = ended_state g state segment begun now waiting w.is after found.0 in
        let formed = formed_after_end g state segment begun now waiting w.is after e in
        let fewer = less after counted.cost formed in
        let is : IsBetween g new None new.machine = between_after g new refl formed found.2.stands (threads_ended g state segment begun now waiting w.is after found.0 e found.2.stands) in
        let live = subst (λ (n : ℕ). thread_of now n ≡ Some w.reached.under_way.thread) w.reached.of_thread w.reached.under_way.live in
        let below = found_below segment.thread 0 now.next now.threads w.reached.under_way.thread w.is.formed.counted.numbered live in
        let there : segment.thread < length found.0.threads = let count = found.2.stands.next in let same = counted.next in omega (arith, below, count, same) in
        further state new (Entry.End segment.thread (cost_of g state segment begun now waiting w.is) (free_count after.areas.pool))
        (end_allowed g state segment begun now waiting w.is after found.0 (free_count after.areas.pool) e run found.2.stands (some_get found.0.threads segment.thread there) refl)
        ((smaller fewer.fewer fewer.suc_is).1 new (record { is = is; settled = found.2.settled }) fewer.room)
    by_move (Stops stop) e = here state (StopLine.Cut segment.thread stop (segment.cost + w.is.steps) (free_count now.areas.pool)) now
        (stop_allowed g state segment begun now waiting w.is stop (free_count now.areas.pool) e (cut stop (reaches (Stops stop) e)) refl)
    by_move Wrong e = absurd (reaches Wrong e)

    within_goes_on : Rest state
    within_goes_on = by_move (step s now) refl

  -- ---- between segments

  module _ (left : ℕ) (within : AllWithin left) (state : State) (b : Between state) (room : g.policy.fuel ≤ state.machine.cost + left)
      (again : (new : State) → Between new → g.policy.fuel ≤ new.machine.cost + left → length new.trace.bytes < length state.trace.bytes → Rest new) where
    stands : StandsSettled (checked_of g) g.program state.machine state.source
    stands = record { stands = b.is.stands; settled = b.settled }

    no_segment : is_some state.segment ≡ false
    no_segment = ap (λ (o : Option Segment). is_some o) b.is.between

    module _ (live : state.machine.threads ≢ []) where
      some_live : length state.machine.threads ≢ 0
      some_live e = live (nil_from_length state.machine.threads e)

      -- at a clock at which something goes on
      module _ (next : Option Event) (good : IsNext state.trace next) (time : ℕ) (later : state.machine.clock ≤ time) (is : IsBetween g state (Some next) (advanced state.machine time)) where
        abbrev machine : World
        machine = advanced state.machine time

        le_true : (a c : ℕ) → a ≤ c → nat_le a c ≡ true
        le_true a c h = grind (arith, nat_tests, h)

        advances : after_action s state.machine (Advance time) ≡ Some machine
        advances =
            ap (λ (o : Option ℕ). if is_none o && nat_le state.machine.clock time then Some machine else None) b.is.stands.between
            ∙ ap (λ (t : Bool). if t then Some machine else None) (le_true state.machine.clock time later)

        stands_now : StandsSettled (checked_of g) g.program machine state.source
        stands_now = advanced_law (checked_of g) g.program s state.machine machine state.source time stands advances

        formed_now : IsWellFormed (checked_of g) s machine
        formed_now = subst (IsWellFormedIf (checked_of g) s) advances (IsWellFormedIf-action (checked_of g) s state.machine (Advance time) tt b.is.formed)

        entered : (drops : Bool) (item : Item) (new : State) → IsComing g state time item drops new → Rest new → Rest state
        entered true item new is rest = further state new (Entry.Dropped time item) is rest
        entered false item new is rest = further state new (Entry.Event time item) is rest

        cost_by : (t : Bool) (delivery : Delivery) → (if t then machine else record machine { exchange = with_delivery machine.exchange delivery }).cost ≡ machine.cost
        cost_by true delivery = refl
        cost_by false delivery = refl

        cost_delivered : (delivery : Delivery) → (delivered s machine delivery).cost ≡ state.machine.cost
        cost_delivered delivery = cost_by (is_dropped g.policy.backlog machine.exchange delivery) delivery

        -- an event is due
        comes : (event : Event) → next ≡ Some event → is_due next time ≡ true → Rest state
        comes event next_is due =
            let mine : IsBetween g state (Some (Some event)) machine = subst (λ (o : Option Event). IsBetween g state (Some o) machine) next_is is in
            let its : IsNext state.trace (Some event) = subst (λ (o : Option Event). IsNext state.trace o) next_is good in
            let due_now : is_due (Some event) time ≡ true = subst (λ (o : Option Event). is_due o time ≡ true) next_is due in
            let words = delivers_words event.kind its.line.spells.fits.kind in
            let new = come_state g state event machine mine words in
            let delivers : after_action s machine (Deliver (delivery_of event.kind)) ≡ Some (delivered s machine (delivery_of event.kind)) =
            ap (λ (o : Option ℕ). if is_none o then Some (delivered s machine (delivery_of event.kind)) else None) b.is.stands.between in
            let between = between_came g state event machine mine words in
            let settled = (delivered_law (checked_of g) g.program s machine (delivered s machine (delivery_of event.kind)) state.source (delivery_of event.kind) stands_now delivers).settled in
            let rest = again new (record { is = between; settled = settled }) (let same = cost_delivered (delivery_of event.kind) in omega (arith, room, same)) (shorter state.trace event its) in
            entered (is_dropped g.policy.backlog state.source.exchange (delivery_of event.kind)) (item_of event.kind) new (coming g state event machine mine words live its due_now) rest

        -- a thread is ready
        runs : is_due next time ≡ false → any_ready g.policy (seen_of state) time ≡ true → Rest state
        runs due ready =
            let chosen = lawful_choice g state time (IsWaiting state.machine) b.is.threads.each ready in
            let thread = chosen.holds.thread in
            let after = picked_at s machine thread thread.blocked in
            let able : may_run s machine thread.blocked ≡ true = ready_same g state time b.is.stands chosen.waiter chosen.holds ∙ chosen.ready in
            let picks : after_action s machine (Pick chosen.waiter.thread) ≡ Some after =
            ap (λ (o : Option ℕ). if is_none o then picked s machine (thread_of state.machine chosen.waiter.thread) else None) b.is.stands.between
            ∙ ap (λ (o : Option Thread). picked s machine o) chosen.holds.live
            ∙ ap (λ (t : Bool). if t then Some after else None) able in
            let new = run_state g state next machine is chosen.waiter after picks in
            let segment = run_segment g state next machine is chosen.waiter after picks in
            let reached : IsReached (checked_of g) g.program s state.source chosen.waiter.thread [] after =
            laws.picks g.program g.image g.certificate s machine after state.source chosen.waiter.thread scoped valid refl formed_now stands_now picks in
            let kept = is_picked s machine chosen.waiter.thread after picks in
            further state new (Entry.Run time chosen.waiter.thread chosen.waiter.node)
            (run_allowed g state next machine is chosen.waiter after picks live good due ready chosen.lawful)
            (within new segment machine.cost after new.waiting (record { is = within_run g state next machine is chosen.waiter after picks; reached = reached })
            (let same = kept.cost in omega (arith, room, same)))

        on_event : (o : Option Event) → next ≡ o → is_due next time ≡ true → Rest state
        on_event None e due = absurd (let no : false ≡ true = sym (ap (λ (o : Option Event). is_due o time) e) ∙ due in cc)
        on_event (Some event) e due = comes event e due

        by_due : (due : Bool) → is_due next time ≡ due → (due || any_ready g.policy (seen_of state) time) ≡ true → Rest state
        by_due true e goes = on_event next refl e
        by_due false e goes = runs e goes

        acts : goes_on g state next time ≡ true → Rest state
        acts goes = by_due (is_due next time) refl goes

      -- at a good next line
      module _ (next : Option Event) (good : IsNext state.trace next) where
        here_now : IsBetween g state (Some next) state.machine
        here_now = between_read g state state.machine next b.is

        over_by : (o : Option Event) → next ≡ o → event_times o ≡ [] → IsNext state.trace None
        over_by None e none = subst (λ (o : Option Event). IsNext state.trace o) e good
        over_by (Some event) e none = absurd (cc)

        unready : goes_on g state next state.machine.clock ≡ false → any_ready g.policy (seen_of state) state.machine.clock ≡ false
        unready stuck = (or_parts (is_due next state.machine.clock) (any_ready g.policy (seen_of state) state.machine.clock) stuck).1

        stuck_by : goes_on g state next state.machine.clock ≡ false → times.Goes g state state.machine.clock next → Rest state
        stuck_by stuck (times.Nothing none asleep) = here state StopLine.Idle state.machine (idle, refl) where
          idle : IsIdle g.policy (seen_of state)
          idle = record {
            between = no_segment;
            live = some_live;
            over = over_by next refl none;
            none_ready = unready stuck;
            none_sleeps = asleep;
          }
        stuck_by stuck (times.At time later least) =
            acts next good time later (between_moved g state state.machine next time here_now later stuck least) (moved_goes_on g state next time least.one)

        by_goes : (goes : Bool) → goes_on g state next state.machine.clock ≡ goes → Rest state
        by_goes true e = acts next good state.machine.clock (omega arith) here_now e
        by_goes false e = stuck_by e (times.goes g state state.machine.clock next e)

        at_line : Rest state
        at_line = by_goes (goes_on g state next state.machine.clock) refl

      by_next : Next state.trace → Rest state
      by_next (Over e) = at_line None e
      by_next (Line event is) = at_line (Some event) is
      by_next (Refused number is) = here state (StopLine.Trace number) state.machine (bad, refl) where
        bad : IsBadTrace (seen_of state) number
        bad = record { between = no_segment; live = some_live; refused = is }

    by_threads : (threads : List Thread) → state.machine.threads ≡ threads → Rest state
    by_threads [] e = here state StopLine.Done state.machine (done, refl) where
      done : IsDone (seen_of state)
      done = record { between = no_segment; nobody = ap (λ (ts : List Thread). length ts) e }
    by_threads (thread ∷ threads) e = by_next (λ none. let no : [] ≡ thread ∷ threads = sym none ∙ e in absurd (cc)) (next_of state.trace)

    between_goes_on : Rest state
    between_goes_on = by_threads state.machine.threads refl

  -- ---- both

  between_within : (left : ℕ) → AllWithin left → (size : ℕ) (state : State) → Between state → g.policy.fuel ≤ state.machine.cost + left → length state.trace.bytes ≤ size → Rest state
  between_within left within zero state b room short = between_goes_on left within state b room (λ new is more shorter. absurd (omega (arith, short, shorter)))
  between_within left within (suc size) state b room short =
      between_goes_on left within state b room (λ new is more shorter. between_within left within size new is more (omega (arith, short, shorter)))

  both : (left : ℕ) → ((n : ℕ) → suc n ≡ left → AllWithin n × AllBetween n) → AllWithin left × AllBetween left
  both left smaller =
      let within : AllWithin left = λ state segment begun now waiting w room. within_goes_on left smaller state segment begun now waiting w room in
      (within, λ state b room. between_within left within (length state.trace.bytes) state b room (omega arith))

  all : (left : ℕ) → AllWithin left × AllBetween left
  all zero = both zero (λ n e. absurd (cc))
  all (suc left) = let fewer = all left in both (suc left) (λ n e. let same : left ≡ n = cc in subst (λ (k : ℕ). AllWithin k × AllBetween k) same fewer)

  pub rest_of : (state : State) → Between state → Rest state
  rest_of state b = (all g.policy.fuel).1 state b (omega arith)
