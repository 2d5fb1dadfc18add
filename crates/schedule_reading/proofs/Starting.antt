-- Before the first line: thread 0 waits at node 0, and nothing has happened.
use Rattle.schedule_reading.proofs.Common.{◌≡◌, ◌≢◌, ℕ, zero, suc, ◌+◌, ◌-◌, ◌<◌, ◌≤◌, ◌⊎◌, inl, inr, Bool, true, false, List, [], ◌∷◌, drop, Option, Some, None, IsSome, option_map, if◌then◌else◌, refl, sym, ap, ◌∙◌, subst, arith, IfSome, IsTrue, slice_get, slice_index, slice_index_or, eq-eqb, GraphState, empty_graph, ThreadId, start_globals, empty_exchange, ProgramTree, IsWellScoped, latest, all_caps, Waiter, uses_of, at_drop, ReaderState, Given, State, seen_of, start_of, Need, gate_after, MonitorState, pressures, get, IsReady, tree_of, IsFull, globals_of, Interpreter, Exchanging, wake_of, need_for, Waiting, Wait, AuditPolicy, Slot, AreNone, AreVacant, HasAdded, Core, HasFirst, HasSource, AreLive, AreThreads, IsOf, IsScheduled, IsSlot, Stands, StandsAt, ThreadsState, VouchesIn, at_place, wait_of, same_or_not}
use Rattle.c_mean.specs.World as source
use Rattle.scheduler.specs.State.{SchedulerState, IsJoined, IsTold, started}
use Rattle.schedule_reading.specs.declared.reading.End.TheVariants as end
use Rattle.schedule_reading.specs.declared.reading.Next.TheVariants as next
use Rattle.schedule_reading.specs.declared.threads.Rest.TheVariants as rest
use Rattle.schedule_reading.specs.Limits.{MayAudit, given_of}
use Rattle.schedule_reading.proofs.Joins.{joins}
use Rattle.schedule_reading.proofs.Places.{placed_by}
use Rattle.schedule_reading.proofs.Standing.{are_joined, count_more, more_other}

-- ---- no thread yet

some_none : (slots : List (Option Slot)) (place : ℕ) (slot : Slot) → slots ≡ [] → slice_index_or slots place None ≡ Some slot → ⊥
some_none [] place slot e f = absurd (cc)
some_none (x ∷ slots) place slot e f = absurd (cc)

one_place : (place : ℕ) → at_place (None ∷ []) place ≡ None
one_place zero = refl
one_place (suc place) = refl

is_true : (b : Bool) → IsTrue b → b ≡ true
is_true true h = refl
is_true false h = absurd (cc)

module _ (backlog : ℕ) (caps : List ℕ) (none : ThreadsState) (first : AreNone backlog caps none) where
  pub nobody_at : (place : ℕ) → at_place none.waits.places place ≡ None
  nobody_at place = ap (λ (w : Waiting). at_place w.places place) first.waits ∙ one_place place

  pub none_vacant : AreVacant none
  none_vacant = λ place e. nobody_at place

  nothing_at : (place : ℕ) (slot : Slot) → get none.slots place ≡ Some slot → ⊥
  nothing_at place slot e = some_none none.slots.slots place slot first.slots e

  are_none : (tree : ProgramTree) → AreThreads tree none.slots none.waits.places [] []
  are_none tree = record {
    each = λ place slot e. absurd (nothing_at place slot e);
    one = λ place other slot another e f same. absurd (nothing_at place slot e);
    vacant = λ place e. nobody_at place;
    found = λ number there e live. absurd (cc);
    waiters = tt;
    once = tt;
    all = λ place slot e some. absurd (nothing_at place slot e);
  }

-- ---- the first thread

module _ (p : ProgramTree) (policy : AuditPolicy) (monitor : MonitorState) (may : MayAudit policy monitor) (scoped : IsWellScoped p) (none added : ThreadsState) (main : ThreadId)
    (first : AreNone policy.backlog policy.caps none) (adds : HasAdded none p.main None added main) where
  abbrev g : Given
  g = given_of p policy monitor

  abbrev fresh : source.Rest
  fresh = source.Fresh p.main []

  abbrev own : Waiter
  own = record { thread = 0; node = 0; since = 0 }

  abbrev slot : Slot
  slot = record { number = none.next; rest = rest.Fresh p.main None }

  own_slot : IsSlot p added.waits.places (fresh ∷ []) main.slot slot
  own_slot = record {
    there = fresh;
    is_there = ap (slice_get (fresh ∷ [])) first.next;
    rests_as = refl;
    can_go = (scoped.main_defined, scoped.main_params);
    waits = adds.waits;
    in_places = adds.place;
  }

  nothing : (place : ℕ) (s : Slot) → get none.slots place ≡ Some s → ⊥
  nothing = nothing_at policy.backlog policy.caps none first

  are_first : AreThreads p added.slots added.waits.places (fresh ∷ []) (own ∷ [])
  are_first = are_joined p none added main.slot 0 [] (fresh ∷ []) [] (are_none policy.backlog policy.caps none first p) adds.others (more_other [] fresh) (nobody_at policy.backlog policy.caps none first main.slot)
      (λ s e. absurd (nothing main.slot s e)) (λ place s e apart. absurd (nothing place s e)) slot Wait.Fresh 0 0 adds.added first.next own_slot adds.waits tt

  live_first : AreLive p added (fresh ∷ []) empty_exchange (own ∷ [])
  live_first = record {
    exchange_is = ap (λ (x : Exchanging). x.exchange) (adds.exchange ∙ first.exchange);
    uses = refl;
    count = adds.next ∙ ap (λ (n : ℕ). n + 1) first.next;
    live = adds.live ∙ ap (λ (n : ℕ). n + 1) first.live ∙ sym (count_more [] fresh refl);
    are = are_first;
  }

  here_only : (place : ℕ) (s : Slot) → get added.slots place ≡ Some s → (place ≡ main.slot) ⊎ (place ≢ main.slot) → IsSome (at_place added.waits.places place)
  here_only place s e (inl same) = subst (λ (o : Option Wait). IsSome o) (sym (ap (at_place added.waits.places) same ∙ adds.waits)) refl
  here_only place s e (inr apart) = absurd (nothing place s (sym (adds.others.slots place apart) ∙ e))

  sleeps_none : (place : ℕ) → (place ≡ main.slot) ⊎ (place ≢ main.slot) → IfSome (wake_of (at_place added.waits.places place)) (λ time. time ≤ latest 0)
  sleeps_none place (inl same) = subst (λ (o : Option Wait). IfSome (wake_of o) (λ time. time ≤ latest 0)) (sym (ap (at_place added.waits.places) same ∙ adds.waits)) tt
  sleeps_none place (inr apart) =
      subst (λ (o : Option Wait). IfSome (wake_of o) (λ time. time ≤ latest 0)) (sym (adds.others.waits place apart ∙ nobody_at policy.backlog policy.caps none first place)) tt

  -- ---- its queue

  module _ (before scheduler : SchedulerState) (begins : before ≡ started) (joined : IsJoined before scheduler 0 main) (told : IsTold before scheduler 0 (record { thread = main; need = Need.Nothing })) where
    no_queues : IsScheduled added.slots added.waits.places started []
    no_queues = record { queued = record { queue = λ node. tt }; known = λ node. tt }

    vouched : VouchesIn added.slots added.waits.places main Need.Nothing
    vouched =
        ap (λ (o : Option Slot). option_map need_for (wait_of added.waits.places main o)) adds.added
        ∙ ap (λ (b : Bool). option_map need_for (if b then at_place added.waits.places main.slot else None)) (eq-eqb none.next main.number (sym adds.number))
        ∙ ap (option_map need_for) adds.waits

    scheduled_first : IsScheduled added.slots added.waits.places scheduler (own ∷ [])
    scheduled_first = subst (λ (n : ℕ). IsScheduled added.slots added.waits.places scheduler (record { thread = n; node = 0; since = 0 } ∷ [])) (adds.number ∙ first.next)
        (joins added.slots added.waits.places before scheduler 0 main Need.Nothing [] 0 joined told (placed_by added.slots main (record { slot = slot; there = adds.added; number_is = sym adds.number })) vouched
        (subst (λ (s : SchedulerState). IsScheduled added.slots added.waits.places s []) (sym begins) no_queues))

    -- ---- what is kept

    module _ (interpreter : Interpreter) (program : tree_of interpreter ≡ p) (ready : IsReady interpreter) (words : List ℕ) (rows : globals_of (tree_of interpreter) words ≡ start_globals (tree_of interpreter)) (full : IsFull (tree_of interpreter) words)
        (trace : List ℕ) where
      abbrev state : State
      state = start_of g trace

      abbrev core : Core
      core = record {
        policy = policy;
        interpreter = interpreter;
        words = words;
        threads = added;
        scheduler = scheduler;
        graph = empty_graph;
        monitor = monitor;
        free = policy.chunks - 1;
        cost = 0;
        left = policy.steps;
      }

      small_by : (r : ℕ) → r < 8 → slice_index (all_caps g.policy) r ≤ 1000000
      small_by zero below = let most = may.chunks in omega (arith, most)
      small_by (suc r) below = subst (λ (n : ℕ). n ≤ 1000000) (sym (at_drop policy.caps r)) (may.caps (suc r) (omega arith) below)

      all_chunks : policy.chunks ≡ policy.chunks + 0
      all_chunks = omega arith

      of_first : IsOf g core
      of_first = record {
        program = program;
        ready = ready;
        chunks = all_chunks;
        extra = refl;
        fuel = refl;
        caps = refl;
        exchange_caps = ap (λ (x : Exchanging). x.caps) (adds.exchange ∙ first.exchange);
        backlog = ap (λ (x : Exchanging). x.backlog) (adds.exchange ∙ first.exchange);
        curves = refl;
        monitor_caps = may.monitor_caps ∙ ap (λ (n : ℕ). n ∷ drop 1 policy.caps) all_chunks;
        high = refl;
        low = refl;
        rule = refl;
        small = small_by;
        cap_count = may.cap_count;
        most_fuel = may.fuel;
        most_steps = may.steps;
      }

      clock_first : added.waits.clock ≡ 0
      clock_first = adds.clock ∙ ap (λ (w : Waiting). w.clock) first.waits

      noted_first : scheduler.noted ≡ 0
      noted_first = joined.noted ∙ ap (λ (s : SchedulerState). s.noted) begins

      next_first : added.next ≡ 1
      next_first = adds.next ∙ ap (λ (n : ℕ). n + 1) first.next

      stands_first : StandsAt g state 0 core
      stands_first = record {
        of = of_first;
        counted = record {
          cost = refl;
          most_cost = omega arith;
          free = omega arith;
          held = (let some = may.some_chunks in omega (arith, some));
          left = omega arith;
          starts = (let next_is = next_first in omega (arith, next_is));
        };
        between = refl;
        clock_is = clock_first;
        later = omega arith;
        threads = live_first;
        resting = λ place s e. here_only place s e (same_or_not place main.slot);
        globals = subst (λ (t : ProgramTree). globals_of t words ≡ start_globals t) program rows;
        full = subst (λ (t : ProgramTree). IsFull t words) program full;
        scheduled = scheduled_first;
        past = record {
          lasts = λ node. joined.lasts node ∙ ap (λ (s : SchedulerState). slice_index s.lasts node) begins;
          taken = noted_first;
          noted = (let none_noted = noted_first in omega (arith, none_noted));
          graph_keys = refl;
          edges = refl;
          records = omega arith;
          keys = omega arith;
        };
        gate = ap (λ (b : Bool). gate_after g.policy.high g.policy.low b (pressures g.policy.curves (uses_of (seen_of state)) (all_caps g.policy))) (is_true monitor.is_open may.gate);
        timely = record { clock_is = (let at = clock_first in omega (arith, at)); sleepers = λ place. sleeps_none place (same_or_not place main.slot) };
      }

      pub stands_start : (graph : GraphState) → graph ≡ empty_graph → (reader : ReaderState) → reader ≡ record { held = []; lines = 0; last = 0; refused = None } →
          Stands g state (record { core = record core { graph = graph }; reader = reader; next = next.Unread; under = None; end = end.NotYet })
      stands_start graph empty reader is =
          subst (λ (x : GraphState). Stands g state (record { core = record core { graph = x }; reader = reader; next = next.Unread; under = None; end = end.NotYet })) (sym empty)
          (record { end_is = refl; stands = (stands_first, ap (λ (r : ReaderState). r.refused) is) })

-- ---- what is made before the first line

pub stands_made : (p : ProgramTree) (policy : AuditPolicy) (monitor : MonitorState) (may : MayAudit policy monitor) (scoped : IsWellScoped p) (interpreter : Interpreter) (words : List ℕ) (source : HasSource p interpreter words)
    (threads : ThreadsState) (scheduler : SchedulerState) (first : HasFirst policy.backlog policy.caps p.main threads scheduler) (trace : List ℕ) (graph : GraphState) → graph ≡ empty_graph →
    (reader : ReaderState) → reader ≡ record { held = []; lines = 0; last = 0; refused = None } →
    Stands (given_of p policy monitor) (start_of (given_of p policy monitor) trace)
    (record {
      core = record {
        policy = policy;
        interpreter = interpreter;
        words = words;
        threads = threads;
        scheduler = scheduler;
        graph = graph;
        monitor = monitor;
        free = policy.chunks - 1;
        cost = 0;
        left = policy.steps;
      };
      reader = reader;
      next = next.Unread;
      under = None;
      end = end.NotYet;
    })
stands_made p policy monitor may scoped interpreter words source threads scheduler first trace graph empty reader is =
    stands_start p policy monitor may scoped first.there.none threads first.thread first.there.were_none first.there.added started scheduler refl first.queued.joined first.queued.told
    interpreter source.program_is source.ready words source.rows source.full trace graph empty reader is
