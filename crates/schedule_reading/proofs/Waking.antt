-- The clock goes on to the next time at which something goes on.
use Rattle.schedule_reading.proofs.Common.{◌≡◌, ℕ, zero, suc, ◌^◌, ◌<◌, ◌≤◌, ◌||◌, Bool, true, false, List, [], ◌∷◌, ◌++◌, Option, Some, None, refl, sym, ◌∙◌, subst, arith, cond, All, IfSome, slice_get, slice_index_or, list_any, Block, IsLeastOf, event_times, is_due, latest, any_ready, waking_times, IsIdle, IsNext, awake_by, clock_moves, later_by, Event, Given, State, seen_of, IsWake, sleeps_in, Wait, Kept, StandsAt, any_ready_in, at_place, or_parts, or_from}
use Rattle.c_mean.specs.ModelledCalls as table
use Rattle.c_mean.specs.ModelledCalls.{Exchange, blocking_row, wake_of, wakes_at}
use Rattle.c_mean.proofs.CallLemmas.{waits_alone}
use Rattle.choice_rules.specs.Readiness as rules
use Rattle.thread_waits.specs.Counted as counted
use Rattle.thread_waits.specs.Waiting as waits_of
use Rattle.schedule_reading.specs.Rulings.{Comes, ComesToChoice, Goes, GoesOnFrom, Halts}
use Rattle.schedule_reading.proofs.Any.{at_any}
use Rattle.schedule_reading.proofs.Sleeping.{at_map, least_sleeps, nobody_sleeps, wakes_agrees}
use Rattle.schedule_reading.proofs.Pointing.{between_is, live_is, next_of, ready_same}

-- ---- who sleeps

-- one that sleeps until a time isn't ready before it, wakes then and is ready then
record Sleeps (caps : List ℕ) (x : Exchange) (clock : ℕ) (o : Option Wait) (time : ℕ) : Type 0 where
  pub later : clock < time
  pub wakes : counted.wake_of o ≡ Some time
  pub then_ready : waits_of.is_ready_in caps x time o ≡ true

block_sleeps : (caps : List ℕ) (x : Exchange) (clock since : ℕ) (block : Block) (time : ℕ) (b : Bool) → table.is_ready caps x clock since block ≡ b → cond b None (wakes_at since block) ≡ Some time →
    Sleeps caps x clock (Some (Wait.At block since)) time
block_sleeps caps x clock since block time true ready e = absurd (cc)
block_sleeps caps x clock since block time false ready e = record {
  later = later_by (blocking_row caps x block).ready clock (wake_of since (blocking_row caps x block).wait) time ready (waits_alone caps x since block ∙ e);
  wakes = e;
  then_ready = awake_by (blocking_row caps x block).ready time (wake_of since (blocking_row caps x block).wait) (waits_alone caps x since block ∙ e);
}

sleeps_is : (caps : List ℕ) (x : Exchange) (clock : ℕ) (o : Option Wait) (time : ℕ) → sleeps_in caps x clock o ≡ Some time → Sleeps caps x clock o time
sleeps_is caps x clock (Some (Wait.At block since)) time e = block_sleeps caps x clock since block time (table.is_ready caps x clock since block) refl e
sleeps_is caps x clock _ time e = absurd (cc)

-- ---- nobody is ready

none_any : {X : Type 0} (test : Option X → Bool) → test None ≡ false → (xs : List (Option X)) (k : ℕ) → list_any test xs ≡ false → test (slice_index_or xs k None) ≡ false
none_any test none [] k e = none
none_any test none (x ∷ xs) zero e = (or_parts (test x) (list_any test xs) e).0
none_any test none (x ∷ xs) (suc k) e = none_any test none xs k (or_parts (test x) (list_any test xs) e).1

-- what is kept at another clock
abbrev pub at_clock : Kept → ℕ → Kept
at_clock k time = record k { core = record k.core { threads = record k.core.threads { waits = record k.core.threads.waits { clock = time } } } }

pub least_alone : (time : ℕ) → IsLeastOf (time ∷ []) time
least_alone time = record { one = (0, omega arith, refl); least = alone_least }
  where
    alone_least : All (λ other. time ≤ other) (time ∷ [])
    alone_least zero d h = omega arith
    alone_least (suc k) d h = absurd (omega (arith, h))

pub least_first : (time : ℕ) (times : List ℕ) (other : ℕ) → IsLeastOf times other → time ≤ other → IsLeastOf (time ∷ times) time
least_first time times other least below = record { one = (0, omega arith, refl); least = all }
  where
    all : All (λ t. time ≤ t) (time ∷ times)
    all zero d h = omega arith
    all (suc k) d h = let rest = least.least k d (omega (arith, h)) in omega (arith, rest, below)

pub least_later : (first : ℕ) (times : List ℕ) (time : ℕ) → IsLeastOf times time → time ≤ first → IsLeastOf (first ∷ times) time
least_later first times time least below = record { one = (suc least.one.0, omega (arith, least.one.1), least.one.2); least = all }
  where
    all : All (λ t. time ≤ t) (first ∷ times)
    all zero d h = below
    all (suc k) d h = least.least k d (omega (arith, h))

module _ (g : Given) (state : State) (k : Kept) (known : Option Event) (from : GoesOnFrom g state k known)
    (not_due : is_due known k.core.threads.waits.clock ≡ false) (unready : any_ready_in k.core.threads ≡ false) where
  stands : StandsAt g state state.clock k.core
  stands = from.0.0

  abbrev caps : List ℕ
  caps = k.core.threads.exchange.caps

  abbrev x : Exchange
  x = k.core.threads.exchange.exchange

  abbrev now : ℕ
  now = k.core.threads.waits.clock

  abbrev places : List (Option Wait)
  places = k.core.threads.waits.places

  none_ready : any_ready g.policy (seen_of state) state.clock ≡ false
  none_ready = sym (ready_same g state state.clock k.core stands) ∙ unready

  nothing : (is_due known state.clock || any_ready g.policy (seen_of state) state.clock) ≡ false
  nothing = or_from (is_due known state.clock) (any_ready g.policy (seen_of state) state.clock) (subst (λ (n : ℕ). is_due known n ≡ false) stands.clock_is not_due) none_ready

  none_at : (place : ℕ) → waits_of.is_ready_in caps x now (at_place places place) ≡ false
  none_at place = none_any (waits_of.is_ready_in caps x now) refl places place unready

  -- ---- sleepers

  pub nobody_wakes : IsWake caps x k.core.threads.waits None → waking_times (seen_of state) ≡ []
  nobody_wakes all =
      nobody_sleeps g.program k.core.threads.slots places state.source.threads state.waiting stands.threads.are (sleeps_in caps x now) (λ w. rules.wakes w.since (slice_get state.source.threads w.thread)) refl
      (wakes_agrees g.program k.core.threads.slots places state.source.threads state.waiting stands.threads.are caps x now none_at) all

  module _ (time : ℕ) (wake : IsWake caps x k.core.threads.waits (Some time)) where
    pub least : IsLeastOf (waking_times (seen_of state)) time
    least =
        least_sleeps g.program k.core.threads.slots places state.source.threads state.waiting stands.threads.are (sleeps_in caps x now) (λ w. rules.wakes w.since (slice_get state.source.threads w.thread)) refl
        (wakes_agrees g.program k.core.threads.slots places state.source.threads state.waiting stands.threads.are caps x now none_at) time wake.0 wake.1

    sleeps : Sleeps caps x now (at_place places wake.0.0) time
    sleeps = sleeps_is caps x now (at_place places wake.0.0) time (sym (at_map (sleeps_in caps x now) places wake.0.0 (Some time) wake.0.1) ∙ wake.0.2)

    pub later : now ≤ time
    later = let after = sleeps.later in omega (arith, after)

    pub possible : time ≤ latest k.core.cost
    possible = some_is (counted.wake_of (at_place places wake.0.0)) sleeps.wakes (stands.timely.sleepers wake.0.0)
      where
        some_is : (o : Option ℕ) → o ≡ Some time → IfSome o (λ t. t ≤ latest k.core.cost) → time ≤ latest k.core.cost
        some_is None e h = absurd (cc)
        some_is (Some t) e h = let same : t ≡ time = cc in subst (λ (n : ℕ). n ≤ latest k.core.cost) same h

    pub ready_then : any_ready_in (at_clock k time).core.threads ≡ true
    ready_then = at_any (waits_of.is_ready_in caps x time) refl places wake.0.0 sleeps.then_ready

  -- ---- at the new clock

  pub cost_small : k.core.cost ≤ 1000000000
  cost_small = let most = stands.counted.most_cost in let small = stands.of.most_fuel in omega (arith, most, small)

  pub in_time : (time : ℕ) → time ≤ latest k.core.cost → time ≤ waits_of.latest
  in_time time h = let small = cost_small in omega (arith, h, small)

  pub stands_then : (time : ℕ) → now ≤ time → time ≤ latest k.core.cost → StandsAt g state time (at_clock k time).core
  stands_then time after most = record {
    of = record {
      program = stands.of.program;
      ready = stands.of.ready;
      chunks = stands.of.chunks;
      extra = stands.of.extra;
      fuel = stands.of.fuel;
      caps = stands.of.caps;
      exchange_caps = stands.of.exchange_caps;
      backlog = stands.of.backlog;
      curves = stands.of.curves;
      monitor_caps = stands.of.monitor_caps;
      high = stands.of.high;
      low = stands.of.low;
      rule = stands.of.rule;
      small = stands.of.small;
      cap_count = stands.of.cap_count;
      most_fuel = stands.of.most_fuel;
      most_steps = stands.of.most_steps;
    };
    counted = record { cost = stands.counted.cost; most_cost = stands.counted.most_cost; free = stands.counted.free; held = stands.counted.held; left = stands.counted.left; starts = stands.counted.starts };
    between = stands.between;
    clock_is = refl;
    later = let first = stands.clock_is in omega (arith, first, after);
    threads = record { exchange_is = stands.threads.exchange_is; uses = stands.threads.uses; count = stands.threads.count; live = stands.threads.live; are = stands.threads.are };
    resting = stands.resting;
    globals = stands.globals;
    full = stands.full;
    scheduled = stands.scheduled;
    past = record { lasts = stands.past.lasts; taken = stands.past.taken; noted = stands.past.noted; graph_keys = stands.past.graph_keys; edges = stands.past.edges; records = stands.past.records; keys = stands.past.keys };
    gate = stands.gate;
    timely = record { clock_is = most; sleepers = stands.timely.sleepers };
  }

  goes_then : (told : Option (List ℕ)) (time : ℕ) → now ≤ time → time ≤ latest k.core.cost → IsLeastOf (event_times known ++ waking_times (seen_of state)) time → Goes g state k told known (at_clock k time) told
  goes_then told time after most first = record {
    stands = stands_then time after most;
    looked = from.0.1;
    known_is = from.1;
    point = λ is. record {
      between = between_is g state state.clock k.core stands;
      live = live_is g state state.clock k.core stands from.2;
      next_is = next_of state.trace k.reader k.next known told from.1 is;
      clock_is = clock_moves (is_due known state.clock || any_ready g.policy (seen_of state) state.clock) (seen_of state) known time nothing first;
    };
    trace = λ is. is;
  }

  -- the reading is idle
  pub idles : (told : Option (List ℕ)) → known ≡ None → IsWake caps x k.core.threads.waits None → Halts g state k told k told (IsIdle g.policy (seen_of state))
  idles told none all = record {
    stands = stands;
    looked = from.0.1;
    stops = λ is. record {
      between = between_is g state state.clock k.core stands;
      live = live_is g state state.clock k.core stands from.2;
      over = subst (λ (o : Option Event). IsNext state.trace o) none (next_of state.trace k.reader k.next known told from.1 is);
      none_ready = none_ready;
      none_sleeps = nobody_wakes all;
    };
    trace = λ is. is;
  }

  -- a sleeper wakes
  pub wakes_one : (told : Option (List ℕ)) (time : ℕ) → IsWake caps x k.core.threads.waits (Some time) → IsLeastOf (event_times known ++ waking_times (seen_of state)) time → is_due known time ≡ false → ComesToChoice g state k told (at_clock k time) told
  wakes_one told time wake first not_then = record {
    known = known;
    goes = goes_then told time (later time wake) (possible time wake) first;
    not_due = not_then;
    ready = ready_then time wake;
  }

  -- the next event comes
  pub comes_then : (told : Option (List ℕ)) (event : Event) → known ≡ Some event → now ≤ event.time → event.time ≤ 10 ^ 15 → IsLeastOf (event_times known ++ waking_times (seen_of state)) event.time → Comes g state k told event (at_clock k event.time) told
  comes_then told event is after early first = record {
    goes = subst (λ (o : Option Event). Goes g state k told o (at_clock k event.time) told) is (goes_then told event.time after (omega (arith, early)) first);
    due = omega arith;
  }
