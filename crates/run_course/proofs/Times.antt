-- The clock of a run stays within its bound.
use Rattle.run_course.proofs.Common.{◌≡◌, ℕ, zero, suc, ◌+◌, ◌^◌, ◌≤◌, nat_eq, Bool, true, false, not, List, [], ◌∷◌, Option, Some, None, sym, subst, arith, IfSome, if◌then◌else◌, AllByRecursion, cond_both, Exchange, wakes_at, Delivery, is_dropped, with_delivery, latest, Taken, taken_for, Areas, empty_world, started_on, start_world, Pick, delivered, advanced, may_run, picked_at, picked, is_between, after_action, Blocked, Thread, World, Setting, thread_of, first_with, replaced, without, with_thread, Move, Goes, Puts, Spawns, Blocks, Ends, Stops, retired, resumed, result_of, step, Tells, IsTurn, Held, Turn, GoesOn, IsTimely, All-weaker, All-push, few_ticks}
use Rattle.cap_word.specs.declared.calls.Block.{Block}
use Rattle.lawful_log.specs.Waking.{waking_time}
use Rattle.machine_world.proofs.StepCases.{blocked_at, on_printed, on_step, row_for}

-- ---- threads that wake in time

abbrev Wakes : ℕ → Thread → Type 0
Wakes cost thread = IfSome (waking_time thread.blocked) (λ time. time ≤ latest cost)

abbrev AllWake : ℕ → List Thread → Type 0
AllWake cost threads = AllByRecursion (Wakes cost) threads

later_some : (cost : ℕ) (o : Option ℕ) → IfSome o (λ time. time ≤ latest cost) → IfSome o (λ time. time ≤ latest (cost + 1))
later_some cost None is = tt
later_some cost (Some time) is = let now : time ≤ latest cost = is in omega (arith, now)

all_later : (cost : ℕ) (threads : List Thread) → AllWake cost threads → AllWake (cost + 1) threads
all_later cost threads all = All-weaker (Wakes cost) (Wakes (cost + 1)) (λ t. later_some cost (waking_time t.blocked)) threads all

all_replaced : (cost : ℕ) (new : Thread) (threads : List Thread) → Wakes cost new → AllWake cost threads → AllWake cost (replaced new threads)
all_replaced cost new [] is all = tt
all_replaced cost new (t ∷ ts) is all = (cond_both (nat_eq t.number new.number) new t (Wakes cost) (λ _. is) (λ _. all.0), all_replaced cost new ts is all.1)

all_without : (cost number : ℕ) (threads : List Thread) → AllWake cost threads → AllWake cost (without number threads)
all_without cost number [] all = tt
all_without cost number (t ∷ ts) all =
    let rest = all_without cost number ts all.1 in
    cond_both (not (nat_eq t.number number)) (t ∷ without number ts) (without number ts) (AllWake cost) (λ _. (all.0, rest)) (λ _. rest)

found_by : (cost number : ℕ) (u : Thread) (us : List Thread) (t : Thread) → Wakes cost u → (first_with number us ≡ Some t → Wakes cost t) → (b : Bool) → (if b then Some u else first_with number us) ≡ Some t → Wakes cost t
found_by cost number u us t here later true f = let is : u ≡ t = cc in subst (Wakes cost) is here
found_by cost number u us t here later false f = later f

all_found : (cost number : ℕ) (threads : List Thread) (t : Thread) → AllWake cost threads → first_with number threads ≡ Some t → Wakes cost t
all_found cost number [] t all e = absurd (cc)
all_found cost number (u ∷ us) t all e = found_by cost number u us t all.0 (λ f. all_found cost number us t all.1 f) (nat_eq u.number number) e

-- ---- moves

abbrev KeepsTimes : Move → Type 0
KeepsTimes (Goes after) = IsTimely after
KeepsTimes (Puts value after) = IsTimely after
KeepsTimes (Spawns number after) = IsTimely after
KeepsTimes (Blocks after) = IsTimely after
KeepsTimes (Ends after) = IsTimely after
KeepsTimes _ = Unit {0}

clock_later : (clock cost : ℕ) → clock ≤ latest cost → clock + 1 ≤ latest (cost + 1)
clock_later clock cost h = omega (arith, h)

times_retired : (w : World) (new : Thread) (areas : Areas) → IsTimely w → Wakes (w.cost + 1) new → IsTimely (retired w new areas)
times_retired w new areas is wakes_new = record {
  clock = clock_later w.clock w.cost is.clock;
  sleepers = all_replaced (w.cost + 1) new w.threads wakes_new (all_later w.cost w.threads is.sleepers);
}

times_exchange : (w : World) (x : Exchange) → IsTimely w → IsTimely (record w { exchange = x })
times_exchange w x is = record { clock = is.clock; sleepers = is.sleepers }

times_running : (w : World) (running : Option ℕ) → IsTimely w → IsTimely (record w { running = running })
times_running w running is = record { clock = is.clock; sleepers = is.sleepers }

wakes_soon : (clock cost : ℕ) (block : Block) → clock ≤ latest cost → IfSome (wakes_at (clock + 1) block) (λ time. time ≤ latest (cost + 1))
wakes_soon clock cost (Block.Sleep ticks) h = let few = few_ticks ticks in omega (arith, h, few)
wakes_soon clock cost (Block.WaitFor channel ticks) h = let few = few_ticks ticks in omega (arith, h, few)
wakes_soon clock cost _ h = tt

times_started : (w : World) (taken : Taken) (entry argument : ℕ) → IsTimely w → IsTimely (with_thread w taken entry argument)
times_started w taken entry argument is = record { clock = is.clock; sleepers = All-push (Wakes w.cost) w.threads _ is.sleepers tt }

times_step : (s : Setting) (w : World) → IsTimely w → KeepsTimes (step s w)
times_step s w is = on_step s w KeepsTimes (λ stop. tt) tt (λ number thread runs there left. record {
  goes = λ after e. times_retired w (record thread { core = after.core }) after.areas is (later_some w.cost (waking_time thread.blocked) (all_found w.cost number w.threads thread is.sleepers there));
  answers = λ ask still e.
      let row = row_for s w thread ask in
      let after = times_exchange (retired w (resumed thread (result_of ask row.result)) w.areas) row.after (times_retired w (resumed thread (result_of ask row.result)) w.areas is tt) in
      on_printed KeepsTimes row.prints _ after (λ word prints. after);
  blocks = λ block. times_running (retired w (blocked_at w thread block) w.areas) None (times_retired w (blocked_at w thread block) w.areas is (wakes_soon w.clock w.cost block is.clock));
  spawns = λ entry argument need still taken e few some.
      times_started (retired w (resumed thread (Some w.next)) w.areas) taken entry argument (times_retired w (resumed thread (Some w.next)) w.areas is tt);
  ends = λ areas e. record {
    clock = clock_later w.clock w.cost is.clock;
    sleepers = all_without (w.cost + 1) thread.number w.threads (all_later w.cost w.threads is.sleepers);
  };
})

-- ---- what a run does

pub timely_delivered : (s : Setting) (w : World) (delivery : Delivery) → IsTimely w → IsTimely (delivered s w delivery)
timely_delivered s w delivery is =
    cond_both (is_dropped s.backlog w.exchange delivery) w (record w { exchange = with_delivery w.exchange delivery }) IsTimely
    (λ _. is)
    (λ _. times_exchange w (with_delivery w.exchange delivery) is)

pub timely_advanced : (w : World) (to : ℕ) → to ≤ latest w.cost → IsTimely w → IsTimely (advanced w to)
timely_advanced w to h is = record { clock = h; sleepers = is.sleepers }

-- a thread that is picked sleeps no more
abbrev TimelyIf : Option World → Type 0
TimelyIf None = Unit {0}
TimelyIf (Some w) = IsTimely w

times_picked_at : (s : Setting) (w : World) (thread : Thread) (blocked : Option Blocked) → IsTimely w → IsTimely (picked_at s w thread blocked)
times_picked_at s w thread None is = times_running w (Some thread.number) is
times_picked_at s w thread (Some blocked) is = record { clock = is.clock; sleepers = all_replaced w.cost _ w.threads tt is.sleepers }

times_picked : (s : Setting) (w : World) (found : Option Thread) → IsTimely w → TimelyIf (picked s w found)
times_picked s w None is = tt
times_picked s w (Some thread) is =
    cond_both (may_run s w thread.blocked) (Some (picked_at s w thread thread.blocked)) None TimelyIf
    (λ _. times_picked_at s w thread thread.blocked is)
    (λ _. tt)

pub timely_picked : (s : Setting) (w after : World) (number : ℕ) → after_action s w (Pick number) ≡ Some after → IsTimely w → IsTimely after
timely_picked s w after number e is =
    subst TimelyIf e (cond_both (is_between w) (picked s w (thread_of w number)) None TimelyIf (λ _. times_picked s w (thread_of w number) is) (λ _. tt))

-- ---- a turn

goes_timely : (s : Setting) (n : ℕ) (w at : World) → GoesOn s n w at → IsTimely w → IsTimely at
goes_timely s zero w at e is = subst IsTimely (sym e) is
goes_timely s (suc n) w at goes is = goes_timely s n goes.0 at goes.2 (subst KeepsTimes goes.1 (times_step s w is))

tells_timely : (move : Move) (turn : Turn) (number : ℕ) (at : World) (new : Held) → IsTimely at → KeepsTimes move → Tells move turn number at new → IsTimely new.machine
tells_timely (Puts value after) (Turn.Out told) number at new is kept t = subst IsTimely (sym t.1) kept
tells_timely (Spawns started after) (Turn.Spawned thread) number at new is kept t = subst IsTimely (sym t.2) kept
tells_timely (Spawns started after) Turn.Memory number at new is kept t = subst IsTimely (sym t.0) is
tells_timely (Blocks after) (Turn.Blocked key cost) number at new is kept t = subst IsTimely (sym t.2) kept
tells_timely (Ends after) (Turn.Ended cost) number at new is kept t = subst IsTimely (sym t.1) kept
tells_timely (Stops stop) (Turn.Cut told cost) number at new is kept t = subst IsTimely (sym t.2) is
tells_timely _ _ number at new is kept t = absurd t

pub timely_turn : (old : Held) (number : ℕ) (from : World) (turn : Turn) (new : Held) → IsTurn old number from turn new → IsTimely from → IsTimely new.machine
timely_turn old number from turn new is times =
    let there = goes_timely old.setting is.steps from is.at is.goes_on times in
    tells_timely (step old.setting is.at) turn number is.at new there (times_step old.setting is.at there) is.tells

-- ---- the start

times_started_on : (w : World) (entry : ℕ) (found : Option Taken) → IsTimely w → TimelyIf (started_on w entry found)
times_started_on w entry None is = tt
times_started_on w entry (Some taken) is = times_started w taken entry 0 is

times_start : (areas : Areas) (entry need : ℕ) → TimelyIf (start_world areas entry need)
unfolding start_world
times_start areas entry need =
    times_started_on (empty_world areas) entry (taken_for areas.pool need) (record { clock = omega arith; sleepers = tt })

pub timely_start : (areas : Areas) (entry need : ℕ) (w : World) → start_world areas entry need ≡ Some w → IsTimely w
timely_start areas entry need w e = subst TimelyIf e (times_start areas entry need)

-- ---- the clock can be set so far

pub possible : (w : World) (time : ℕ) → w.cost ≤ 1000000000 → time ≤ latest w.cost → time ≤ 2 ^ 63
possible w time h l = omega (arith, h, l)
