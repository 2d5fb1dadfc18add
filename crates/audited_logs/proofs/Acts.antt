-- What actions between segments, and steps, leave of the clock, the cost, the chunks and the number of threads.
use Rattle.audited_logs.proofs.Common.{◌≡◌, ℕ, suc, ◌<◌, ◌≤◌, ◌&&◌, Bool, true, false, nat_eq, nat_le, not, List, [], ◌∷◌, length, Option, Some, None, refl, ◌∙◌, subst, arith, length-append, if◌then◌else◌, IfSome, cond_both, nat_tests, length-map, most_threads, Delivery, is_dropped, with_delivery, row_for, on_step, on_printed, given_if}
use Rattle.machine_world.specs.Runs.{Action, Deliver, Advance, Pick, is_between, delivered, advanced, may_run, picked_at, picked, after_action, after_actions, and_then, world_of}
use Rattle.machine_world.specs.Threads.{Blocked, Thread, World, Setting, thread_of, replaced, without, resumed, start_core, Move, step}
use Rattle.lawful_log.proofs.Picked.{between_if}

-- ---- actions

-- areas, cost and the number of threads are the same, and the clock is this
pub record Acted (w after : World) (clock : ℕ) : Type 0 where
  pub areas : after.areas ≡ w.areas
  pub cost : after.cost ≡ w.cost
  pub threads : length after.threads ≡ length w.threads
  pub clock_is : after.clock ≡ clock

pub same_some : (a b : World) → ◌≡◌ {A = Option World} (Some a) (Some b) → a ≡ b
same_some a b e = cc

pub none-not : (a : World) → ◌≡◌ {A = Option World} None (Some a) → ⊥
none-not a e = absurd (cc)

delivered_acted : (w : World) (delivery : Delivery) (b : Bool) → Acted w (if b then w else record w { exchange = with_delivery w.exchange delivery }) w.clock
delivered_acted w delivery true = record { areas = refl; cost = refl; threads = refl; clock_is = refl }
delivered_acted w delivery false = record { areas = refl; cost = refl; threads = refl; clock_is = refl }

pub delivers : (s : Setting) (w after : World) (delivery : Delivery) → after_action s w (Deliver delivery) ≡ Some after → Acted w after w.clock
delivers s w after delivery e =
    subst (λ (v : World). Acted w v w.clock) (given_if (is_between w) (delivered s w delivery) after e) (delivered_acted w delivery (is_dropped s.backlog w.exchange delivery))

pub advances : (s : Setting) (w after : World) (to : ℕ) → after_action s w (Advance to) ≡ Some after → Acted w after to
advances s w after to e =
    subst (λ (v : World). Acted w v to) (given_if (is_between w && nat_le w.clock to) (advanced w to) after e) (record { areas = refl; cost = refl; threads = refl; clock_is = refl })

picked_acted : (s : Setting) (w : World) (thread : Thread) (blocked : Option Blocked) → Acted w (picked_at s w thread blocked) w.clock
picked_acted s w thread None = record { areas = refl; cost = refl; threads = refl; clock_is = refl }
picked_acted s w thread (Some blocked) = record { areas = refl; cost = refl; threads = length-map w.threads _; clock_is = refl }

picks_found : (s : Setting) (w after : World) (found : Option Thread) → picked s w found ≡ Some after → Acted w after w.clock
picks_found s w after None e = absurd (none-not after e)
picks_found s w after (Some thread) e =
    subst (λ (v : World). Acted w v w.clock) (given_if (may_run s w thread.blocked) (picked_at s w thread thread.blocked) after e) (picked_acted s w thread thread.blocked)

pub picks : (s : Setting) (w after : World) (number : ℕ) → after_action s w (Pick number) ≡ Some after → Acted w after w.clock
picks s w after number e = picks_found s w after (thread_of w number) (between_if (is_between w) (picked s w (thread_of w number)) after e)

-- two actions, one after the other
pub record Two (s : Setting) (first second : Action) (w after : World) : Type 0 where
  pub between : World
  pub once : after_action s w first ≡ Some between
  pub twice : after_action s between second ≡ Some after

last_of : (s : Setting) (first second : Action) (w between after : World) (found : Option World) → after_action s w first ≡ Some between → after_action s between second ≡ found → and_then found (after_actions s []) ≡ Some after → Two s first second w after
last_of s first second w between after None once e rest = absurd (none-not after rest)
last_of s first second w between after (Some other) once e rest = record { between = between; once = once; twice = e ∙ rest }

two_by : (s : Setting) (first second : Action) (w after : World) (found : Option World) → after_action s w first ≡ found → and_then found (after_actions s (second ∷ [])) ≡ Some after → Two s first second w after
two_by s first second w after None e rest = absurd (none-not after rest)
two_by s first second w after (Some between) e rest = last_of s first second w between after (after_action s between second) e refl rest

pub two : (s : Setting) (first second : Action) (w after : World) → after_actions s (first ∷ second ∷ []) w ≡ Some after → Two s first second w after
two s first second w after e = two_by s first second w after (after_action s w first) refl e

-- ---- how many threads live

abbrev pub Few : World → Type 0
Few w = length w.threads ≤ most_threads

-- as few as may live are left by a step
abbrev pub KeepsFew : Move → Type 0
KeepsFew move = IfSome (world_of move) Few

replaced_few : (new : Thread) (threads : List Thread) → length threads ≤ most_threads → length (replaced new threads) ≤ most_threads
replaced_few new threads few = let same : length (replaced new threads) ≡ length threads = length-map threads _ in omega (arith, same, few)

without_fewer : (number : ℕ) (threads : List Thread) → length (without number threads) ≤ length threads
without_fewer number [] = omega arith
without_fewer number (t ∷ ts) =
    let rest = without_fewer number ts in
    cond_both (not (nat_eq t.number number)) (t ∷ without number ts) (without number ts) (λ (xs : List Thread). length xs ≤ suc (length ts))
    (λ _. omega (arith, rest))
    (λ _. omega (arith, rest))

fewer : (n : ℕ) → nat_le most_threads n ≡ false → n < most_threads
fewer n e = grind (arith, nat_tests, e)

pub few_step : (s : Setting) (w : World) → Few w → KeepsFew (step s w)
few_step s w few =
    on_step s w KeepsFew (λ stop. tt) tt
    (λ number thread runs there left. record {
      goes = λ after e. replaced_few _ w.threads few;
      answers = λ ask still e. on_printed KeepsFew (row_for s w thread ask).prints _ (replaced_few _ w.threads few) (λ word some. replaced_few _ w.threads few);
      blocks = λ block. replaced_few _ w.threads few;
      spawns = λ entry argument need still taken e some_left some.
          let new = resumed thread (Some w.next) in
          let same : length (replaced new w.threads) ≡ length w.threads = length-map w.threads (λ (t : Thread). if nat_eq t.number new.number then new else t) in
          let more = length-append (replaced new w.threads) (record { number = w.next; core = start_core taken entry argument; blocked = None } ∷ []) in
          let room = fewer (length w.threads) some_left in
          omega (arith, same, more, room);
      ends = λ areas e. let less = without_fewer thread.number w.threads in omega (arith, less, few);
    })
