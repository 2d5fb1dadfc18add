-- The thread that runs stands at its place, and nobody waits there; then it blocks there, or ends.
use Rattle.schedule_reading.proofs.Common.{◌≡◌, ◌≢◌, ℕ, ◌+◌, ◌<◌, ◌≤◌, List, [], ◌∷◌, ◌++◌, length, Option, Some, None, IsSome, refl, sym, ap, ◌∙◌, subst, arith, ⊎_elim, length-set, IfSome, slice_get, slice_set, Block, ThreadId, Exchange, ProgramTree, latest, Waiter, newcomers, Given, State, Need, get, IsFull, IsThread, waiting_of, Thread, Exchanging, wake_of, Wait, Slot, HasBlocked, HasEnded, IsAway, KeepsOthers, AreBeside, AreLive, AreThreads, IsScheduled, IsSince, IsSlot, IsTimely, IsWaiter, waiting_with, ThreadsState, Vouches, at_place, same_or_not}
use Rattle.c_mean.specs.World as source
use Rattle.ready_tree.specs.declared.entries.Entry.{Entry}
use Rattle.scheduler.specs.State.{SchedulerState, IsJoined, IsTold}
use Rattle.schedule_reading.specs.declared.threads.Rest.TheVariants as rest
use Rattle.schedule_reading.proofs.Beginning.{rest_lives}
use Rattle.schedule_reading.proofs.Joins.{joins}
use Rattle.schedule_reading.proofs.Places.{At, not_vacant, placed_by, same_slot, scheduled_kept}
use Rattle.schedule_reading.proofs.Resting.{later, wakes_in_time}
use Rattle.schedule_reading.proofs.Standing.{are_joined, are_without, count_less, count_set, set_here, set_other}
use Rattle.schedule_reading.proofs.Telling.{vouched_waits}

-- only the clock has moved
abbrev pub at_clock : ThreadsState → ℕ → ThreadsState
at_clock threads clock = record threads { waits = record threads.waits { clock = clock } }

-- a thread's words fit any words of the globals
any_words : (tree : ProgramTree) (thread : Thread) (words other : List ℕ) → IsThread tree thread words → IsFull tree other → IsThread tree thread other
any_words tree thread words other is full = record { front = is.front; place = is.place; below = is.below; globals = full }

some_not : (since : ℕ) (o : Option Wait) → IsSince since o → o ≡ None → ⊥
some_not since None is e = is
some_not since (Some w) is e = absurd (cc)

module _ (g : Given) (state : State) (rests : List source.Rest) (exchange : Exchange) (number : ℕ) (threads : ThreadsState) (scheduler : SchedulerState) (running : ThreadId) (b : AreBeside g state rests exchange number threads scheduler running) (clock : ℕ) where
  abbrev place : ℕ
  place = running.slot

  abbrev moved : ThreadsState
  moved = at_clock threads clock

  abbrev who : List Waiter
  who = waiting_with state rests

  pub away : IsSlot g.program threads.waits.places rests place b.away
  away = b.are.are.each place b.away b.away_there

  -- it stands at its place and waits for nothing
  pub is_away : IsAway threads running
  is_away = record { slot = b.away; there = b.away_there; number_is = b.away_number ∙ sym b.number_is; waits = b.away_waits; place = away.in_places }

  pub there_is : slice_get rests number ≡ Some away.there
  there_is = ap (slice_get rests) (sym b.away_number) ∙ away.is_there

  own_number : (s : Slot) → get threads.slots place ≡ Some s → s.number ≡ number
  own_number s e = ap (λ (x : Slot). x.number) (same_slot threads.slots place s b.away e b.away_there) ∙ b.away_number

  apart_number : (p : ℕ) (s : Slot) → get threads.slots p ≡ Some s → p ≢ place → s.number ≢ number
  apart_number p s e apart same = apart (b.are.are.one p place s b.away e b.away_there (same ∙ sym b.away_number))

  waits_apart : (thread : ThreadId) (w : Waiter) → thread.number ≡ w.thread → IsWaiter threads.slots threads.waits.places w → At threads.slots thread → thread.slot ≢ place
  waits_apart thread w same is at here =
      let own : thread.number ≡ number = sym at.number_is ∙ own_number at.slot (ap (get threads.slots) (sym here) ∙ at.there) in
      let p : is.has.place ≡ place = b.are.are.one is.has.place place is.has.slot b.away is.has.there b.away_there (is.has.number_is ∙ sym same ∙ own ∙ sym b.away_number) in
      some_not w.since (at_place threads.waits.places is.has.place) is.since (ap (at_place threads.waits.places) p ∙ b.away_waits)

  vouched_apart : (entry : Entry) → Vouches threads entry.thread entry.need → entry.thread.slot ≢ place
  vouched_apart entry v here = vouched_waits threads.slots threads.waits.places entry.thread entry.need v (ap (at_place threads.waits.places) here ∙ b.away_waits)

  -- who waits, by a world with as many threads
  pub who_more : (more : List source.Rest) (joining : List Waiter) → length more ≡ length rests → who ++ joining ≡ state.waiting ++ newcomers state.source (length more) ++ joining
  who_more more joining same =
      ap (λ (n : ℕ). state.waiting ++ newcomers state.source n ++ joining) (sym same)

  module _ (k_cost : ℕ) (timely : IsTimely threads.waits.clock threads.waits.places k_cost) where
    sleepers_by : (new : ThreadsState) (p more : ℕ) → KeepsOthers moved new place → p ≢ place → IfSome (wake_of (at_place new.waits.places p)) (λ time. time ≤ latest (k_cost + more))
    sleepers_by new p more others apart =
        later (wake_of (at_place new.waits.places p)) k_cost (k_cost + more) (omega arith)
        (subst (λ (o : Option Wait). IfSome (wake_of o) (λ time. time ≤ latest k_cost)) (sym (others.waits p apart)) (timely.sleepers p))

  -- ---- it blocks

  module _ (block : Block) (thread : Thread) (words : List ℕ) (is_thread : IsThread g.program thread words) (new : ThreadsState) (blocked : HasBlocked moved running block thread new) where
    abbrev slot : Slot
    slot = record b.away { rest = rest.Blocked block thread }

    abbrev resting : source.Rest
    resting = source.Blocked block (waiting_of g.program thread)

    abbrev pub blocked_rests : List source.Rest
    blocked_rests = slice_set rests number resting

    long : length blocked_rests ≡ length rests
    long = length-set rests number resting

    slot_there : get new.slots place ≡ Some slot
    slot_there = blocked.blocked b.away b.away_there

    slot_stands : IsSlot g.program new.waits.places blocked_rests place slot
    slot_stands = record {
      there = resting;
      is_there = ap (slice_get blocked_rests) b.away_number ∙ set_here rests number resting away.there there_is;
      rests_as = refl;
      can_go = λ other full. any_words g.program thread words other is_thread full;
      waits = (clock, blocked.waits);
      in_places = let longer = blocked.others.longer in let below = away.in_places in omega (arith, longer, below);
    }

    pub blocked_threads : (node since : ℕ) → clock ≡ since → AreThreads g.program new.slots new.waits.places blocked_rests (who ++ record { thread = number; node = node; since = since } ∷ [])
    blocked_threads node since e = are_joined g.program moved new place number rests blocked_rests who b.are.are blocked.others (set_other rests number resting) b.away_waits own_number apart_number
        slot (Wait.At block clock) node since slot_there b.away_number slot_stands blocked.waits e

    pub blocked_live : (node since : ℕ) → clock ≡ since → AreLive g.program new blocked_rests exchange (who ++ record { thread = number; node = node; since = since } ∷ [])
    blocked_live node since e = record {
      exchange_is = ap (λ (x : Exchanging). x.exchange) blocked.exchange ∙ b.are.exchange_is;
      uses = b.are.uses;
      count = blocked.next ∙ b.are.count ∙ sym long;
      live = blocked.live ∙ b.are.live ∙ sym (count_set rests number resting away.there there_is (rest_lives g.program b.away.rest away.there away.rests_as) refl);
      are = blocked_threads node since e;
    }

    pub blocked_resting : (p : ℕ) (s : Slot) → get new.slots p ≡ Some s → IsSome (at_place new.waits.places p)
    blocked_resting p s e = ⊎_elim
        (λ (here : p ≡ place). subst (λ (o : Option Wait). IsSome o) (sym (ap (at_place new.waits.places) here ∙ blocked.waits)) refl)
        (λ apart. subst (λ (o : Option Wait). IsSome o) (sym (blocked.others.waits p apart)) (b.resting p s apart (sym (blocked.others.slots p apart) ∙ e)))
        (same_or_not p place)

    pub blocked_scheduled : (after : SchedulerState) (node since : ℕ) (need : Need) → IsJoined scheduler after node running → IsTold scheduler after node (record { thread = running; need = need }) → Vouches new running need →
        IsScheduled new.slots new.waits.places after (who ++ record { thread = number; node = node; since = since } ∷ [])
    blocked_scheduled after node since need joined told vouched =
        subst (λ (n : ℕ). IsScheduled new.slots new.waits.places after (who ++ record { thread = n; node = node; since = since } ∷ [])) b.number_is
        (joins new.slots new.waits.places scheduler after node running need who since joined told
        (placed_by new.slots running (record { slot = slot; there = slot_there; number_is = b.away_number ∙ sym b.number_is })) vouched
        (scheduled_kept g.program moved new place blocked.others scheduler who b.are.are.waiters b.scheduled waits_apart vouched_apart))

    pub blocked_sleepers : (k_cost cost : ℕ) → IsTimely threads.waits.clock threads.waits.places k_cost → clock ≡ threads.waits.clock + cost → 1 ≤ cost → (p : ℕ) → IfSome (wake_of (at_place new.waits.places p)) (λ time. time ≤ latest (k_cost + cost))
    blocked_sleepers k_cost cost timely e some p = ⊎_elim
        (λ (here : p ≡ place).
        subst (λ (o : Option Wait). IfSome (wake_of o) (λ time. time ≤ latest (k_cost + cost))) (sym (ap (at_place new.waits.places) here ∙ blocked.waits ∙ ap (λ (n : ℕ). Some (Wait.At block n)) e))
        (wakes_in_time threads.waits.clock k_cost cost block timely.clock_is some))
        (λ apart. sleepers_by k_cost timely new p cost blocked.others apart)
        (same_or_not p place)

  -- ---- it ends

  module _ (new : ThreadsState) (ended : HasEnded moved running new) where
    abbrev pub ended_rests : List source.Rest
    ended_rests = slice_set rests number source.Ended

    others : KeepsOthers moved new place
    others = record {
      slots = ended.others;
      waits = λ other apart. ap (λ (t : ThreadsState). at_place t.waits.places other) ended.rest;
      longer = let same = ap (λ (t : ThreadsState). length t.waits.places) ended.rest in omega (arith, same);
    }

    nobody : at_place new.waits.places place ≡ None
    nobody = ap (λ (t : ThreadsState). at_place t.waits.places place) ended.rest ∙ b.away_waits

    pub ended_live : AreLive g.program new ended_rests exchange who
    ended_live = record {
      exchange_is = ap (λ (t : ThreadsState). t.exchange.exchange) ended.rest ∙ b.are.exchange_is;
      uses = b.are.uses;
      count = ap (λ (t : ThreadsState). t.next) ended.rest ∙ b.are.count ∙ sym (length-set rests number source.Ended);
      live =
          let less = count_less rests number source.Ended away.there there_is (rest_lives g.program b.away.rest away.there away.rests_as) refl in
          let was = b.are.live in let now = ended.live in omega (arith, less, was, now);
      are = are_without g.program moved new place number rests ended_rests who b.are.are others (set_other rests number source.Ended) b.away_waits own_number apart_number
          ended.gone nobody (set_here rests number source.Ended away.there there_is);
    }

    pub ended_resting : (p : ℕ) (s : Slot) → get new.slots p ≡ Some s → IsSome (at_place new.waits.places p)
    ended_resting p s e =
        let apart : p ≢ place = λ here. not_vacant new.slots p s (ap (get new.slots) here ∙ ended.gone) e in
        subst (λ (o : Option Wait). IsSome o) (sym (others.waits p apart)) (b.resting p s apart (sym (ended.others p apart) ∙ e))

    pub ended_scheduled : IsScheduled new.slots new.waits.places scheduler who
    ended_scheduled = scheduled_kept g.program moved new place others scheduler who b.are.are.waiters b.scheduled waits_apart vouched_apart

    pub ended_sleepers : (k_cost cost : ℕ) → IsTimely threads.waits.clock threads.waits.places k_cost → (p : ℕ) → IfSome (wake_of (at_place new.waits.places p)) (λ time. time ≤ latest (k_cost + cost))
    ended_sleepers k_cost cost timely p =
        later (wake_of (at_place new.waits.places p)) k_cost (k_cost + cost) (omega arith)
        (subst (λ (o : Option Wait). IfSome (wake_of o) (λ time. time ≤ latest k_cost)) (sym (ap (λ (t : ThreadsState). at_place t.waits.places p) ended.rest)) (timely.sleepers p))

  -- a thread lives while one runs
  pub live_now : 0 < threads.live
  live_now =
      let less = count_less rests number source.Ended away.there there_is (rest_lives g.program b.away.rest away.there away.rests_as) refl in
      let was = b.are.live in omega (arith, less, was)
