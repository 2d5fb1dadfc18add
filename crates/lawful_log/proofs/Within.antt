-- How a segment goes on: steps without an entry, and each entry.
use Rattle.lawful_log.proofs.Common.{◌≡◌, ◌≢◌, ℕ, zero, suc, ◌+◌, ◌-◌, ◌<◌, ◌≤◌, List, [], ◌∷◌, ◌++◌, length, Option, Some, None, refl, sym, ap, ◌∙◌, arith, subst, append_assoc, append-nil, true, false, IsSome, slice_get, AllByRecursion, keys_with, node_number, signed, Block, Stop, Waiting, key_of, newcomers, end_node, Waiter, newcomers_more, checked_of, quiet_world, after_quiet, HasRun, IsOut, IsBlock, IsEnd, rested, Setup, setting_of, Segment, State, IsCutBy, IsStopped, IsNumbered, and_then, StandsForWorld, StandsForRest, IsBlockedAt, Blocked, Thread, World, Setting, Move, Goes, Puts, Spawns, Blocks, Ends, Stops, Wrong, thread_of, step_of, step_on, step, IsWellFormed, KeepsWellFormed, KeepsWellFormed-step, KeepsThread-step, AreWaiting, IsWaiting, IsWithin, Counts, Retires, StartsOne, IsOver, counts_step, free_count}
use Rattle.c_mean.specs.World as source
use Rattle.machine_world.specs.Alone.{KeepsThread}
use Rattle.lawful_log.proofs.Kept.{all_kept, waiting_on, waiting_started, waiting_blocked, waiting_ended}
use Rattle.lawful_log.proofs.Own.{found_below, LeavesOwn, StandsBlocked, IsBlockedSince, own_step}

-- ---- one more step without an entry

and_last : (s : Setting) (n : ℕ) (found : Option World) (v u : World) → ((w : World) → after_quiet s n w ≡ Some v → after_quiet s (suc n) w ≡ Some u) → and_then found (after_quiet s n) ≡ Some v →
    and_then found (after_quiet s (suc n)) ≡ Some u
and_last s n None v u more e = absurd (cc)
and_last s n (Some w) v u more e = more w e

quiet_more : (s : Setting) (n : ℕ) (w v u : World) → after_quiet s n w ≡ Some v → quiet_world (step s v) ≡ Some u → after_quiet s (suc n) w ≡ Some u
quiet_more s zero w v u e q = let is : w ≡ v = cc in subst (λ (x : World). and_then (quiet_world (step s x)) (after_quiet s 0) ≡ Some u) (sym is) (ap (λ (o : Option World). and_then o (after_quiet s 0)) q)
quiet_more s (suc n) w v u e q = and_last s n (quiet_world (step s w)) v u (λ x e'. quiet_more s n x v u e' q) e

-- ---- the running thread is live where a step isn't wrong

live_on : (s : Setting) (w : World) (number : ℕ) (found : Option Thread) → thread_of w number ≡ found → (step_of s w found ≡ Wrong → ⊥) → (t : Thread) × (thread_of w number ≡ Some t)
live_on s w number None e wrong = absurd (wrong refl)
live_on s w number (Some t) e wrong = (t, e)

live_running : (s : Setting) (w : World) (number : ℕ) (running : Option ℕ) → running ≡ Some number → (step_on s w running ≡ Wrong → ⊥) → (t : Thread) × (thread_of w number ≡ Some t)
live_running s w number None e wrong = absurd (cc)
live_running s w number (Some other) e wrong =
    let is : other ≡ number = cc in subst (λ (n : ℕ). (t : Thread) × (thread_of w n ≡ Some t)) is (live_on s w other (thread_of w other) refl wrong)

runs_live : (s : Setting) (w : World) (number : ℕ) → w.running ≡ Some number → (step s w ≡ Wrong → ⊥) → (t : Thread) × (thread_of w number ≡ Some t)
unfolding step
runs_live s w number e wrong = live_running s w number w.running e wrong

module _ (g : Setup) (state : State) (segment : Segment) (begun : ℕ) (here : World) (waiting : List Waiter) (is : IsWithin g state segment begun here waiting) where
  numbered : IsNumbered here
  numbered = is.formed.counted.numbered

  running_below : (move : Move) → step (setting_of g) here ≡ move → (move ≡ Wrong → ⊥) → (n : ℕ) → here.running ≡ Some n → n < here.next
  running_below move e fine n runs =
      let live = runs_live (setting_of g) here n runs (λ wrong. fine (sym e ∙ wrong)) in found_below n 0 here.next here.threads live.0 numbered live.1

  -- what the step counts, keeps and leaves
  module _ (move : Move) (e : step (setting_of g) here ≡ move) where
    counted : Counts here move
    counted = subst (Counts here) e (counts_step (setting_of g) here)

    formed_by : KeepsWellFormed (checked_of g) (setting_of g) move
    formed_by = subst (KeepsWellFormed (checked_of g) (setting_of g)) e (KeepsWellFormed-step (checked_of g) (setting_of g) here is.formed)

    kept_by : (number : ℕ) → here.running ≢ Some number → number ≢ here.next → KeepsThread number here move
    kept_by number apart old = subst (KeepsThread number here) e (KeepsThread-step (setting_of g) number here apart old)

    own_by : LeavesOwn here segment.thread move
    own_by = subst (LeavesOwn here segment.thread) e (own_step (setting_of g) here segment.thread numbered is.running)

  -- ---- steps without an entry

  -- one more, where what waits after it is known
  within_more : (after : World) (now : List Waiter) → quiet_world (step (setting_of g) here) ≡ Some after → after.cost ≡ here.cost + 1 →
      after.running ≡ here.running → here.next ≤ after.next → IsWellFormed (checked_of g) (setting_of g) after →
      now ≡ state.waiting ++ newcomers state.source after.next → AreWaiting after now → IsWithin g state segment begun after now
  within_more after now quiet cost running next formed waiting_is threads = record {
    under_way = is.under_way;
    steps = suc is.steps;
    quiet = quiet_more (setting_of g) is.steps state.machine here after is.quiet quiet;
    cost = let before = is.cost in omega arith;
    since = is.since;
    formed = formed;
    running = running ∙ is.running;
    started = let before = is.started in omega arith;
    waiting_is = waiting_is;
    threads = threads;
  }

  pub within_goes : (after : World) → step (setting_of g) here ≡ Goes after → IsWithin g state segment begun after waiting
  within_goes after e =
      let counts : Retires here after = counted (Goes after) e in
      within_more after waiting (ap quiet_world e) counts.cost counts.running (omega (arith, counts.next)) (formed_by (Goes after) e)
      (is.waiting_is ∙ ap (λ (n : ℕ). state.waiting ++ newcomers state.source n) (sym counts.next))
      (waiting_on here after numbered (formed_by (Goes after) e).counted.numbered (kept_by (Goes after) e) waiting counts.next counts.running is.threads)

  pub within_spawns : (number : ℕ) (after : World) → step (setting_of g) here ≡ Spawns number after → IsWithin g state segment begun after (waiting ++ record { thread = number; node = 0; since = 0 } ∷ [])
  within_spawns number after e =
      let counts : StartsOne here after number = counted (Spawns number after) e in
      let new : ℕ → List Waiter = λ n. record { thread = n; node = 0; since = 0 } ∷ [] in
      within_more after (waiting ++ new number) (ap quiet_world e) counts.cost counts.running (omega (arith, counts.next)) (formed_by (Spawns number after) e)
      (ap (λ (l : List Waiter). l ++ new number) is.waiting_is ∙ append_assoc state.waiting (newcomers state.source here.next) (new number)
      ∙ ap (λ (n : ℕ). state.waiting ++ (newcomers state.source here.next ++ new n)) counts.number_is
      ∙ ap (λ (l : List Waiter). state.waiting ++ l) (sym (newcomers_more state.source here.next is.started))
      ∙ ap (λ (n : ℕ). state.waiting ++ newcomers state.source n) (sym counts.next))
      (waiting_started here after numbered (formed_by (Spawns number after) e).counted.numbered (kept_by (Spawns number after) e) waiting number counts
      (own_by (Spawns number after) e) (running_below (Spawns number after) e (λ wrong. absurd (cc))) is.threads)

  -- ---- a value is put

  abbrev pub put_segment : ℕ → Segment
  put_segment word = record segment { cost = segment.cost + is.steps + 1; puts = segment.puts ++ word ∷ [] }

  abbrev pub put_state : ℕ → World → State
  put_state word after = record state { machine = after; segment = Some (put_segment word) }

  pub out_allowed : (word : ℕ) (after : World) → step (setting_of g) here ≡ Puts word after → IsOut g state segment.thread (signed word) (put_state word after)
  out_allowed word after e = record {
    segment = segment;
    steps = is.steps;
    here = here;
    way = record { under_way = is.under_way; quiet = is.quiet };
    word = word;
    machine = after;
    puts = e;
    thread_is = refl;
    value_is = refl;
    after_is = refl;
  }

  pub within_puts : (word : ℕ) (after : World) → step (setting_of g) here ≡ Puts word after → IsWithin g (put_state word after) (put_segment word) begun after waiting
  within_puts word after e =
      let counts : Retires here after = counted (Puts word after) e in
      record {
        under_way = refl;
        steps = 0;
        quiet = refl;
        cost = omega arith;
        since = let before = is.cost in let more = counts.cost in let since = is.since in omega arith;
        formed = formed_by (Puts word after) e;
        running = counts.running ∙ is.running;
        started = let more = counts.next in let before = is.started in omega arith;
        waiting_is = is.waiting_is ∙ ap (λ (n : ℕ). state.waiting ++ newcomers state.source n) (sym counts.next);
        threads = waiting_on here after numbered (formed_by (Puts word after) e).counted.numbered (kept_by (Puts word after) e) waiting
            counts.next counts.running is.threads;
      }

  -- ---- the segment ends

  abbrev pub cost_of : ℕ
  cost_of = segment.cost + is.steps + 1

  pub cost_is : (after : World) → IsOver here after → cost_of ≡ after.cost - begun
  cost_is after over = let before = is.cost in let more = over.cost in let since = is.since in omega arith

  pub over_block : (after : World) → step (setting_of g) here ≡ Blocks after → IsOver here after
  over_block after e = counted (Blocks after) e

  pub over_end : (after : World) → step (setting_of g) here ≡ Ends after → IsOver here after
  over_end after e = counted (Ends after) e

  newcomers_are : (after : World) (world : source.World) → IsOver here after → StandsForWorld (checked_of g) g.program after world → newcomers state.source here.next ≡ newcomers state.source (length world.threads)
  newcomers_are after world over stands =
      let next : here.next ≡ length world.threads = sym over.next ∙ stands.next in
      ap (λ (n : ℕ). newcomers state.source n) next

  -- where the thread that has blocked rests
  pub record RestsBlocked (after : World) (world : source.World) : Type 0 where
    pub thread : Thread
    pub live : thread_of after segment.thread ≡ Some thread
    pub block : Block
    pub waiting_at : Waiting
    pub rests : slice_get world.threads segment.thread ≡ Some (source.Blocked block waiting_at)
    pub blocked : IsBlockedAt (checked_of g) g.program after.areas.pool thread block waiting_at

  rests_at : (after : World) (world : source.World) (thread : Thread) (rest : Option source.Rest) → thread_of after segment.thread ≡ Some thread → IsBlockedSince thread.blocked after.clock → slice_get world.threads segment.thread ≡ rest →
      StandsForRest (checked_of g) g.program after.areas.pool (Some thread) rest → RestsBlocked after world
  rests_at after world thread (Some (source.Blocked block waiting_at)) live since e stands = record { thread = thread; live = live; block = block; waiting_at = waiting_at; rests = e; blocked = stands }
  rests_at after world thread (Some (source.Fresh function arguments)) live since e stands = absurd (fresh thread.blocked stands.unblocked since) where
    fresh : (b : Option Blocked) → b ≡ None → IsBlockedSince b after.clock → ⊥
    fresh None e s = s
    fresh (Some b) e s = absurd (cc)
  rests_at after world thread _ live since e stands = absurd stands

  pub rests_blocked : (after : World) (world : source.World) → step (setting_of g) here ≡ Blocks after → StandsForWorld (checked_of g) g.program after world → RestsBlocked after world
  rests_blocked after world e stands =
      let own : StandsBlocked after segment.thread = own_by (Blocks after) e in
      rests_at after world own.thread (slice_get world.threads segment.thread) own.live own.since refl
      (subst (λ (o : Option Thread). StandsForRest (checked_of g) g.program after.areas.pool o (slice_get world.threads segment.thread)) own.live (stands.threads segment.thread))

  abbrev pub blocked_state : World → source.World → List ℕ → State
  blocked_state after world key = rested state segment (node_number state.past.keys key) cost_of after world
      (record { thread = segment.thread; node = node_number state.past.keys key; since = after.clock } ∷ []) (keys_with state.past.keys key)

  pub block_allowed : (after : World) (world : source.World) (key : List ℕ) (free : ℕ) → step (setting_of g) here ≡ Blocks after → HasRun g state segment None world → (rests : RestsBlocked after world) →
      key ≡ key_of rests.waiting_at → free ≡ free_count after.areas.pool →
      IsBlock g state segment.thread (node_number state.past.keys key) key cost_of free (blocked_state after world key)
  block_allowed after world key free e run rests key_is free_is = record {
    segment = segment;
    steps = is.steps;
    here = here;
    way = record { under_way = is.under_way; quiet = is.quiet };
    machine = after;
    blocks = e;
    thread_is = refl;
    cost_is = refl;
    free_is = free_is;
    world = world;
    run = run;
    block = rests.block;
    waiting = rests.waiting_at;
    rests = rests.rests;
    key_is = key_is;
    node_is = refl;
    after_is = refl;
  }

  pub threads_blocked : (after : World) (world : source.World) (key : List ℕ) → step (setting_of g) here ≡ Blocks after → StandsForWorld (checked_of g) g.program after world →
      AreWaiting after (blocked_state after world key).waiting
  threads_blocked after world key e stands =
      let last : List Waiter = record { thread = segment.thread; node = node_number state.past.keys key; since = after.clock } ∷ [] in
      let all : AreWaiting after (waiting ++ last) =
      waiting_blocked here after numbered (formed_by (Blocks after) e).counted.numbered (kept_by (Blocks after) e) segment.thread is.running
      (over_block after e) waiting (node_number state.past.keys key) (own_by (Blocks after) e) is.threads in
      subst (AreWaiting after)
      (ap (λ (l : List Waiter). l ++ last) is.waiting_is ∙ append_assoc state.waiting (newcomers state.source here.next) last
      ∙ ap (λ (l : List Waiter). state.waiting ++ (l ++ last)) (newcomers_are after world (over_block after e) stands)
      ∙ sym (append_assoc state.waiting (newcomers state.source (length world.threads)) last)) all

  abbrev pub ended_state : World → source.World → State
  ended_state after world = rested state segment end_node cost_of after world [] state.past.keys

  -- where the thread that has ended rests
  ended_rest : (after : World) (rest : Option source.Rest) → StandsForRest (checked_of g) g.program after.areas.pool None rest → IsSome rest → rest ≡ Some source.Ended
  ended_rest after (Some source.Ended) stands some = refl
  ended_rest after None stands some = absurd (let no : false ≡ true = some in cc)
  ended_rest after (Some _) stands some = absurd stands

  pub end_allowed : (after : World) (world : source.World) (free : ℕ) → step (setting_of g) here ≡ Ends after → HasRun g state segment None world → StandsForWorld (checked_of g) g.program after world →
      IsSome (slice_get world.threads segment.thread) → free ≡ free_count after.areas.pool → IsEnd g state segment.thread cost_of free (ended_state after world)
  end_allowed after world free e run stands there free_is =
      let gone : thread_of after segment.thread ≡ None = own_by (Ends after) e in
      record {
        segment = segment;
        steps = is.steps;
        here = here;
        way = record { under_way = is.under_way; quiet = is.quiet };
        machine = after;
        ends = e;
        thread_is = refl;
        cost_is = refl;
        free_is = free_is;
        world = world;
        run = run;
        rests = ended_rest after (slice_get world.threads segment.thread)
            (subst (λ (o : Option Thread). StandsForRest (checked_of g) g.program after.areas.pool o (slice_get world.threads segment.thread)) gone (stands.threads segment.thread)) there;
        after_is = refl;
      }

  pub threads_ended : (after : World) (world : source.World) → step (setting_of g) here ≡ Ends after → StandsForWorld (checked_of g) g.program after world → AreWaiting after (ended_state after world).waiting
  threads_ended after world e stands =
      let all : AreWaiting after waiting =
      waiting_ended here after numbered (formed_by (Ends after) e).counted.numbered (kept_by (Ends after) e) segment.thread is.running
      (over_end after e) waiting (own_by (Ends after) e) is.threads in
      subst (AreWaiting after)
      (is.waiting_is ∙ ap (λ (l : List Waiter). state.waiting ++ l) (newcomers_are after world (over_end after e) stands)
      ∙ sym (append-nil (state.waiting ++ newcomers state.source (length world.threads)))) all

  pub formed_after_block : (after : World) → step (setting_of g) here ≡ Blocks after → IsWellFormed (checked_of g) (setting_of g) after
  formed_after_block after e = formed_by (Blocks after) e

  pub formed_after_end : (after : World) → step (setting_of g) here ≡ Ends after → IsWellFormed (checked_of g) (setting_of g) after
  formed_after_end after e = formed_by (Ends after) e

  -- ---- a stop

  pub stop_allowed : (stop : Stop) (free : ℕ) → step (setting_of g) here ≡ Stops stop → IsCutBy g state segment stop → free ≡ free_count here.areas.pool →
      IsStopped g state segment.thread stop (segment.cost + is.steps) free here
  stop_allowed stop free e puts free_is = record {
    segment = segment;
    steps = is.steps;
    way = record { under_way = is.under_way; quiet = is.quiet };
    stops = e;
    thread_is = refl;
    cost_is = refl;
    free_is = free_is;
    puts = puts;
  }

  pub stop_cost : segment.cost + is.steps ≡ here.cost - begun
  stop_cost = let before = is.cost in let since = is.since in omega arith

  -- ---- those that wait stay live

  abbrev pub Still : Move → Type 0
  Still (Goes after) = AllByRecursion (IsWaiting after) waiting
  Still (Puts value after) = AllByRecursion (IsWaiting after) waiting
  Still (Spawns number after) = AllByRecursion (IsWaiting after) waiting
  Still (Blocks after) = AllByRecursion (IsWaiting after) waiting
  Still (Ends after) = AllByRecursion (IsWaiting after) waiting
  Still _ = Unit {0}

  still_in : (after : World) → IsWellFormed (checked_of g) (setting_of g) after → ((number : ℕ) → here.running ≢ Some number → number ≢ here.next → thread_of after number ≡ thread_of here number) → AllByRecursion (IsWaiting after) waiting
  still_in after formed kept = all_kept here after numbered formed.counted.numbered kept waiting is.threads

  still_by : (move : Move) → step (setting_of g) here ≡ move → KeepsWellFormed (checked_of g) (setting_of g) move → ((number : ℕ) → here.running ≢ Some number → number ≢ here.next → KeepsThread number here move) → Still move
  still_by (Goes after) e formed kept = still_in after formed kept
  still_by (Puts value after) e formed kept = still_in after formed kept
  still_by (Spawns number after) e formed kept = still_in after formed kept
  still_by (Blocks after) e formed kept = still_in after formed kept
  still_by (Ends after) e formed kept = still_in after formed kept
  still_by _ e formed kept = tt

  pub still_waiting : (move : Move) → step (setting_of g) here ≡ move → Still move
  still_waiting move e = still_by move e (formed_by move e) (kept_by move e)
