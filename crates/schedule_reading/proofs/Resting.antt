-- The thread under way rests, and its segment is taken in: what is kept stands beside the state after it.
use Rattle.schedule_reading.proofs.Common.{◌≡◌, ℕ, ◌+◌, ◌-◌, ◌^◌, ◌≤◌, Bool, List, length, Option, Some, None, IsSome, refl, sym, ap, ◌∙◌, arith, IfSome, slice_set, count_of, edges_of, edges_with, GraphState, EdgeLine, SegmentRecord, Block, Exchange, wakes_at, is_open, latest, all_caps, Waiter, changes, uses_in, uses_of, Given, chunks_of, rested, gate, gate_after, pressures, SchedulerState, last_of, Choice, get, IsFull, globals_of, Exchanging, wake_of, Under, Slot, IsClosing, uses_after, KeepsBut, Core, AreBeside, AreLive, IsOf, IsScheduled, StandsAt, StandsWithin, ThreadsState, at_place}
use Rattle.c_mean.specs.World as source
use Rattle.choice_rules.proofs.Past.{edges_more, gate_more}
use Rattle.lawful_reading.specs.State.{Segment, State, seen_of}
use Rattle.thread_waits.proofs.TimeLaws.{few_ticks}
use Rattle.schedule_reading.proofs.Keeping.{of_with}
use Rattle.schedule_reading.proofs.Proceeding.{of_keeps, past_keeps}

-- ---- sleepers

pub later : (o : Option ℕ) (a b : ℕ) → a ≤ b → IfSome o (λ time. time ≤ latest a) → IfSome o (λ time. time ≤ latest b)
later None a b h is = tt
later (Some time) a b h is = omega (arith, h, is)

wakes_soon : (since : ℕ) (block : Block) (most : ℕ) → since + 2 ^ 31 ≤ most + 1 → IfSome (wakes_at since block) (λ time. time ≤ most)
wakes_soon since (Block.Sleep ticks) most h = let few = few_ticks ticks in omega (arith, few, h)
wakes_soon since (Block.WaitFor channel ticks) most h = let few = few_ticks ticks in omega (arith, few, h)
wakes_soon since _ most h = tt

-- a thread that blocks at the end of a segment wakes in time
pub wakes_in_time : (clock cost more : ℕ) (block : Block) → clock ≤ latest cost → 1 ≤ more → IfSome (wakes_at (clock + more) block) (λ time. time ≤ latest (cost + more))
wakes_in_time clock cost more block most some = wakes_soon (clock + more) block (latest (cost + more)) (omega (arith, most, some))

-- ---- the whole

module _ (g : Given) (state : State) (old : Core) (old_under : Under) (k : Core) (under : Under) (stands : StandsWithin g state old old_under) (segment : Segment) (same : segment ≡ stands.segment)
    (keeps : KeepsBut old old_under old.left (record k { left = old.left }) under k.left) (last : source.World) (beside : AreBeside g state last.threads last.exchange segment.here.number k.threads k.scheduler under.choice.thread)
    (rest : source.Rest) (full : IsFull g.program k.words) (node cost free : ℕ) (closing : IsClosing k cost free) (joining : List Waiter) (keys : List (List ℕ)) where
  abbrev pub world : source.World
  world = record last { threads = slice_set last.threads segment.here.number rest; globals = globals_of g.program k.words }

  abbrev pub after : State
  after = rested g state segment node cost free (old.left - k.left) world joining keys

  of_now : IsOf g k
  of_now =
      let is : IsOf g (record k { left = old.left }) = of_keeps g old (record k { left = old.left }) old_under under old.left k.left keeps stands.of in
      of_with g (record k { left = old.left }) k refl refl refl refl (record { curves = refl; caps = refl; high = refl; low = refl }) is

  cost_same : k.cost ≡ old.cost
  cost_same = ap (λ (c : Core). c.cost) keeps.rest

  pub cost_now : k.cost ≡ state.cost
  cost_now = cost_same ∙ stands.counted.cost

  clock_now : k.threads.waits.clock ≡ state.clock
  clock_now = keeps.clock ∙ stands.clock_is

  pub possible_cost : state.cost + cost ≤ g.policy.fuel
  possible_cost = let here = cost_now in let most = closing.within.fuel in let fuel = of_now.fuel in omega (arith, here, most, fuel)

  pub possible_free : free ≤ chunks_of g
  possible_free = let most = closing.within.chunks in let chunks = of_now.chunks in omega (arith, most, chunks)

  uses_same : uses_after k free ≡ uses_in (chunks_of g - free) last.exchange
  uses_same = ap (λ (n : ℕ). uses_in (n - free) k.threads.exchange.exchange) of_now.chunks ∙ ap (λ (x : Exchange). uses_in (chunks_of g - free) x) beside.are.exchange_is

  record_same : ◌≡◌ {A = SegmentRecord} (record { from = under.choice.node; to = node; cost = cost; change = changes under.before (uses_after k free) })
      (record { from = segment.node; to = node; cost = cost; change = changes segment.uses (uses_in (chunks_of g - free) last.exchange) })
  record_same = λ i. record { from = node_same i; to = node; cost = cost; change = changes (before_same i) (uses_same i) } where
    node_same : under.choice.node ≡ segment.node
    node_same = ap (λ (c : Choice). c.node) keeps.choice ∙ stands.node_is ∙ ap (λ (s : Segment). s.node) (sym same)

    before_same : under.before ≡ segment.uses
    before_same = keeps.before ∙ stands.before_is ∙ ap (λ (s : Segment). s.uses) (sym same)

  module _ (threads : ThreadsState) (scheduler : SchedulerState) (graph : GraphState) where
    abbrev pub new : Core
    new = record k {
      cost = k.cost + cost;
      free = free;
      threads = threads;
      graph = record graph { edges = edges_with graph.edges (record { from = under.choice.node; to = node; cost = cost; change = changes under.before (uses_after k free) }) };
      scheduler = scheduler;
    }

    module _ (live : AreLive g.program threads world.threads world.exchange after.waiting) (resting : (place : ℕ) (slot : Slot) → get threads.slots place ≡ Some slot → IsSome (at_place threads.waits.places place))
        (scheduled : IsScheduled threads.slots threads.waits.places scheduler after.waiting) (clock : threads.waits.clock ≡ k.threads.waits.clock + cost) (exchange : threads.exchange ≡ k.threads.exchange) (next : threads.next ≡ k.threads.next)
        (lasts : (n : ℕ) → last_of scheduler n ≡ last_of k.scheduler n) (noted : scheduler.noted ≡ k.scheduler.noted) (sleepers : (place : ℕ) → IfSome (wake_of (at_place threads.waits.places place)) (λ time. time ≤ latest (k.cost + cost)))
        (graph_keys : graph.keys ≡ keys) (graph_edges : graph.edges ≡ k.graph.edges) (few_keys : length graph.keys ≤ length k.graph.keys + 1) (counted : count_of new.graph.edges ≡ count_of k.graph.edges + 1) where
      of_new : IsOf g new
      of_new = of_with g k new refl refl (ap (λ (x : Exchanging). x.caps) exchange) (ap (λ (x : Exchanging). x.backlog) exchange) (record { curves = refl; caps = refl; high = refl; low = refl }) of_now

      open_now : k.monitor.is_open ≡ is_open g.policy state.past
      open_now = ap (λ (c : Core). c.monitor.is_open) keeps.rest ∙ stands.gate

      gate_now : gate_after g.policy.high g.policy.low new.monitor.is_open (pressures g.policy.curves (uses_of (seen_of after)) (all_caps g.policy)) ≡ is_open g.policy after.past
      gate_now =
          ap (λ (b : Bool). gate_after g.policy.high g.policy.low b (pressures g.policy.curves (uses_in (chunks_of g - free) last.exchange) (all_caps g.policy))) open_now
          ∙ sym (gate_more g.policy state.past (uses_in (chunks_of g - free) last.exchange))

      edges_now : new.graph.edges ≡ edges_of after.past.records
      edges_now =
          ap (λ (es : List EdgeLine). edges_with es (record { from = under.choice.node; to = node; cost = cost; change = changes under.before (uses_after k free) }))
          (graph_edges ∙ ap (λ (c : Core). c.graph.edges) keeps.rest ∙ stands.past.edges)
          ∙ ap (λ (r : SegmentRecord). edges_with (edges_of state.past.records) r) record_same
          ∙ sym (edges_more state.past.records _)

      pub stands_after : StandsAt g after after.clock new
      stands_after =
          let past = past_keeps state old (record k { left = old.left }) old_under under old.left k.left (old.cost + 1) old.cost keeps stands.past in
          let some = closing.some in
          record {
            of = of_new;
            counted = record {
              cost = ap (λ (n : ℕ). n + cost) cost_now;
              most_cost = let most = closing.within.fuel in let fuel = of_now.fuel in omega (arith, most, fuel);
              free = possible_free;
              held = refl;
              left = let count = stands.counted.left in let few = keeps.fewer in omega (arith, count, few);
              starts = let first = stands.counted.starts in let more = keeps.starts in omega (arith, first, more, next);
            };
            between = refl;
            clock_is = clock ∙ ap (λ (n : ℕ). n + cost) clock_now;
            later = omega arith;
            threads = live;
            resting = resting;
            globals = refl;
            full = full;
            scheduled = scheduled;
            past = record {
              lasts = λ n. lasts n ∙ past.lasts n;
              taken = noted ∙ past.taken;
              noted = let few = past.noted in let here = cost_same in omega (arith, few, here, noted, some);
              graph_keys = graph_keys;
              edges = edges_now;
              records = let few = past.records in let here = cost_same in omega (arith, few, here, counted, some);
              keys = let few = past.keys in let here = cost_same in omega (arith, few, here, few_keys, some);
            };
            gate = gate_now;
            timely = record {
              clock_is = let most = (keeps.timely old.cost stands.timely).clock_is in let here = cost_same in omega (arith, most, here, clock, some);
              sleepers = sleepers;
            };
          }
