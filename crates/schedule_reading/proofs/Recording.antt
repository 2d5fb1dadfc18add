-- A segment is taken in: its cost, its free chunks, the uses after it and its record.
use Rattle.schedule_reading.proofs.Common.{◌≡◌, ℕ, ◌+◌, ◌<◌, ◌≤◌, ℤ, pos, List, length, sym, ap, ◌∙◌, subst, arith, slice_index, slice_index_or, ◌-ℤ◌, count_of, edges_with, GraphState, IsSegment, SegmentRecord, changes, changes_are, same_eight, small_changes, drop_long, Given, NoneAbove, Under, IsWithin, MayClose, closed, uses_after, Core, IsOf, IsTimely, ThreadsState, cap_in, used_in}
use Rattle.schedule_reading.proofs.Caps.{cap_is, used_is}

module _ (k : Core) (under : Under) (cost free : ℕ) (may : MayClose k under cost free) where
  -- the core whose uses are taken then, with these threads
  abbrev then_with : ThreadsState → Core
  then_with threads = record k { cost = k.cost + cost; free = free; threads = threads }

  -- the threads at the end of the segment, which began at this time
  abbrev then_threads : ℕ → ThreadsState
  then_threads clock = record k.threads { waits = record k.threads.waits { clock = clock + cost } }

  small : (uses : List ℕ) → NoneAbove uses k.monitor.caps → (r : ℕ) → r < 8 → slice_index uses r ≤ 1000000
  small uses none r below = let at = none r below in let most = may.small r below in omega (arith, at, most)

  module _ (clock : ℕ) (threads : ThreadsState) (threads_is : threads ≡ then_threads clock) (after : List ℕ) (after_eight : length after ≡ 8)
      (use_is : (r : ℕ) → r < 8 → slice_index after r ≡ used_in (then_with threads) r)
      (within : (r : ℕ) → r < 8 → slice_index after r ≤ cap_in (then_with threads) r) where
    within_cap : NoneAbove after k.monitor.caps
    within_cap r below =
        subst (λ (n : ℕ). slice_index after r ≤ n) (ap (λ (t : ThreadsState). cap_in (then_with t) r) threads_is ∙ may.caps r below) (within r below)

    after_is : after ≡ uses_after k free
    after_is = same_eight after (uses_after k free) after_eight (let seven = drop_long k.threads.exchange.exchange.uses may.uses in omega (arith, seven))
        (λ r below. use_is r below ∙ ap (λ (t : ThreadsState). used_in (then_with t) r) threads_is ∙ used_is (then_with (then_threads clock)) r)

    module _ (node : ℕ) (change : List ℤ) (change_eight : length change ≡ 8) (before_eight : length under.before ≡ 8)
        (change_is : (r : ℕ) → r < 8 → slice_index_or change r (pos 0) ≡ pos (slice_index after r) -ℤ pos (slice_index under.before r)) where
      abbrev pub segment : SegmentRecord
      segment = record { from = under.choice.node; to = node; cost = cost; change = change }

      pub in_range : IsSegment segment
      in_range = record {
        cost = let most = may.within.fuel in let fuel = may.fuel in omega (arith, most, fuel);
        changes = small_changes under.before after change change_eight change_is (small under.before may.before) (small after within_cap);
      }

      changes_now : change ≡ changes under.before (uses_after k free)
      changes_now = changes_are under.before after change before_eight after_eight change_eight change_is ∙ ap (λ (us : List ℕ). changes under.before us) after_is

      pub closed_is : clock ≡ k.threads.waits.clock → (graph : GraphState) →
          graph ≡ record k.graph { edges = edges_with k.graph.edges segment } →
          record k { cost = k.cost + cost; free = free; threads = threads; graph = graph } ≡ closed k under node cost free
      closed_is clock_is graph graph_is = λ i. record (then_with (threads_same i)) { graph = graph_same i } where
        threads_same : threads ≡ then_threads k.threads.waits.clock
        threads_same = threads_is ∙ ap then_threads clock_is

        graph_same : graph ≡ record k.graph { edges = edges_with k.graph.edges (record { from = under.choice.node; to = node; cost = cost; change = changes under.before (uses_after k free) }) }
        graph_same = graph_is ∙ ap (λ (c : List ℤ). record k.graph { edges = edges_with k.graph.edges (record { from = under.choice.node; to = node; cost = cost; change = c }) }) changes_now

-- ---- a segment may be taken in

pub may_close : (g : Given) (k : Core) (under : Under) (cost free : ℕ) → IsOf g k → IsWithin k cost free → IsTimely k.threads.waits.clock k.threads.waits.places k.cost → NoneAbove under.before k.monitor.caps → count_of k.graph.edges ≤ k.cost → length k.threads.exchange.exchange.uses ≡ 8 →
    MayClose k under cost free
may_close g k under cost free of within timely before few uses =
    let fuel_is = of.fuel in let most = of.most_fuel in
    let fuel : k.policy.fuel ≤ 1000000000 = omega (arith, fuel_is, most) in
    let all = within.fuel in
    let now = timely.clock_is in
    record {
      within = within;
      fuel = fuel;
      clock = omega (arith, now, all, fuel);
      caps = λ r below. cap_is g k of r ∙ sym (ap (λ (caps : List ℕ). slice_index caps r) of.monitor_caps);
      small = λ r below. let most_of = of.small r below in subst (λ (caps : List ℕ). slice_index caps r ≤ 1000000) (sym of.monitor_caps) most_of;
      before = before;
      room = omega (arith, few, all, fuel);
      uses = uses;
    }
