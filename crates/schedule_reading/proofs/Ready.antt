-- The thread under way has come to the end of its segment: what its lines ask of what is kept.
use Rattle.schedule_reading.proofs.Common.{◌≡◌, ℕ, ◌^◌, ◌<◌, ◌≤◌, List, length, Option, IsSome, refl, sym, ap, ◌∙◌, subst, arith, count_of, GraphState, Exchange, all_caps, Given, State, NoneAbove, get, Under, Slot, IsAway, IsClosing, MayClose, KeepsBut, Core, AreBeside, IsOf, IsTimely, StandsWithin}
use Rattle.c_mean.specs.World as source
use Rattle.schedule_reading.proofs.Keeping.{of_with, same_monitor}
use Rattle.schedule_reading.proofs.Leaves as leaves
use Rattle.schedule_reading.proofs.Proceeding.{of_keeps, of_left}
use Rattle.schedule_reading.proofs.Recording.{may_close}

module _ (g : Given) (state : State) (old : Core) (old_under : Under) (k : Core) (under : Under) (stands : StandsWithin g state old old_under) (keeps : KeepsBut old old_under old.left (record k { left = old.left }) under k.left) where
  of_now : IsOf g k
  of_now = of_left g k old.left (of_keeps g old (record k { left = old.left }) old_under under old.left k.left keeps stands.of)

  cost_same : k.cost ≡ old.cost
  cost_same = ap (λ (c : Core). c.cost) keeps.rest

  pub fuel_now : k.cost ≤ k.policy.fuel
  fuel_now = let same = cost_same in let most = stands.counted.most_cost in let fuel = of_now.fuel in omega (arith, same, most, fuel)

  -- there is room for one more key
  pub keys_now : length k.graph.keys < 2 ^ 31
  keys_now =
      let few = stands.past.keys in let most = stands.counted.most_cost in let fuel = stands.of.most_fuel in
      let same = ap (λ (c : Core). length c.graph.keys) keeps.rest in
      omega (arith, few, most, fuel, same)

  edges_now : count_of k.graph.edges ≤ k.cost
  edges_now = let few = stands.past.records in let here = cost_same in let same = ap (λ (c : Core). count_of c.graph.edges) keeps.rest in omega (arith, few, here, same)

  timely_now : IsTimely k.threads.waits.clock k.threads.waits.places k.cost
  timely_now = subst (λ (n : ℕ). IsTimely k.threads.waits.clock k.threads.waits.places n) (sym cost_same) (keeps.timely old.cost stands.timely)

  before_now : NoneAbove under.before k.monitor.caps
  before_now = subst (λ (caps : List ℕ). NoneAbove under.before caps) (sym of_now.monitor_caps) (subst (λ (uses : List ℕ). NoneAbove uses (all_caps g.policy)) (sym keeps.before) stands.within_caps)

  module _ (rests : List source.Rest) (exchange : Exchange) (number : ℕ) (b : AreBeside g state rests exchange number k.threads k.scheduler under.choice.thread) (cost free : ℕ) (closing : IsClosing k cost free) where
    pub may_close_now : (graph : GraphState) → graph.edges ≡ k.graph.edges → MayClose (record k { graph = graph }) under cost free
    may_close_now graph same = may_close g (record k { graph = graph }) under cost free
        (of_with g k (record k { graph = graph }) refl refl refl refl (same_monitor k.monitor) of_now)
        (record { fuel = closing.within.fuel; chunks = closing.within.chunks }) timely_now before_now
        (let few = edges_now in let count = ap count_of same in omega (arith, few, count))
        (ap (λ (x : Exchange). length x.uses) b.are.exchange_is ∙ b.are.uses)

    pub away_now : IsAway k.threads under.choice.thread
    away_now = leaves.is_away g state rests exchange number k.threads k.scheduler under.choice.thread b 0

    pub there_now : IsSome (get k.threads.slots under.choice.thread.slot)
    there_now = subst (λ (o : Option Slot). IsSome o) (sym b.away_there) refl

    pub live_now : 0 < k.threads.live
    live_now = leaves.live_now g state rests exchange number k.threads k.scheduler under.choice.thread b 0
