-- The choice that a scheduler takes, after the monitor has seen the uses.
use Rattle.schedule_reading.proofs.Common.{◌≡◌, ℕ, ◌^◌, ◌<◌, ◌≤◌, List, length, Option, Some, None, Ok, sym, subst, arith, IfSome, slice_index, ProgramTree, observed, Given, State, MonitorState, NoneAbove, is_eligible, IsLawfulChoice, score, SchedulerState, AreKnown, IsNoted, IsTaken, last_of, queue_of, Choice, tree_of, Thread, Under, HasBegun, MayBegin, Core, Kept, Chooses, Chosen, ChosenOther, RulesChoice, ThreadsState, Vouches, any_elsewhere_in, at_accept_in, is_ready_in, cap_in, used_in}
use Rattle.schedule_reading.specs.declared.rulings.Ruling.TheVariants as ruling
use Rattle.schedule_reading.proofs.Caps.{within_monitor}
use Rattle.schedule_reading.proofs.PointLines.{other_ruled}
use Rattle.schedule_reading.proofs.Taking as taking
use Rattle.schedule_reading.proofs.Taking.{some_taken}

module _ (g : Given) (state : State) (k : Core) (chooses : Chooses g state k) where
  pub free_most : k.free ≤ k.policy.chunks
  free_most = let most = chooses.stands.counted.free in let same = chooses.stands.of.chunks in omega (arith, most, same)

-- what is kept, by the fields that it has
module _ (g : Given) (state : State) (view whole : Kept) (same : view ≡ whole) (chooses_whole : Chooses g state whole.core) where
  abbrev k : Core
  k = view.core

  chooses : Chooses g state k
  chooses = subst (λ (x : Kept). Chooses g state x.core) (sym same) chooses_whole

  pub known_needs : AreKnown (Vouches k.threads) k.scheduler
  known_needs = chooses.stands.scheduled.known

  pub few_choices : k.scheduler.noted < 2 ^ 40
  few_choices =
      let noted = chooses.stands.past.noted in
      let cost = chooses.stands.counted.most_cost in
      let fuel = chooses.stands.of.most_fuel in
      omega (arith, noted, cost, fuel)

  module _ (uses : List ℕ) (within_whole : (r : ℕ) → r < 8 → slice_index uses r ≤ cap_in whole.core r) where
    within : (r : ℕ) → r < 8 → slice_index uses r ≤ cap_in k r
    within = subst (λ (x : Kept). (r : ℕ) → r < 8 → slice_index uses r ≤ cap_in x.core r) (sym same) within_whole

    pub none_above : NoneAbove uses k.monitor.caps
    none_above = within_monitor g k uses chooses.stands.of within

    module _ (eight : length uses ≡ 8) (uses_whole : (r : ℕ) → r < 8 → slice_index uses r ≡ used_in whole.core r) (monitor : MonitorState) (seen : monitor ≡ observed k.monitor uses) where
      use_is : (r : ℕ) → r < 8 → slice_index uses r ≡ used_in k r
      use_is = subst (λ (x : Kept). (r : ℕ) → r < 8 → slice_index uses r ≡ used_in x.core r) (sym same) uses_whole

      abbrev TakenIn : MonitorState → Option Choice → Type 0
      TakenIn m choice = IsLawfulChoice (queue_of k.scheduler) (is_eligible (is_ready_in k.threads) (at_accept_in k.threads) (any_elsewhere_in k.threads) m.is_open) (score m k.graph.edges) (last_of k.scheduler) choice

      pub not_none : (taken : Option Choice) → taken ≡ None → TakenIn monitor taken → ⊥
      not_none taken none lawful = some_taken g state k chooses uses eight use_is
          (subst (λ (m : MonitorState). TakenIn m None) seen (subst (λ (o : Option Choice). TakenIn monitor o) none lawful))

      module _ (taken : Option Choice) (choice : Choice) (is : taken ≡ Some choice) (lawful : TakenIn monitor taken) where
        lawful_as : TakenIn (observed k.monitor uses) (Some choice)
        lawful_as = subst (λ (m : MonitorState). TakenIn m (Some choice)) seen (subst (λ (o : Option Choice). TakenIn monitor o) is lawful)

        pub other_choice : (thread node : ℕ) → (choice.thread.number ≡ thread → choice.node ≡ node → ⊥) → (core : Core) (under : Option Under) → RulesChoice g state whole.core thread node core under (Ok ruling.Refused)
        other_choice thread node never core under = other_ruled g state whole.core thread node core under
            (subst (λ (x : Kept). ChosenOther g state x.core thread node) same (taking.other g state k chooses uses eight use_is choice lawful_as thread node never))

        pub begins_from : MayBegin (tree_of k.interpreter) k.threads k.words choice.thread
        begins_from = taking.may_begin g state k chooses uses eight use_is choice lawful_as (tree_of k.interpreter) chooses.stands.of.program

        pub chosen_now : (threads : ThreadsState) (words : List ℕ) (thread : Thread) → HasBegun (tree_of k.interpreter) k.threads k.words threads words choice.thread thread → (scheduler : SchedulerState) → IfSome taken (λ c. IsNoted k.scheduler scheduler c) →
            IfSome taken (λ c. IsTaken k.scheduler scheduler c) → (number node : ℕ) → choice.thread.number ≡ number → choice.node ≡ node →
            Chosen g state whole.core number node (record k { words = words; threads = threads; scheduler = scheduler; monitor = monitor }) (record { choice = choice; before = uses; thread = thread })
        chosen_now threads words thread begun scheduler noted takes number node p q =
            subst (λ (x : Kept). Chosen g state x.core number node (record k { words = words; threads = threads; scheduler = scheduler; monitor = monitor }) (record { choice = choice; before = uses; thread = thread })) same
            (subst (λ (m : MonitorState). Chosen g state k number node (record k { words = words; threads = threads; scheduler = scheduler; monitor = m }) (record { choice = choice; before = uses; thread = thread })) (sym seen)
            (taking.chosen g state k chooses uses eight use_is choice lawful_as threads words thread
            (subst (λ (t : ProgramTree). HasBegun t k.threads k.words threads words choice.thread thread) chooses.stands.of.program begun) scheduler
            (subst (λ (o : Option Choice). IfSome o (λ c. IsNoted k.scheduler scheduler c)) is noted) (subst (λ (o : Option Choice). IfSome o (λ c. IsTaken k.scheduler scheduler c)) is takes) within number node p q))
