-- What a run writes of a segment that has ended: at a blocking call, or with its thread.
use Rattle.run_course.proofs.Common.{◌≡◌, ℕ, ◌+◌, ◌<◌, ◌≤◌, ◌^◌, List, [], ◌∷◌, ◌++◌, length, None, Result, refl, ap, ◌∙◌, subst, arith, edges_with, count_of, GraphState, keys_with, node_number, changes, end_node, uses_in, checked_of, Setup, setting_of, State, held_chunks, World, step, IsWellFormed, HasLeft, HasRejoined, RuleState, Under, Failure, Kept, Output, PutsText, HasSmallCaps, StandsWithin, StepsAsSource, over_block, Need, IsWaitingIn, Vouches, ActsTo, PartEnds, Rest, entry_text, Entry, Tells, Held, segment_cost, Turn, free_count}
use Rattle.run_course.proofs.Needs.{needed_from, waiting_in}
use Rattle.run_course.proofs.AsSource.{source_steps}
use Rattle.run_course.proofs.Caps.{small_caps}
use Rattle.run_course.proofs.Costs.{told_formed}
use Rattle.run_course.proofs.Finished as finished
use Rattle.run_course.proofs.Finished.{TellsEnd, tells_end}
use Rattle.run_course.proofs.Over as over
use Rattle.run_course.proofs.Over.{TellsBlock, tells_block}
use Rattle.run_course.proofs.Parts.{acts_within, by_none, part_of, same_ticks}

module _ (g : Setup) (state : State) (k : Kept) (held : Held) (left : Rest) (under : Under) (stands : StandsWithin g state k held left under) where
  -- ---- the ranges

  pub formed_held : IsWellFormed (checked_of g) (setting_of g) held.machine
  formed_held = told_formed (checked_of g) (setting_of g) stands.here held under.turn stands.segment.thread stands.within.formed stands.tells

  cost_held : held.machine.cost ≤ 1000000000
  cost_held = let most = formed_held.cost in let fuel = formed_held.fuel in omega (arith, most, fuel)

  pub small_cost : (cost : ℕ) → cost ≡ segment_cost held → cost < 2 ^ 40
  small_cost cost e = let c = cost_held in omega (arith, e, c)

  pub eight_uses : length held.machine.exchange.uses ≡ 8
  eight_uses = formed_held.exchange.use_count

  pub caps_held : HasSmallCaps held
  caps_held = small_caps g held stands.of

  -- ---- a block

  module _ (key : List ℕ) (cost : ℕ) (turn_is : under.turn ≡ Turn.Blocked key cost) where
    block_told : TellsBlock (step (setting_of g) stands.here) key cost stands.segment.thread held
    block_told = tells_block (step (setting_of g) stands.here) key cost stands.segment.thread stands.here held
        (subst (λ (t : Turn). Tells (step (setting_of g) stands.here) t stands.segment.thread stands.here held) turn_is stands.tells)

    pub block_cost : cost < 2 ^ 40
    block_cost = small_cost cost block_told.cost_is

    law : StepsAsSource g state stands.segment.thread
    law = source_steps g state held stands.of stands.segment.thread

    block_acts : ActsTo (setting_of g) state.machine (over.over_state g state k held left under stands law key cost block_told).machine
    block_acts = subst (λ (w : World). ActsTo (setting_of g) state.machine w) block_told.machine (acts_within g state k held left under stands)

    -- no segment is under way
    block_rests : held.machine.running ≡ None
    block_rests = ap (λ (w : World). w.running) block_told.machine ∙ (over_block g state stands.segment held.begun stands.here stands.waiting stands.within block_told.after block_told.step_is).running

    -- its thread waits now
    pub block_waits : IsWaitingIn held under.choice.thread
    block_waits = waiting_in held under.choice.thread (over.rests g state k held left under stands law key cost block_told).thread block_rests
        (over.live_is g state k held left under stands law key cost block_told) (stands.placed (over.live_now g state k held left under stands law key cost block_told))

    pub block_part : (node : ℕ) → node ≡ node_number k.graph.keys key → (rule : RuleState) → (need : Need) →
        HasRejoined k.rule rule under.choice.thread node need → Vouches held under.choice.thread need → (graph : GraphState) → graph.keys ≡ keys_with k.graph.keys key →
        graph.edges ≡ edges_with k.graph.edges (record { from = under.choice.node; to = node; cost = cost; change = changes under.before (uses_in (held_chunks held.machine) held.machine.exchange) }) →
        count_of graph.edges ≡ count_of k.graph.edges + 1 → length graph.keys ≤ length k.graph.keys + 1 → (taken written : Output) (result : Result (Unit {0}) Failure) →
        PutsText taken written (entry_text (Entry.Block under.choice.thread.number node key cost (free_count held.machine.areas.pool)) ++ 10 ∷ []) result →
        PartEnds g state left (record k { rule = rule; graph = graph; under = None }) held left taken written result
    block_part node node_is rule need joins vouched graph keys edges counted few taken written result puts =
        part_of g state (over.over_state g state k held left under stands law key cost block_told) left (record k { rule = rule; graph = graph; under = None }) held taken written
        (Entry.Block under.choice.thread.number node key cost (free_count held.machine.areas.pool)) result
        (λ told. over.block_is g state k held left under stands law key cost block_told node node_is) block_acts (same_ticks block_told.after held.machine block_told.machine)
        (by_none g (over.over_state g state k held left under stands law key cost block_told) (record k { rule = rule; graph = graph; under = None }) held left refl
        (over.over_stands g state k held left under stands law key cost block_told node node_is (uses_in (held_chunks held.machine) held.machine.exchange) refl rule need joins (needed_from held under.choice.thread need block_rests vouched) graph keys edges counted few)) puts

  -- ---- an end

  module _ (cost : ℕ) (turn_is : under.turn ≡ Turn.Ended cost) where
    end_told : TellsEnd (step (setting_of g) stands.here) cost held
    end_told = tells_end (step (setting_of g) stands.here) cost stands.segment.thread stands.here held
        (subst (λ (t : Turn). Tells (step (setting_of g) stands.here) t stands.segment.thread stands.here held) turn_is stands.tells)

    pub end_cost : cost < 2 ^ 40
    end_cost = small_cost cost end_told.cost_is

    end_law : StepsAsSource g state stands.segment.thread
    end_law = source_steps g state held stands.of stands.segment.thread

    end_acts : ActsTo (setting_of g) state.machine (finished.over_state g state k held left under stands end_law cost end_told).machine
    end_acts = subst (λ (w : World). ActsTo (setting_of g) state.machine w) end_told.machine (acts_within g state k held left under stands)

    pub end_part : (rule : RuleState) → HasLeft k.rule rule under.choice.thread → (graph : GraphState) → graph.keys ≡ k.graph.keys →
        graph.edges ≡ edges_with k.graph.edges (record { from = under.choice.node; to = end_node; cost = cost; change = changes under.before (uses_in (held_chunks held.machine) held.machine.exchange) }) →
        count_of graph.edges ≡ count_of k.graph.edges + 1 → (taken written : Output) (result : Result (Unit {0}) Failure) →
        PutsText taken written (entry_text (Entry.End under.choice.thread.number cost (free_count held.machine.areas.pool)) ++ 10 ∷ []) result →
        PartEnds g state left (record k { rule = rule; graph = graph; under = None }) held left taken written result
    end_part rule leaves graph keys edges counted taken written result puts =
        part_of g state (finished.over_state g state k held left under stands end_law cost end_told) left (record k { rule = rule; graph = graph; under = None }) held taken written
        (Entry.End under.choice.thread.number cost (free_count held.machine.areas.pool)) result
        (λ told. finished.end_is g state k held left under stands end_law cost end_told (finished.was_there g state k held left under stands end_law cost end_told)) end_acts (same_ticks end_told.after held.machine end_told.machine)
        (by_none g (finished.over_state g state k held left under stands end_law cost end_told) (record k { rule = rule; graph = graph; under = None }) held left refl
        (finished.end_stands g state k held left under stands end_law cost end_told (uses_in (held_chunks held.machine) held.machine.exchange) refl rule leaves graph keys edges counted)) puts
