-- The choice of a thread: what it takes and what is written.
use Rattle.run_course.proofs.Common.{◌≡◌, ℕ, ◌+◌, ◌-◌, ◌*◌, ◌<◌, ◌≤◌, ◌&&◌, Bool, true, false, List, [], ◌∷◌, ◌++◌, length, drop, Option, Some, None, Result, refl, sym, ap, ◌∙◌, subst, arith, IsTrue, slice_index, Exchange, ReaderState, Event, observed, all_caps, Trace, IsNext, uses_in, uses_of, checked_of, Setup, setting_of, State, held_chunks, seen_of, is_picked, Pick, after_action, World, Setting, IsWellFormed, MonitorState, NoneAbove, Under, Failure, Next, Kept, known, Output, PutsText, turn_rank, under_rank, long_rank, IsTraceIn, IsTraceOf, StandsBetween, StandsWithin, Stands, StepsAsSource, IsAtChoice, ActsTo, PartEnds, Rest, HasBytes, Unasked, Told, Made, entry_text, Entry, HasTaken, IsLawfulOf, IsUnderWay, RuleState, is_eligible, score, Choice, is_ready_in, is_at_accept_in, any_elsewhere_in, Begins, KeepsSetting, MayBegin, Held, KeepsPlaces, used_in, cap_in, Turn, IsReached, free_count}
use Rattle.run_course.proofs.Acting.{acts_on}
use Rattle.run_course.proofs.AsSource.{source_picks, source_steps, formed_now}
use Rattle.run_course.proofs.Began.{Lawful, chosen_as, chosen, began_state, began, run_is, there, tells_now}
use Rattle.run_course.proofs.Caps.{uses_are, within_policy}
use Rattle.run_course.proofs.Costs.{goes_cost, told_cost, told_formed, falls}
use Rattle.run_course.proofs.Rules.{chosen_passes}
use Rattle.run_course.proofs.Parts.{acts_between, pick_acts, by_some, part_of, ticks_within}

-- ---- small things

first_of_both : (a b : Bool) → (a && b) ≡ true → IsTrue a
first_of_both true b e = refl
first_of_both false b e = absurd (cc)

next_in : (trace : Trace) (reader : ReaderState) (n : Next) (bytes : List ℕ) (next : Option Event) → IsTraceIn trace reader n bytes → known n ≡ Some next → IsNext trace next
next_in trace reader Next.Unread bytes next is e = absurd (cc)
next_in trace reader (Next.Event event) bytes next is e = let same : Some event ≡ next = cc in subst (IsNext trace) same is.0
next_in trace reader Next.Over bytes next is e = let same : None ≡ next = cc in subst (IsNext trace) same is

next_by : (trace : Trace) (reader : ReaderState) (n : Next) (left : Rest) (next : Option Event) → HasBytes left → IsTraceOf trace reader n left → known n ≡ Some next → IsNext trace next
next_by trace reader n Unasked next told is e = absurd told
next_by trace reader n (Told left) next told is e = next_in trace reader n (reader.held ++ left) next is e
next_by trace reader n (Made bytes) next told is e = next_in trace reader n bytes next is e

pub next_known : (g : Setup) (state : State) (k : Kept) (held : Held) (left : Rest) (next : Option Event) → StandsBetween g state k held left → known k.next ≡ Some next → HasBytes left → IsNext state.trace next
next_known g state k held left next stands known_is told = next_by state.trace k.reader k.next left next told stands.read.trace_is known_is

pub within_under : (g : Setup) (state : State) (k : Kept) (held : Held) (left : Rest) (of_it : Under) (under : Option Under) → StandsWithin g state k held left of_it → StandsWithin g state (record k { under = under }) held left of_it
within_under g state k held left of_it under is = record {
  of = is.of;
  segment = is.segment;
  waiting = is.waiting;
  here = is.here;
  within = is.within;
  tells = is.tells;
  reached = is.reached;
  thread_is = is.thread_is;
  node_is = is.node_is;
  before_is = is.before_is;
  within_caps = is.within_caps;
  placed = is.placed;
  kept = is.kept;
  needed = is.needed;
  started = is.started;
  past = is.past;
  gate = is.gate;
  read = is.read;
}

module _ (g : Setup) (state : State) (k : Kept) (held : Held) (left : Rest) (next : Option Event) (at : IsAtChoice g state k held left next) where
  pub stands : StandsBetween g state k held left
  stands = at.point.stands

  formed : IsWellFormed (checked_of g) (setting_of g) held.machine
  formed = formed_now g state k held left stands

  pub resting : held.machine.running ≡ None
  resting = ap (λ (w : World). w.running) stands.between.machine_is ∙ stands.between.stands.between

  -- ---- the uses

  machine_same : uses_in (held_chunks held.machine) held.machine.exchange ≡ uses_of (seen_of state)
  machine_same = ap (λ (w : World). uses_in (held_chunks w) w.exchange) stands.between.machine_is
      ∙ ap (λ (x : Exchange). (state.machine.areas.pool.count - free_count state.machine.areas.pool) ∷ drop 1 x.uses) stands.between.stands.exchange

  pub uses_now : (uses : List ℕ) → length uses ≡ 8 → ((r : ℕ) → r < 8 → slice_index uses r ≡ used_in held.machine r) → uses ≡ uses_of (seen_of state)
  uses_now uses eight same = uses_are held.machine uses eight formed.exchange.use_count same ∙ machine_same

  pub caps_now : (uses : List ℕ) → ((r : ℕ) → r < 8 → slice_index uses r ≤ cap_in held r) → NoneAbove uses (all_caps g.policy)
  caps_now uses within = within_policy g held uses stands.of within

  module _ (uses : List ℕ) (uses_is : uses ≡ uses_of (seen_of state)) (within_caps : NoneAbove uses (all_caps g.policy)) where
    abbrev pub LawfulNow : Option Choice → Type 0
    LawfulNow o = Lawful g state k held left stands next at.point.known_is at.ready uses uses_is within_caps o

    -- the choice that is made over the monitor after it has taken the uses
    pub lawful_as : (m : MonitorState) → m ≡ observed k.monitor uses → (o : Option Choice) →
        IsLawfulOf k.rule (is_eligible (is_ready_in held) (is_at_accept_in held) (any_elsewhere_in held) m.is_open) (score m k.graph.edges) o → LawfulNow o
    lawful_as m e o is = subst (λ (n : MonitorState). IsLawfulOf k.rule (is_eligible (is_ready_in held) (is_at_accept_in held) (any_elsewhere_in held) n.is_open) (score n k.graph.edges) o) e is

    -- and so is it noted
    pub taken_as : (m : MonitorState) → m ≡ observed k.monitor uses → (rule : RuleState) (choice : Choice) →
        HasTaken k.rule rule (is_eligible (is_ready_in held) (is_at_accept_in held) (any_elsewhere_in held) m.is_open) choice →
        HasTaken k.rule rule (is_eligible (is_ready_in held) (is_at_accept_in held) (any_elsewhere_in held) (observed k.monitor uses).is_open) choice
    taken_as m e rule choice is = subst (λ (n : MonitorState). HasTaken k.rule rule (is_eligible (is_ready_in held) (is_at_accept_in held) (any_elsewhere_in held) n.is_open) choice) e is

    pub some_choice : LawfulNow None → ⊥
    some_choice lawful = chosen_as g state k held left stands next at.point.known_is at.ready uses uses_is within_caps None lawful

    module _ (choice : Choice) (lawful : LawfulNow (Some choice)) where
      pub may_begin : (stopped : Option Turn) → stopped ≡ None → MayBegin held choice.thread stopped
      may_begin None e = (
        first_of_both (is_ready_in held choice.thread) _
            (chosen_passes k.rule (is_eligible (is_ready_in held) (is_at_accept_in held) (any_elsewhere_in held) (observed k.monitor uses).is_open) (score (observed k.monitor uses) k.graph.edges) choice lawful),
        resting,
      )
      may_begin (Some turn) e = absurd (cc)

      module _ (rule : RuleState) (left_now : HasTaken k.rule rule (is_eligible (is_ready_in held) (is_at_accept_in held) (any_elsewhere_in held) (observed k.monitor uses).is_open) choice) (under_way : IsUnderWay rule choice.thread) (new : Held) (keeps : KeepsSetting held new) (places : KeepsPlaces held new) (turn : Turn) (did : Begins held choice.thread.number turn new) where
        abbrev under : Under
        under = record { choice = choice; before = uses; turn = turn }

        abbrev pub begun_kept : Kept
        begun_kept = record k { rule = rule; monitor = observed k.monitor uses; under = Some under }

        picks_law : (number : ℕ) (after : World) → after_action (setting_of g) held.machine (Pick number) ≡ Some after → IsReached (checked_of g) g.program (setting_of g) state.source number [] after
        picks_law = source_picks g state k held left stands

        law : (number : ℕ) → StepsAsSource g state number
        law = source_steps g state held stands.of

        abbrev new_state : State
        new_state = began_state g state k held left stands next at.point.known_is at.ready uses uses_is within_caps choice lawful rule left_now under_way new keeps places turn did picks_law law

        stands_within : StandsWithin g new_state begun_kept new left under
        stands_within = within_under g new_state (record k { rule = rule; monitor = observed k.monitor uses }) new left under (Some under)
            (began g state k held left stands next at.point.known_is at.ready uses uses_is within_caps choice lawful rule left_now under_way new keeps places turn did picks_law law)

        stands_new : Stands g new_state begun_kept new left
        stands_new = by_some g new_state begun_kept new left under refl stands_within

        acts : ActsTo (setting_of g) state.machine did.picked
        acts = acts_on (setting_of g) state.machine held.machine did.picked (acts_between g state k held left stands)
            (subst (λ (s : Setting). ActsTo s held.machine did.picked) stands.of.setting (pick_acts held.setting held.machine did.picked choice.thread.number did.picks))

        pub choose_part : (taken written : Output) (result : Result (Unit {0}) Failure) → PutsText taken written (entry_text (Entry.Run held.machine.clock choice.thread.number choice.node) ++ 10 ∷ []) result →
            PartEnds g state left begun_kept new left taken written result
        choose_part taken written result puts = part_of g state new_state left begun_kept new taken written (Entry.Run held.machine.clock choice.thread.number choice.node) result
            (λ told. run_is g state k held left stands next at.point.known_is at.ready uses uses_is within_caps choice lawful rule left_now under_way new keeps places turn did picks_law law
            at.point.live (next_known g state k held left next stands at.point.known_is told) at.not_due) acts (ticks_within g new_state begun_kept new left under stands_within) stands_new puts

        pub choose_falls : long_rank begun_kept new < long_rank k held
        choose_falls =
            let number : ℕ = (chosen g state k held left stands next at.point.known_is at.ready uses uses_is within_caps choice lawful rule left_now under_way new keeps places turn did picks_law law).waiter.thread in
            let is_there = there g state k held left stands next at.point.known_is at.ready uses uses_is within_caps choice lawful rule left_now under_way new keeps places turn did picks_law law in
            let tells = tells_now g state k held left stands next at.point.known_is at.ready uses uses_is within_caps choice lawful rule left_now under_way new keeps places turn did picks_law law in
            let start : did.picked.cost ≡ held.machine.cost = (is_picked held.setting held.machine choice.thread.number did.picked did.picks).cost in
            let way : did.picked.cost ≤ did.made.at.cost = goes_cost held.setting did.made.steps did.picked did.made.at did.made.goes_on in
            let cost = told_cost (setting_of g) did.made.at turn number new tells in
            let most = (told_formed (checked_of g) (setting_of g) did.made.at new turn number is_there.within.formed tells).cost in
            let fell : 3 * (g.policy.fuel - new.machine.cost) + turn_rank turn < 3 * (g.policy.fuel - held.machine.cost) + 1 = falls turn g.policy.fuel held.machine.cost did.made.at.cost new.machine.cost 1 (omega (arith, start, way)) cost most (omega arith) in
            let old_fuel : held.setting.fuel ≡ g.policy.fuel = ap (λ (s : Setting). s.fuel) stands.of.setting in
            let new_fuel : new.setting.fuel ≡ g.policy.fuel = ap (λ (s : Setting). s.fuel) keeps.setting ∙ old_fuel in
            let rank_old : under_rank k.under ≡ 1 = ap under_rank at.point.between in
            subst (λ (n : ℕ). 3 * (new.setting.fuel - new.machine.cost) + turn_rank turn < 3 * (held.setting.fuel - held.machine.cost) + n) (sym rank_old)
            (subst (λ (n : ℕ). 3 * (new.setting.fuel - new.machine.cost) + turn_rank turn < 3 * (n - held.machine.cost) + 1) (sym old_fuel)
            (subst (λ (n : ℕ). 3 * (n - new.machine.cost) + turn_rank turn < 3 * (g.policy.fuel - held.machine.cost) + 1) (sym new_fuel) fell))
