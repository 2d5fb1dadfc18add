-- What is said of a line of a choice point, from what has to come there.
use Rattle.schedule_reading.proofs.Common.{◌≡◌, ℕ, Bool, true, false, List, Option, Some, None, Result, Ok, Err, refl, sym, ap, ◌∙◌, subst, arith, nat_le, nat_tests, is_due, coming_entry, not_bad, not_done, not_idle, one_clock, Event, IsRun, chosen_from, Given, State, seen_of, Entry, Item, Point, End, Under, Failure, Ruling, Core, Kept, Allows, Chosen, ChosenOther, Chooses, ComesToChoice, IsPoint, Refuses, Rules, RulesChoice, IsEnd, IsTold, StandsAt}
use Rattle.lawful_reading.specs.State as reading
use Rattle.schedule_reading.specs.declared.points.Point.TheVariants as point
use Rattle.schedule_reading.specs.declared.reading.End.TheVariants as end
use Rattle.schedule_reading.specs.declared.rulings.Ruling.TheVariants as ruling
use Rattle.schedule_reading.proofs.Delivering.{none_comes, not_beyond}
use Rattle.schedule_reading.proofs.Unstopped.{stands_as}

-- ---- `run`

module _ (g : Given) (state : State) (old k : Kept) (told told' : Option (List ℕ)) (number node : ℕ) where
  abbrev run_at : ℕ → Entry
  run_at clock = Entry.Run clock number node

  refuses_run : (clock : ℕ) → state.segment ≡ None → ((after : State) → IsRun g state clock number node after → ⊥) → Refuses g state (run_at clock)
  refuses_run clock none never = record { refused = never; enough = not_beyond g state (run_at clock) none }

  -- something else has to come
  pub run_not : (p : Point) (clock : ℕ) → state.segment ≡ None → (p ≡ point.Choice → ⊥) → IsPoint g state old told k told' p → IsTold state old told → Refuses g state (run_at clock)
  run_not point.Done clock none other h t = refuses_run clock none (λ after q. not_done g.policy (seen_of state) q.choice.next clock q.choice.point (h.stops t))
  run_not point.Idle clock none other h t = refuses_run clock none (λ after q. not_idle g.policy (seen_of state) q.choice.next clock q.choice.point (h.stops t))
  run_not (point.BadTrace line) clock none other h t = refuses_run clock none (λ after q. not_bad g.policy (seen_of state) q.choice.next clock line q.choice.point (h.stops t))
  run_not (point.Comes event) clock none other h t = refuses_run clock none (λ after q.
      let same = one_clock g.policy (seen_of state) (Some event) q.choice.next k.core.threads.waits.clock clock (h.goes.point t) q.choice.point in
      let due : nat_le event.time k.core.threads.waits.clock ≡ true = (let d = h.due in grind (arith, nat_tests, d)) in
      let yes : is_due q.choice.next clock ≡ true = ap (λ (o : Option Event). is_due o clock) (sym same.0) ∙ ap (λ (n : ℕ). is_due (Some event) n) (sym same.1) ∙ due in
      absurd (let no : true ≡ false = sym yes ∙ q.choice.not_due in cc))
  run_not point.Choice clock none other h t = absurd (other refl)

  module _ (c : ComesToChoice g state old told k told') where
    abbrev now : ℕ
    now = k.core.threads.waits.clock

    stands : StandsAt g state now k.core
    stands = c.goes.stands

    pub chooses : Chooses g state k.core
    chooses = record { stands = stands; ready = c.ready }

    -- it comes at another clock
    pub run_elsewhen : (clock : ℕ) → (clock ≡ now → ⊥) → IsTold state old told → Refuses g state (run_at clock)
    run_elsewhen clock apart t = refuses_run clock stands.between (λ after q.
        apart (sym (one_clock g.policy (seen_of state) c.known q.choice.next now clock (c.goes.point t) q.choice.point).1))

    run_other : ChosenOther g state k.core number node → IsTold state old told → Refuses g state (run_at now)
    run_other other t = refuses_run now stands.between (λ after q. other q.chosen q.choice.lawful q.thread_is q.node_is)

    module _ (between : state.end ≡ reading.NotYet) (over : k.end ≡ end.NotYet) where
      run_allows : (core : Core) (under : Under) → Chosen g state k.core number node core under → Allows g state old (run_at now) told (record k { core = core; under = Some under }) told'
      run_allows core under h = record {
        after = chosen_from state now h.chosen h.here;
        allowed = λ t. record {
          not_over = between;
          chosen = h.chosen;
          choice = record { next = c.known; point = c.goes.point t; not_due = c.not_due; lawful = h.lawful };
          thread_is = h.thread_is;
          node_is = h.node_is;
          here = h.here;
          begins = h.begins;
          after_is = refl;
        };
        within = let left = stands.counted.left in omega (arith, left);
        stands = stands_as g (chosen_from state now h.chosen h.here) (record k { core = core; under = Some under })
            (subst (λ (e : End). IsEnd g (chosen_from state now h.chosen h.here) e) (sym over) between) (λ e. no_stop (sym over ∙ e)) h.stands c.goes.looked;
        trace = c.goes.trace;
      } where
        no_stop : end.NotYet ≡ end.Stopped → ⊥
        no_stop e = absurd (cc)

      pub run_ruled : (core : Core) (under : Option Under) (result : Result Ruling Failure) → RulesChoice g state k.core number node core under result → Rules g state old (run_at now) told (record k { core = core; under = under }) told' result
      run_ruled core (Some under) (Ok ruling.Allowed) r = run_allows core under r
      run_ruled core _ (Ok ruling.Refused) r = run_other r
      run_ruled core _ (Err failure) r = tt
      run_ruled core _ (Ok _) r = absurd r

-- another line than that of the choice, whatever was under way
pub other_ruled : (g : Given) (state : State) (old : Core) (thread node : ℕ) (core : Core) (under : Option Under) → ChosenOther g state old thread node → RulesChoice g state old thread node core under (Ok ruling.Refused)
other_ruled g state old thread node core None r = r
other_ruled g state old thread node core (Some under) r = r

-- ---- `event` and `drop`

-- something else has to come
pub coming_not : (g : Given) (state : State) (old k : Kept) (told told' : Option (List ℕ)) (p : Point) (clock : ℕ) (item : Item) (drops : Bool) → state.segment ≡ None → ((event : Event) → p ≡ point.Comes event → ⊥) → IsPoint g state old told k told' p → IsTold state old told → Refuses g state (coming_entry drops clock item)
coming_not g state old k told told' point.Done clock item drops none other h t = none_comes g state clock item drops none (λ event at due. not_done g.policy (seen_of state) (Some event) clock at (h.stops t))
coming_not g state old k told told' point.Idle clock item drops none other h t = none_comes g state clock item drops none (λ event at due. not_idle g.policy (seen_of state) (Some event) clock at (h.stops t))
coming_not g state old k told told' (point.BadTrace line) clock item drops none other h t = none_comes g state clock item drops none (λ event at due. not_bad g.policy (seen_of state) (Some event) clock line at (h.stops t))
coming_not g state old k told told' (point.Comes event) clock item drops none other h t = absurd (other event refl)
coming_not g state old k told told' point.Choice clock item drops none other h t = none_comes g state clock item drops none (λ event at due.
    let same = one_clock g.policy (seen_of state) h.known (Some event) k.core.threads.waits.clock clock (h.goes.point t) at in
    let yes : is_due h.known k.core.threads.waits.clock ≡ true = ap (λ (o : Option Event). is_due o k.core.threads.waits.clock) same.0 ∙ ap (λ (n : ℕ). is_due (Some event) n) same.1 ∙ due in
    absurd (let no : true ≡ false = sym yes ∙ h.not_due in cc))
