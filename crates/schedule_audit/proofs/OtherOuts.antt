-- A line `out`, where the thread goes on without one.
use Rattle.schedule_audit.proofs.Common.{◌≡◌, ℕ, ◌-◌, Some, Ok, refl, subst, ℤ, Given, Segment, State, Entry, Happening, Under, HasProceeded, RulesWithin, Core, Kept, IsEnd, StandsWithin, came_beyond, came_blocks, came_ends, came_traps, late, same_segment}
use Rattle.c_mean.specs.World as source
use Rattle.lawful_reading.specs.Happenings.{PutsNext, RestsNext}
use Rattle.lawful_reading.specs.Segments.{IsOut}
use Rattle.lawful_reading.proofs.Moves.{not_put_and_rest}
use Rattle.schedule_reading.specs.declared.events.Happening.TheVariants as happening
use Rattle.schedule_reading.specs.declared.rulings.Ruling.TheVariants as ruling

out_rests : (g : Given) (state : State) (thread : ℕ) (value : ℤ) (after : State) (segment : Segment) (steps : ℕ) (rested : source.Rested) → state.segment ≡ Some segment → RestsNext g.program g.policy.caps segment.here steps rested → IsOut g state thread value after → ⊥
out_rests g state thread value after segment steps rested under_way rests q =
    let same : q.segment ≡ segment = same_segment state q.segment segment q.under_way under_way in
    let puts : PutsNext g.program g.policy.caps segment.here q.steps q.word q.here = subst (λ (s : Segment). PutsNext g.program g.policy.caps s.here q.steps q.word q.here) same q.puts in
    not_put_and_rest g.program g.policy.caps segment.here q.here q.steps steps q.word rested puts rests

module _ (g : Given) (state : State) (old : Kept) (old_under : Under) (k : Core) (under : Under) (stands : StandsWithin g state old.core old_under) (end_is : IsEnd g state old.end) (thread : ℕ) (value : ℤ) where
  abbrev new : Kept
  new = record old { core = k; under = Some under }

  abbrev entry : Entry
  entry = Entry.Out thread value

  pub out_late : HasProceeded g state old.core old_under k under (Ok happening.OutOfSteps) → RulesWithin g state old entry new (Ok ruling.OutOfSteps)
  out_late p = late g state old.core old_under k under stands p entry (λ segment steps comes. comes)

  pub out_other : (result : Happening) → HasProceeded g state old.core old_under k under (Ok result) → ((word : ℕ) → result ≡ happening.Puts word → ⊥) → (result ≡ happening.OutOfSteps → ⊥) → (result ≡ happening.IsCrowded → ⊥) → RulesWithin g state old entry new (Ok ruling.Refused)
  out_other (happening.Puts word) p no_put no_late no_crowd = absurd (no_put word refl)
  out_other happening.OutOfSteps p no_put no_late no_crowd = absurd (no_late refl)
  out_other happening.IsCrowded p no_put no_late no_crowd = absurd (no_crowd refl)
  out_other (happening.Blocks block) p no_put no_late no_crowd = record {
    refused = λ after. out_rests g state thread value after p.segment (old.core.left - k.left) _ p.under_way p.happened.rests.next;
    enough = came_beyond g state entry (came_blocks g state old.core old_under k under stands block p) (λ segment steps comes. comes);
  }
  out_other happening.Ends p no_put no_late no_crowd = record {
    refused = λ after. out_rests g state thread value after p.segment (old.core.left - k.left) _ p.under_way p.happened.rests.next;
    enough = came_beyond g state entry (came_ends g state old.core old_under k under stands p) (λ segment steps comes. comes);
  }
  out_other (happening.Traps kind) p no_put no_late no_crowd = record {
    refused = λ after. out_rests g state thread value after p.segment (old.core.left - k.left) _ p.under_way p.happened.next;
    enough = came_beyond g state entry (came_traps g state old.core old_under k under stands kind p) (λ segment steps comes. comes);
  }
