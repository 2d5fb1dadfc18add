-- A line `out`.
use Rattle.schedule_reading.proofs.Common.{◌≡◌, ℕ, Bool, true, false, Some, Ok, refl, ℤ, signed, Given, State, Entry, Under, AllowsWithin, HasProceeded, RulesWithin, Core, Kept, ruled, Refuses, IsEnd, StandsWithin}
use Rattle.schedule_reading.specs.declared.events.Happening.TheVariants as happening
use Rattle.schedule_reading.specs.declared.reading.End.TheVariants as end
use Rattle.schedule_reading.proofs.Proceeding.{came_beyond, came_puts, end_as, in_steps, not_yet, out_is, out_not, put_stands, put_state, yet_not}

-- the line is that of the output
abbrev pub IsPut : Kept → Under → (word thread : ℕ) → ℤ → Type 0
IsPut old under word thread value = (old.end ≡ end.NotYet) × (thread ≡ under.choice.thread.number) × (value ≡ signed word)

module _ (g : Given) (state : State) (old : Kept) (old_under : Under) (k : Core) (under : Under) (stands : StandsWithin g state old.core old_under) (end_is : IsEnd g state old.end) (thread : ℕ) (value : ℤ) where
  abbrev pub new : Kept
  new = record old { core = k; under = Some under }

  abbrev pub entry : Entry
  entry = Entry.Out thread value

  module _ (word : ℕ) (p : HasProceeded g state old.core old_under k under (Ok (happening.Puts word))) where
    out_allowed : IsPut old under word thread value → AllowsWithin g state old entry new
    out_allowed is = record {
      after = put_state g state old.core old_under k under stands word p;
      allowed = out_is g state old.core old_under k under stands word p thread value (yet_not g state old.end end_is is.0) is.1 is.2;
      within = in_steps g state old.core old_under k under stands (Ok (happening.Puts word)) p;
      stands = put_stands g state old.core old_under k under stands word p;
      end_is = end_as g state (put_state g state old.core old_under k under stands word p) old.end refl end_is;
      going = refl;
      trace = refl;
      reader = refl;
      next = refl;
    }

    out_refused : (IsPut old under word thread value → ⊥) → Refuses g state entry
    out_refused never = record {
      refused = λ after. out_not g state old.core old_under k under stands word p thread value after (λ over thread_is value_is. never (not_yet g state old.end end_is over, thread_is, value_is));
      enough = came_beyond g state entry (came_puts g state old.core old_under k under stands word p) (λ segment steps comes. comes);
    }

    pub out_ruled : (b : Bool) → (b ≡ true → IsPut old under word thread value) → (b ≡ false → IsPut old under word thread value → ⊥) → RulesWithin g state old entry new (Ok (ruled b))
    out_ruled true is never = out_allowed (is refl)
    out_ruled false is never = out_refused (never refl)
