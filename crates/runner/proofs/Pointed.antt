-- A choice point that goes on: no event is due, and what waiting comes to.
use Rattle.runner.proofs.Common.{◌≡◌, ℕ, ◌≤◌, Bool, true, false, Option, Some, None, Ok, refl, sym, ap, ◌∙◌, subst, arith, nat_le, nat_tests, Event, is_due, Setup, State, Halt, Kept, Output, IsAtPoint, HaltsAt, StepEnds, WaitEnds, Rest, Held, acts_between, way_between, same_ticks, by_none, silent, sound_between}

due_by : (event : Event) (clock : ℕ) → (event.time ≤ clock → ⊥) → nat_le event.time clock ≡ false
due_by event clock none = by (nat_le event.time clock) refl where
  by : (b : Bool) → nat_le event.time clock ≡ b → nat_le event.time clock ≡ false
  by false e = e
  by true e = absurd (none (grind (arith, nat_tests, e)))

module _ (g : Setup) (state : State) (k : Kept) (held : Held) (left : Rest) (next : Option Event) (at : IsAtPoint g state k held left next) where
  pub not_due_none : next ≡ None → is_due next held.machine.clock ≡ false
  not_due_none e = ap (λ (o : Option Event). is_due o held.machine.clock) e

  pub not_due_event : (event : Event) → next ≡ Some event → (event.time ≤ held.machine.clock → ⊥) → is_due next held.machine.clock ≡ false
  not_due_event event e none = ap (λ (o : Option Event). is_due o held.machine.clock) e ∙ due_by event held.machine.clock none

  -- the clock has moved, or the run is idle
  pub waited : (new : Held) (result : Option Halt) (taken : Output) → WaitEnds g state k held new left result → StepEnds g state left k new left taken taken (Ok result)
  waited new None taken is = silent g state left k new left taken (by_none g state k new left at.between is.stands)
  waited new (Some halt) taken is = subst (λ (h : Held). HaltsAt g state left k h halt taken taken) (sym is.same) (subst (λ (stop : Halt). HaltsAt g state left k held stop taken taken) (sym is.halt_is) idle) where
    idle : HaltsAt g state left k held Halt.Idle taken taken
    idle = record {
      of = at.stands.of;
      stops = is.idle;
      graph = at.stands.past.graph_is;
      acts = acts_between g state k held left at.stands;
      way = way_between g state k held left at.stands;
      clock = same_ticks state.machine held.machine is.machine_is;
      sound = sound_between g state k held left at.stands;
      thread = tt;
      writes = refl;
    }
