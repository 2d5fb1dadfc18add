-- What a run writes of what comes.
use Rattle.run_course.proofs.Common.{◌≡◌, ◌≢◌, ℕ, ◌≤◌, Bool, true, false, [], ◌∷◌, ◌++◌, Option, Some, None, Result, refl, sym, ap, ◌∙◌, subst, if◌then◌else◌, Exchange, is_dropped, with_delivery, Event, EventKind, delivery_of, item_of, IsComing, IsAllowed, Setup, setting_of, State, drops, World, Setting, Under, Failure, Next, Kept, Output, PutsText, coming_line, StandsBetween, StandsBy, ActsTo, PartEnds, Rest, HasBytes, entry_text, after_event, delivery_answer, Held}
use Rattle.run_course.proofs.Acting.{acts_on}
use Rattle.run_course.proofs.Parts.{acts_between, same_ticks, deliver_acts, part_of}
use Rattle.thread_core.specs.declared.outside.Delivered.{Delivered}
use Rattle.run_course.proofs.Came.{between, words, came_state, came_world, machine_is, came_allowed, came_stands}

allowed_by : (g : Setup) (state : State) (clock : ℕ) (kind : EventKind) (new : State) (b : Bool) → IsComing g state clock (item_of kind) b new → IsAllowed g state (coming_line clock kind (if b then Delivered.Dropped else Delivered.Queued)) new
allowed_by g state clock kind new true is = is
allowed_by g state clock kind new false is = is

same_clock : (b : Bool) (w : World) (x : Exchange) → (if b then w else record w { exchange = x }).clock ≡ w.clock
same_clock true w x = refl
same_clock false w x = refl

module _ (g : Setup) (state : State) (k : Kept) (held : Held) (left : Rest) (stands : StandsBetween g state k held left) (event : Event) (next_is : k.next ≡ Next.Event event) (delivered : Delivered)
    (delivered_is : delivered ≡ delivery_answer held event.kind) where
  drops_same : is_dropped held.setting.backlog held.machine.exchange (delivery_of event.kind) ≡ drops g state event held.machine (between g state k held left stands event next_is) (words g state k held left stands event next_is)
  drops_same =
      ap (λ (s : Setting). is_dropped s.backlog held.machine.exchange (delivery_of event.kind)) stands.of.setting
      ∙ ap (λ (x : Exchange). is_dropped g.policy.backlog x (delivery_of event.kind)) (ap (λ (w : World). w.exchange) stands.between.machine_is ∙ stands.between.stands.exchange)

  answer_is : (if drops g state event held.machine (between g state k held left stands event next_is) (words g state k held left stands event next_is) then Delivered.Dropped else Delivered.Queued) ≡ delivered
  answer_is = ap (λ (b : Bool). if b then Delivered.Dropped else Delivered.Queued) (sym drops_same) ∙ sym delivered_is

  clock_is : (after_event held event.kind).machine.clock ≡ held.machine.clock
  clock_is = same_clock (is_dropped held.setting.backlog held.machine.exchange (delivery_of event.kind)) held.machine (with_delivery held.machine.exchange (delivery_of event.kind))

  pub entry_allowed : held.machine.threads ≢ [] → event.time ≤ held.machine.clock → HasBytes left →
      IsAllowed g state (coming_line (after_event held event.kind).machine.clock event.kind delivered) (came_state g state k held left stands event next_is)
  entry_allowed live due told =
      subst (λ (n : ℕ). IsAllowed g state (coming_line n event.kind delivered) (came_state g state k held left stands event next_is)) (sym clock_is)
      (subst (λ (d : Delivered). IsAllowed g state (coming_line held.machine.clock event.kind d) (came_state g state k held left stands event next_is)) answer_is
      (allowed_by g state held.machine.clock event.kind (came_state g state k held left stands event next_is) _ (came_allowed g state k held left stands event next_is live due told)))

  stands_by : (under : Option Under) → under ≡ None → StandsBetween g (came_state g state k held left stands event next_is) (record k { next = Next.Unread }) (after_event held event.kind) left →
      StandsBy g (came_state g state k held left stands event next_is) (record k { next = Next.Unread }) (after_event held event.kind) left under
  stands_by None e s = s
  stands_by (Some u) e s = absurd (cc)

  acts_here : ActsTo (setting_of g) state.machine (came_state g state k held left stands event next_is).machine
  acts_here = acts_on (setting_of g) state.machine held.machine (came_world g state k held left stands event next_is) (acts_between g state k held left stands)
      (deliver_acts (setting_of g) held.machine (delivery_of event.kind) (ap (λ (w : World). w.running) stands.between.machine_is ∙ stands.between.stands.between))

  part_now : k.under ≡ None → held.machine.threads ≢ [] → event.time ≤ held.machine.clock → (taken written : Output) (result : Result (Unit {0}) Failure) →
      PutsText taken written (entry_text (coming_line (after_event held event.kind).machine.clock event.kind delivered) ++ 10 ∷ []) result →
      PartEnds g state left (record k { next = Next.Unread }) (after_event held event.kind) left taken written result
  part_now under live due taken written result puts =
      part_of g state (came_state g state k held left stands event next_is) left (record k { next = Next.Unread }) (after_event held event.kind) taken written
      (coming_line (after_event held event.kind).machine.clock event.kind delivered) result (entry_allowed live due) acts_here
      (same_ticks (came_world g state k held left stands event next_is) (after_event held event.kind).machine (machine_is g state k held left stands event next_is))
      (stands_by k.under under (came_stands g state k held left stands event next_is)) puts

  pub delivered_part : (new : Held) → new ≡ after_event held event.kind → k.under ≡ None → held.machine.threads ≢ [] → event.time ≤ held.machine.clock → (taken written : Output) (result : Result (Unit {0}) Failure) →
      PutsText taken written (entry_text (coming_line new.machine.clock event.kind delivered) ++ 10 ∷ []) result → PartEnds g state left (record k { next = Next.Unread }) new left taken written result
  delivered_part new is under live due taken written result puts =
      subst (λ (h : Held). PartEnds g state left (record k { next = Next.Unread }) h left taken written result) (sym is)
      (part_now under live due taken written result (subst (λ (h : Held). PutsText taken written (entry_text (coming_line h.machine.clock event.kind delivered) ++ 10 ∷ []) result) is puts))
