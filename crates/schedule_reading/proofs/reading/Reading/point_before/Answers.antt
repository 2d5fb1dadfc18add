use Rattle.schedule_reading.proofs.Common.{◌≡◌, ◌∙◌, ◌<◌, ℕ, false, Option, ap, sym, subst, is_due, Event, Kept, GoesOnFrom, any_ready_in}
use Rattle.schedule_reading.proofs.Moving.{none_due, some_not_due}
use Rattle.schedule_reading.proofs.Pointing.{chooses_now}
use Rattle.schedule_reading.proofs.reading.Reading.point_before.Goals as goal
use Rattle.schedule_reading.proofs.reading.Reading.point_before.Goals.{in-Some+else-event-clock, in_default}

pub returns-then-any_ready-clause-is : goal.returns-then-any_ready-clause-is
returns-then-any_ready-clause-is g c = λ s state told from.
    let k = c.args.self.now in
    let not_due : is_due c.args.next k.core.threads.waits.clock ≡ false = elim c.match-next.branch [
      | in-Some+else-event-clock w ↦ some_not_due c.args.next k.core.threads.waits.clock w.in-Some.event w.in-Some.is
          (subst (λ (n : ℕ). n < w.in-Some.event.time) (w.clock.ensures ∙ ap (λ (x : Kept). x.core.threads.waits.clock) c.self.view_is) w.if-event-clock.false)
      | in_default w ↦ none_due c.args.next k.core.threads.waits.clock w.in_default.is
    ] in
    chooses_now s state k told c.args.next from not_due (sym (ap (λ (x : Kept). any_ready_in x.core.threads) c.self.view_is) ∙ sym c.any_ready.ensures ∙ c.if-any_ready.true)

pub returns-clause-is : goal.returns-clause-is
returns-clause-is g c = λ s state told from. elim c.match-next.branch [
  | in-Some+else-event-clock w ↦ let same : c.match-next.next ≡ c.args.next = cc in c.wait.ensures.is s state told (subst (λ (o : Option Event). GoesOnFrom s state c.args.self.now o) (sym same) from)
  | in_default w ↦ let same : c.match-next.next ≡ c.args.next = cc in c.wait.ensures.is s state told (subst (λ (o : Option Event). GoesOnFrom s state c.args.self.now o) (sym same) from)
]
