use Rattle.schedule_reading.proofs.Common.{◌≤◌, Some, None, subst, sym, Kept}
use Rattle.schedule_reading.proofs.Moving.{at_time, comes_alone, comes_first, idle_point, wake_as, wake_early, wake_later, wakes_alone, wakes_first}
use Rattle.schedule_reading.proofs.reading.Reading.wait.Goals as goal

pub advance-requires-clause-later : goal.advance-requires-clause-later
advance-requires-clause-later g c =
    let p = c.requires.goes in
    let k = c.args.self.now in
    let wakes = wake_as _ k c.self.view_is c.wake.result (Some c.in-None-Some.time) c.in-None-Some.is-1 c.wake.ensures in
    subst (λ (x : Kept). x.core.threads.waits.clock ≤ c.in-None-Some.time) (sym c.self.view_is) (wake_later p.0 p.1 k c.args.next p.2 c.requires.not_due c.requires.unready c.in-None-Some.time wakes)

pub advance-requires-clause-possible : goal.advance-requires-clause-possible
advance-requires-clause-possible g c =
    let p = c.requires.goes in
    let k = c.args.self.now in
    let wakes = wake_as _ k c.self.view_is c.wake.result (Some c.in-None-Some.time) c.in-None-Some.is-1 c.wake.ensures in
    wake_early p.0 p.1 k c.args.next p.2 c.requires.not_due c.requires.unready c.in-None-Some.time wakes

pub advance-requires-else-event-time-clause-later : goal.advance-requires-else-event-time-clause-later
advance-requires-else-event-time-clause-later g c =
    let p = c.requires.goes in
    let k = c.args.self.now in
    let wakes = wake_as _ k c.self.view_is c.wake.result (Some c.in-Some-Some.time) c.in-Some-Some.is-1 c.wake.ensures in
    subst (λ (x : Kept). x.core.threads.waits.clock ≤ c.in-Some-Some.time) (sym c.self.view_is) (wake_later p.0 p.1 k c.args.next p.2 c.requires.not_due c.requires.unready c.in-Some-Some.time wakes)

pub returns-in-None-None-clause-is : goal.returns-in-None-None-clause-is
returns-in-None-None-clause-is g c = λ s state told from.
    let k = c.args.self.now in
    let wakes = wake_as _ k c.self.view_is c.wake.result None c.in-None-None.is-1 c.wake.ensures in
    idle_point s state k c.args.next from c.requires.not_due c.requires.unready told c.in-None-None.is-0 wakes

pub returns-in-None-Some-clause-is : goal.returns-in-None-Some-clause-is
returns-in-None-Some-clause-is g c = λ s state told from.
    let k = c.args.self.now in
    let wakes = wake_as _ k c.self.view_is c.wake.result (Some c.in-None-Some.time) c.in-None-Some.is-1 c.wake.ensures in
    wakes_alone s state k c.args.next from c.requires.not_due c.requires.unready told _ c.in-None-Some.time c.in-None-Some.is-0 wakes (at_time _ k c.self.view_is c.advance.new.self c.in-None-Some.time c.advance.ensures)

pub returns-in-Some-None-clause-is : goal.returns-in-Some-None-clause-is
returns-in-Some-None-clause-is g c = λ s state told from.
    let k = c.args.self.now in
    let wakes = wake_as _ k c.self.view_is c.wake.result None c.in-Some-None.is-1 c.wake.ensures in
    comes_alone s state k c.args.next from c.requires.not_due c.requires.unready told _ c.in-Some-None.event c.in-Some-None.is-0 wakes
    (at_time _ k c.self.view_is c.advance-in-Some-None.new.self c.in-Some-None.event.time c.advance-in-Some-None.ensures)

pub returns-then-event-time-clause-is : goal.returns-then-event-time-clause-is
returns-then-event-time-clause-is g c = λ s state told from.
    let k = c.args.self.now in
    let wakes = wake_as _ k c.self.view_is c.wake.result (Some c.in-Some-Some.time) c.in-Some-Some.is-1 c.wake.ensures in
    comes_first s state k c.args.next from c.requires.not_due c.requires.unready told _ c.in-Some-Some.event c.in-Some-Some.time c.in-Some-Some.is-0 wakes c.if-event-time.true
    (at_time _ k c.self.view_is c.advance-then-event-time.new.self c.in-Some-Some.event.time c.advance-then-event-time.ensures)

pub returns-else-event-time-clause-is : goal.returns-else-event-time-clause-is
returns-else-event-time-clause-is g c = λ s state told from.
    let k = c.args.self.now in
    let wakes = wake_as _ k c.self.view_is c.wake.result (Some c.in-Some-Some.time) c.in-Some-Some.is-1 c.wake.ensures in
    wakes_first s state k c.args.next from c.requires.not_due c.requires.unready told _ c.in-Some-Some.event c.in-Some-Some.time c.in-Some-Some.is-0 wakes c.if-event-time.false
    (at_time _ k c.self.view_is c.advance-else-event-time.new.self c.in-Some-Some.time c.advance-else-event-time.ensures)
