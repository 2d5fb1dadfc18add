use Rattle.std.proofs.Common.{◌∙◌, None, Some, sym}
use Rattle.schedule_reading.proofs.Deciding.{bad_from, knows_event, knows_over, point_from}
use Rattle.schedule_reading.proofs.Moving.{goes_looked, live_still, stands_still}
use Rattle.schedule_reading.proofs.reading.Reading.point.Goals as goal

pub returns-in-Refused-clause-is : goal.returns-in-Refused-clause-is
returns-in-Refused-clause-is g c = λ s state from.
    let k = c.args.self.now in
    let new = c.look.new.self in
    let live = live_still _ k new c.self.view_is c.look.ensures.keeps c.live.result c.live.ensures c.if-live-eq0.false in
    bad_from s state k new (g.S.Source.left c.args.trace.now) (g.S.Source.left c.look.new.trace) (λ t. c.in_ok-look.ensures.looks state.trace t) c.in-Refused.line (stands_still s state k new c.look.ensures.keeps from.0) c.in_ok-look.ensures.looked live
    (sym c.in_ok-look.ensures.is.0 ∙ c.in-Refused.is)

pub returns-in-Over-clause-is : goal.returns-in-Over-clause-is
returns-in-Over-clause-is g c = λ s state from.
    let k = c.args.self.now in
    let new = c.look.new.self in
    let live = live_still _ k new c.self.view_is c.look.ensures.keeps c.live.result c.live.ensures c.if-live-eq0.false in
    let goes = goes_looked s state k new None c.look.ensures.keeps from.0 c.in_ok-look.ensures.looked (knows_over new.next (sym c.in_ok-look.ensures.is.0 ∙ c.in-Over.is)) live in
    point_from s state k new (g.S.Source.left c.args.trace.now) (g.S.Source.left c.look.new.trace) (λ t. c.in_ok-look.ensures.looks state.trace t) c.point_before.new.self c.point_before.result
    (c.point_before.ensures.is s state (g.S.Source.left c.look.new.trace) goes)

pub returns-in-Event-clause-is : goal.returns-in-Event-clause-is
returns-in-Event-clause-is g c = λ s state from.
    let k = c.args.self.now in
    let new = c.look.new.self in
    let live = live_still _ k new c.self.view_is c.look.ensures.keeps c.live.result c.live.ensures c.if-live-eq0.false in
    let goes = goes_looked s state k new (Some c.in-Event.event) c.look.ensures.keeps from.0 c.in_ok-look.ensures.looked (knows_event new.next c.in-Event.event (sym c.in_ok-look.ensures.is.0 ∙ c.in-Event.is)) live in
    point_from s state k new (g.S.Source.left c.args.trace.now) (g.S.Source.left c.look.new.trace) (λ t. c.in_ok-look.ensures.looks state.trace t) c.point_before-in-Event.new.self c.point_before-in-Event.result
    (c.point_before-in-Event.ensures.is s state (g.S.Source.left c.look.new.trace) goes)
