use Rattle.schedule_reading.proofs.Common.{Ok, ap, ◌∙◌, sym, subst, is_some, Ruling, RulesStop, stop_line, Kept}
use Rattle.schedule_reading.proofs.Ended.{stop_ruled, under_none, under_stop}
use Rattle.schedule_reading.proofs.reading.Reading.stop_between.Goals as goal

pub returns-then-is_some-clause-rules : goal.returns-then-is_some-clause-rules
returns-then-is_some-clause-rules g c = λ given state stands.
    under_stop given state c.args.self.now (g.S.Source.left c.args.trace.now) c.args.stop stands c.requires.going (ap (λ (x : Kept). is_some x.under) (sym c.self.view_is) ∙ sym c.if-is_some.ensures)

pub returns-clause-rules : goal.returns-clause-rules
returns-clause-rules g c = λ given state stands.
    subst (λ (r : Ruling). RulesStop given state c.args.self.now (g.S.Source.left c.args.trace.now) (stop_line c.args.stop) (Ok r)) (sym c.ruling_of.ensures)
    (stop_ruled given state c.args.self.now (g.S.Source.left c.args.trace.now) c.point.new.self (g.S.Source.left c.point.new.trace) c.in_ok-point.point c.args.stop c.is_stop_of.result c.is_stop_of.ensures stands c.requires.going
    (under_none c.args.self.now.under (ap (λ (x : Kept). is_some x.under) (sym c.self.view_is) ∙ sym c.if-is_some.ensures)) c.in_ok-point.ensures.is)
