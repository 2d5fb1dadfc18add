use Rattle.std.proofs.Common.{refl}
use Rattle.schedule_audit.proofs.Lined.{refused_late, refused_other, rules_as}
use Rattle.schedule_audit.proofs.audits.take_at_point.Goals as goal

pub returns-then-not-is_before_end-clause-rules : goal.returns-then-not-is_before_end-clause-rules
returns-then-not-is_before_end-clause-rules g c = λ s state stands t.
    refused_late s state c.args.reading.now stands c.requires.going c.requires.under c.args.entry c.requires.line (g.S.Source.left c.args.trace.now) c.is_before_end.result c.if-not-is_before_end.true c.is_before_end.ensures.1 t

pub returns-in-Event-clause-rules : goal.returns-in-Event-clause-rules
returns-in-Event-clause-rules g c = λ s state stands.
    rules_as s state c.args.reading.now c.args.entry _ (g.S.Source.left c.args.trace.now) c.delivery.new.self (g.S.Source.left c.delivery.new.trace) c.delivery.result c.in-Event.is (c.delivery.ensures.rules s state stands)

pub returns-in-Dropped-clause-rules : goal.returns-in-Dropped-clause-rules
returns-in-Dropped-clause-rules g c = λ s state stands.
    rules_as s state c.args.reading.now c.args.entry _ (g.S.Source.left c.args.trace.now) c.delivery-in-Dropped.new.self (g.S.Source.left c.delivery-in-Dropped.new.trace) c.delivery-in-Dropped.result c.in-Dropped.is (c.delivery-in-Dropped.ensures.rules s state stands)

pub returns-in-Run-clause-rules : goal.returns-in-Run-clause-rules
returns-in-Run-clause-rules g c = λ s state stands.
    rules_as s state c.args.reading.now c.args.entry _ (g.S.Source.left c.args.trace.now) c.choice.new.self (g.S.Source.left c.choice.new.trace) c.choice.result c.in-Run.is (c.choice.ensures.rules s state stands)

pub returns-in_default : goal.returns-in_default
returns-in_default g c = record {
  rules = λ s state stands t.
      refused_other s state c.args.reading.now stands c.requires.going c.requires.under c.args.entry c.requires.line (g.S.Source.left c.args.trace.now) (c.in_default.not-Event, c.in_default.not-Dropped, c.in_default.not-Run) t;
  counts = refl;
}
