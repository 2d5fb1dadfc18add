use Rattle.schedule_audit.proofs.Common.{sym, subst, StopLine, RulesStop, cut_counts, cut_stop}
use Rattle.schedule_audit.proofs.ends.stop_cause.Goals as goal

pub returns-in-Done-clause-rules : goal.returns-in-Done-clause-rules
returns-in-Done-clause-rules g c = λ given state stands.
    subst (λ (s : StopLine). RulesStop given state c.args.reading.now (g.S.Source.left c.args.trace.now) s c.stop_between.result) (sym c.in-Done.is) (c.stop_between.ensures.rules given state stands)

pub returns-in-Idle-clause-rules : goal.returns-in-Idle-clause-rules
returns-in-Idle-clause-rules g c = λ given state stands.
    subst (λ (s : StopLine). RulesStop given state c.args.reading.now (g.S.Source.left c.args.trace.now) s c.stop_between-in-Idle.result) (sym c.in-Idle.is) (c.stop_between-in-Idle.ensures.rules given state stands)

pub returns-in-Trace-clause-rules : goal.returns-in-Trace-clause-rules
returns-in-Trace-clause-rules g c = λ given state stands.
    subst (λ (s : StopLine). RulesStop given state c.args.reading.now (g.S.Source.left c.args.trace.now) s c.stop_between-in-Trace.result) (sym c.in-Trace.is) (c.stop_between-in-Trace.ensures.rules given state stands)

pub returns-in-Cut-clause-rules : goal.returns-in-Cut-clause-rules
returns-in-Cut-clause-rules g c = λ given state stands.
    subst (λ (s : StopLine). RulesStop given state c.args.reading.now (g.S.Source.left c.args.trace.now) s c.cut.result) (sym c.in-Cut.is)
    (cut_stop given state c.args.reading.now (g.S.Source.left c.args.trace.now) (StopLine.Cut c.in-Cut.thread c.in-Cut.stop c.in-Cut.cost c.in-Cut.free) c.cut.result (c.cut.ensures.rules given state stands))

pub returns-in-Cut-clause-counts : goal.returns-in-Cut-clause-counts
returns-in-Cut-clause-counts g c =
    let w = c.requires.stands in
    cut_counts w.0 w.1 (StopLine.Cut c.in-Cut.thread c.in-Cut.stop c.in-Cut.cost c.in-Cut.free) c.cut.result (g.S.Source.faults c.args.trace.now) (c.cut.ensures.rules w.0 w.1 w.2)
