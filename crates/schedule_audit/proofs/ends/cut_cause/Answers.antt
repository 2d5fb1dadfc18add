use Rattle.cap_word.specs.declared.stops.Stop.{Stop}
use Rattle.schedule_audit.proofs.Common.{Ok, sym, subst, Ruling, RulesCause, cause_crowd, cause_trap, fuel_spent}
use Rattle.schedule_audit.proofs.ends.cut_cause.Goals as goal

pub returns-in-Trap-clause-rules : goal.returns-in-Trap-clause-rules
returns-in-Trap-clause-rules g c = λ given state stands.
    subst (λ (s : Stop). RulesCause given state s c.args.cost c.trap.result) (sym c.in-Trap.is) (cause_trap given state c.args.cost c.in-Trap.kind c.trap.result (c.trap.ensures.rules given state stands))

pub returns-in-Threads-clause-rules : goal.returns-in-Threads-clause-rules
returns-in-Threads-clause-rules g c = λ given state stands.
    subst (λ (s : Stop). RulesCause given state s c.args.cost c.crowd.result) (sym c.in-Threads.is) (cause_crowd given state c.args.cost c.crowd.result (c.crowd.ensures.rules given state stands))

pub returns-in-Fuel-clause-rules : goal.returns-in-Fuel-clause-rules
returns-in-Fuel-clause-rules g c = λ given state stands.
    subst (λ (s : Stop). RulesCause given state s c.args.cost (Ok c.ruling_of.result)) (sym c.in-Fuel.is)
    (subst (λ (r : Ruling). RulesCause given state Stop.Fuel c.args.cost (Ok r)) (sym c.ruling_of.ensures)
    (fuel_spent given state c.args.reading.now.core c.args.under.now stands c.args.cost c.is_spent.result c.is_spent.ensures))
