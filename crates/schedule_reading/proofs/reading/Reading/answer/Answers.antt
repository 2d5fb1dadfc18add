use Rattle.schedule_reading.proofs.Common.{Some, None, Ok, refl, sym, ap, subst, Segment, Given, State, Answers, MayAnswer, Core, Kept}
use Rattle.schedule_reading.specs.declared.events.Happening.TheVariants as happening
use Rattle.schedule_reading.proofs.Asked.{give_goes, give_traps, put_answers, self_answers}
use Rattle.schedule_reading.proofs.reading.Reading.answer.Goals as goal

pub returns-in-Put-clause-answers : goal.returns-in-Put-clause-answers
returns-in-Put-clause-answers g c = λ given state last may.
    put_answers given state last c.args.crowds c.args.self.now.core c.resume.new.self.core c.args.under.now c.resume.new.under c.in-Put.value (subst (MayAnswer given state last c.args.self.now.core c.args.under.now) c.in-Put.is may)
    (record { mid_is = refl; new_is = ap (λ (x : Kept). x.core) c.resume.ensures.rest; under_is = c.resume.ensures.under; goes_on_is = c.resume.ensures.goes_on; thread = c.resume.ensures.thread })

pub returns-in-SelfNumber-clause-answers : goal.returns-in-SelfNumber-clause-answers
returns-in-SelfNumber-clause-answers g c = λ given state last may.
    self_answers given state last c.args.crowds c.args.self.now.core c.resume-in-SelfNumber.new.self.core c.args.under.now c.resume-in-SelfNumber.new.under (subst (MayAnswer given state last c.args.self.now.core c.args.under.now) c.in-SelfNumber.is may)
    (record { mid_is = refl; new_is = ap (λ (x : Kept). x.core) c.resume-in-SelfNumber.ensures.rest; under_is = c.resume-in-SelfNumber.ensures.under; goes_on_is = c.resume-in-SelfNumber.ensures.goes_on; thread = c.resume-in-SelfNumber.ensures.thread })

pub returns-in-None-clause-answers : goal.returns-in-None-clause-answers
returns-in-None-clause-answers g c =
    let mid : Core = record { policy = c.self.inside.policy; interpreter = c.self.inside.interpreter; words = c.self.inside.globals.items; threads = c.give.new.self; scheduler = c.self.inside.scheduler; graph = c.self.inside.graph; monitor = c.self.inside.monitor; free = c.self.inside.free; cost = c.self.inside.cost; left = c.self.inside.left } in
    let k : Core = record mid { threads = c.self.inside.threads } in
    subst (λ (x : Kept). (given : Given) (state : State) (last : Segment) → MayAnswer given state last x.core c.args.under.now c.args.ask → Answers given state last c.args.crowds c.resume-in-None.new.self.core c.resume-in-None.new.under (Ok None)) c.self.view_is
    (λ given state last may. give_goes given state last c.args.crowds k c.args.under.now c.in-Give.resource c.in-Give.amount (subst (MayAnswer given state last k c.args.under.now) c.in-Give.is may) mid c.resume-in-None.new.self.core c.resume-in-None.new.under
    c.in-None.ensures.after refl (sym c.in-None.ensures.trap)
    (record { mid_is = refl; new_is = ap (λ (x : Kept). x.core) c.resume-in-None.ensures.rest; under_is = c.resume-in-None.ensures.under; goes_on_is = c.resume-in-None.ensures.goes_on; thread = c.resume-in-None.ensures.thread }))

pub returns-in-Some-clause-answers : goal.returns-in-Some-clause-answers
returns-in-Some-clause-answers g c =
    let k : Core = record { policy = c.self.inside.policy; interpreter = c.self.inside.interpreter; words = c.self.inside.globals.items; threads = c.self.inside.threads; scheduler = c.self.inside.scheduler; graph = c.self.inside.graph; monitor = c.self.inside.monitor; free = c.self.inside.free; cost = c.self.inside.cost; left = c.self.inside.left } in
    subst (λ (x : Kept). (given : Given) (state : State) (last : Segment) → MayAnswer given state last x.core c.args.under.now c.args.ask → Answers given state last c.args.crowds x.core c.args.under.now (Ok (Some (happening.Traps c.in-Some.kind)))) c.self.view_is
    (λ given state last may. give_traps given state last c.args.crowds k c.args.under.now c.in-Give.resource c.in-Give.amount (subst (MayAnswer given state last k c.args.under.now) c.in-Give.is may) c.in-Some.kind k c.args.under.now (sym c.in-Some.ensures.trap))
