use Rattle.schedule_audit.proofs.Common.{◌≡◌, true, false, Some, Result, Ok, ap, ◌∙◌, subst, sym, StopLine, Failure, Ruling, RulesCause, RulesCut, Kept, StandsBy, StandsWithin, cut_allowed, cut_beyond, cut_not, stands_by}
use Rattle.schedule_audit.proofs.ends.cut.Goals as goal
use Rattle.schedule_audit.proofs.ends.cut.Goals.{in-Allowed, in-Refused, in-OutOfSteps}

pub returns-clause-rules : goal.returns-clause-rules
returns-clause-rules g c = λ given state stands.
    let old = c.args.reading.now in
    let under = c.in-Some.under in
    let by = stands_by given state old stands c.requires.going in
    let is : old.under ≡ Some under = ap (λ (x : Kept). x.under) (sym c.reading.view_is) ∙ sym c.in-Some.ensures.value in
    let here : StandsWithin given state old.core under = subst (StandsBy given state old.core) is by.0 in
    let within = subst (λ (x : Kept). StandsWithin given state x.core under) (sym c.reading.view_is) here in
    let rules = c.in_ok-ruling.ensures.rules given state within in
    let line = StopLine.Cut c.args.thread c.args.stop c.args.cost c.args.free in
    elim c.match-ruling.branch [
      | in-Allowed w ↦
          subst (λ (r : Result Ruling Failure). RulesCut given state line r) (sym w.result-is)
          (subst (λ (r : Ruling). RulesCut given state line (Ok r)) (sym w.ruling_of.ensures)
          (cut_allowed given state _ under within c.args.cost c.args.free c.args.thread c.args.stop c.tells-told.result (λ e. c.tells-told.ensures.0 e)
          (λ e t. let both : true ≡ false = sym (c.tells-told.ensures.1 t) ∙ e in absurd (cc))
          (subst (λ (r : Ruling). RulesCause given state c.args.stop c.args.cost (Ok r)) w.in-Allowed.is rules)))
      | in-Refused w ↦
          subst (λ (r : Result Ruling Failure). RulesCut given state line r) (sym w.result-is)
          (cut_not given state _ under within c.args.cost c.args.free c.args.thread c.args.stop (subst (λ (r : Ruling). RulesCause given state c.args.stop c.args.cost (Ok r)) w.in-Refused.is rules))
      | in-OutOfSteps w ↦
          subst (λ (r : Result Ruling Failure). RulesCut given state line r) (sym w.result-is)
          (cut_beyond given state _ under within c.args.cost c.args.free c.args.thread c.args.stop (subst (λ (r : Ruling). RulesCause given state c.args.stop c.args.cost (Ok r)) w.in-OutOfSteps.is rules))
    ]
