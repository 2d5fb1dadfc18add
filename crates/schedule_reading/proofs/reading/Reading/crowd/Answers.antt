use Rattle.schedule_reading.proofs.Common.{Result, Ok, refl, sym, ap, ◌∙◌, subst, Failure, Happening, Ruling, RulesCrowd, Kept}
use Rattle.schedule_reading.proofs.Cutting.{crowd_else, crowd_late, crowd_now, crowd_over}
use Rattle.schedule_reading.proofs.Ended.{CrowdCame, crowd_came}
use Rattle.schedule_reading.proofs.reading.Reading.crowd.Goals as goal
use Rattle.schedule_reading.proofs.reading.Reading.crowd.Goals.{then-left-eq0, else-left-eq0}

pub returns-in-OutOfSteps-clause-rules : goal.returns-in-OutOfSteps-clause-rules
returns-in-OutOfSteps-clause-rules g c = λ given state stands.
    let came = crowd_came given state c.args.self.now c.args.under.now c.self.inside.left c.happen.new.left c.happen.new.self.core c.happen.new.under c.happen.result (ap (λ (x : Kept). x.core.left) c.self.view_is) c.happen.ensures.happens c.happen.ensures.crowds c.happen.ensures.keeps stands in
    let late = subst (λ (r : Result Happening Failure). CrowdCame given state c.args.self.now c.args.under.now stands c.happen.new.left c.happen.new.self.core c.happen.new.under r) (c.in_ok-happen.was ∙ ap Ok c.in-OutOfSteps.is) came in
    crowd_late given state c.args.self.now.core c.args.under.now stands c.happen.new.left c.happen.new.self.core c.happen.new.under late.happened.0 late.happened (late.first refl)

pub returns-in-IsCrowded-clause-rules : goal.returns-in-IsCrowded-clause-rules
returns-in-IsCrowded-clause-rules g c = λ given state stands.
    let came = crowd_came given state c.args.self.now c.args.under.now c.self.inside.left c.happen.new.left c.happen.new.self.core c.happen.new.under c.happen.result (ap (λ (x : Kept). x.core.left) c.self.view_is) c.happen.ensures.happens c.happen.ensures.crowds c.happen.ensures.keeps stands in
    let now = subst (λ (r : Result Happening Failure). CrowdCame given state c.args.self.now c.args.under.now stands c.happen.new.left c.happen.new.self.core c.happen.new.under r) (c.in_ok-happen.was ∙ ap Ok c.in-IsCrowded.is) came in
    crowd_now given state c.args.self.now.core c.args.under.now stands c.happen.new.left c.happen.new.self.core c.happen.new.under now.few now.happened

pub returns-after-left-eq0 : goal.returns-after-left-eq0
returns-after-left-eq0 g c = record {
  rules = λ given state stands.
      let came = crowd_came given state c.args.self.now c.args.under.now c.self.inside.left c.happen.new.left c.happen.new.self.core c.happen.new.under c.happen.result (ap (λ (x : Kept). x.core.left) c.self.view_is) c.happen.ensures.happens c.happen.ensures.crowds c.happen.ensures.keeps stands in
      let is = subst (λ (r : Result Happening Failure). CrowdCame given state c.args.self.now c.args.under.now stands c.happen.new.left c.happen.new.self.core c.happen.new.under r) c.in_ok-happen.was came in
      elim c.if-left-eq0.branch [
        | then-left-eq0 w ↦
            subst (λ (r : Ruling). RulesCrowd given state (Ok r)) (sym w.result-is)
            (crowd_over given state c.args.self.now.core c.args.under.now stands c.happen.new.left c.happen.new.self.core c.happen.new.under c.in_ok-happen.field-0 is.happened is.first c.in_default.not-IsCrowded is.few w.if-left-eq0.true)
        | else-left-eq0 w ↦
            subst (λ (r : Ruling). RulesCrowd given state (Ok r)) (sym w.result-is)
            (crowd_else given state c.args.self.now.core c.args.under.now stands c.happen.new.left c.happen.new.self.core c.happen.new.under c.in_ok-happen.field-0 is.happened is.first c.in_default.not-IsCrowded is.few w.if-left-eq0.false)
      ];
  rest = c.happen.ensures.rest;
}
