use Rattle.schedule_audit.proofs.Common.{Result, Ok, sym, ap, ◌∙◌, subst, err_from_is_err_and, Happening, Failure, Ruling, HasProceeded, RulesTrap, trap_late, trap_not, trap_ruled}
use denote.Enum.Bare.{same_false, same_true}
use Rattle.cap_word.specs.contracts.traps.TrapKind.{the_type}
use Rattle.schedule_audit.proofs.ends.trap.Goals as goal

pub returns-in_err-proceed-clause-rules : goal.returns-in_err-proceed-clause-rules
returns-in_err-proceed-clause-rules g c = λ given state stands.
    let p = err_from_is_err_and c.from_residual.result c.from_residual.ensures.1 in
    subst (λ (r : Result Ruling Failure). RulesTrap given state c.args.kind r) (sym p.1) (p.2 ∙ (c.in_err-proceed.ensures.proceeds given state stands).happened)

pub returns-in-OutOfSteps-clause-rules : goal.returns-in-OutOfSteps-clause-rules
returns-in-OutOfSteps-clause-rules g c = λ given state stands.
    trap_late given state c.args.reading.now.core c.args.under.now c.proceed.new.reading.core c.proceed.new.under stands c.args.kind
    (subst (λ (h : Happening). HasProceeded given state c.args.reading.now.core c.args.under.now c.proceed.new.reading.core c.proceed.new.under (Ok h)) c.in-OutOfSteps.is (c.in_ok-proceed.ensures.proceeds given state stands))

pub returns-in-Traps-clause-rules : goal.returns-in-Traps-clause-rules
returns-in-Traps-clause-rules g c = λ given state stands.
    let came = subst (λ (h : Happening). HasProceeded given state c.args.reading.now.core c.args.under.now c.proceed.new.reading.core c.proceed.new.under (Ok h)) c.in-Traps.is (c.in_ok-proceed.ensures.proceeds given state stands) in
    subst (λ (r : Ruling). RulesTrap given state c.args.kind (Ok r)) (sym c.ruling_of.ensures)
    (trap_ruled given state c.args.reading.now.core c.args.under.now c.proceed.new.reading.core c.proceed.new.under stands c.args.kind c.in-Traps.other c.eq.result
    (λ e. same_true the_type tt c.args.kind c.in-Traps.other (sym c.eq.ensures ∙ e))
    (λ e. same_false the_type c.args.kind c.in-Traps.other (sym c.eq.ensures ∙ e)) came)

pub returns-in_default : goal.returns-in_default
returns-in_default g c = record {
  rules = λ given state stands.
      trap_not given state c.args.reading.now.core c.args.under.now c.proceed.new.reading.core c.proceed.new.under stands c.args.kind c.in_ok-proceed.field-0 (c.in_ok-proceed.ensures.proceeds given state stands)
      c.in_default.not-OutOfSteps c.in_default.not-Traps (λ e. c.proceed.ensures.alone (c.in_ok-proceed.was ∙ ap Ok e));
  rest = c.proceed.ensures.rest;
}
