use Rattle.schedule_audit.proofs.Common.{◌≡◌, ℤ, w32, FitsSigned, rules, false, true, Some, Result, Ok, sym, ap, ◌∙◌, subst, to_z-of_z, err_from_is_err_and, ◌↔◌, IsTrue, Entry, Happening, End, Failure, Ruling, HasProceeded, IsPut, RulesWithin, Kept}
use Rattle.schedule_reading.proofs.Outs.{out_ruled}
use Rattle.schedule_audit.proofs.OtherOuts.{out_late, out_other}
use Rattle.schedule_audit.proofs.segments.out.Goals as goal

pub returns-in_err-happening : goal.returns-in_err-happening
returns-in_err-happening g c = λ given state stands end_is.
    let p = err_from_is_err_and c.from_residual.result c.from_residual.ensures.1 in
    subst (λ (r : Result Ruling Failure). RulesWithin given state c.args.reading.now (Entry.Out c.args.thread c.args.value) c.proceed.new.reading r) (sym p.1) (p.2 ∙ (c.in_err-happening.ensures.proceeds given state stands).happened)

pub returns-in-OutOfSteps : goal.returns-in-OutOfSteps
returns-in-OutOfSteps g c = λ given state stands end_is.
    out_late given state c.args.reading.now c.args.under c.proceed.new.reading.core c.proceed.new.under stands end_is c.args.thread c.args.value
    (subst (λ (h : Happening). HasProceeded given state c.args.reading.now.core c.args.under c.proceed.new.reading.core c.proceed.new.under (Ok h)) c.in-OutOfSteps.is (c.in_ok-happening.ensures.proceeds given state stands))

pub returns-in-Puts : goal.returns-in-Puts
returns-in-Puts g c = λ given state stands end_is.
    let came = subst (λ (h : Happening). HasProceeded given state c.args.reading.now.core c.args.under c.proceed.new.reading.core c.proceed.new.under (Ok h)) c.in-Puts.is (c.in_ok-happening.ensures.proceeds given state stands) in
    let same = c.reading.view_is ∙ c.proceed.ensures.rest in
    let fits : FitsSigned w32 c.args.value = search rules in
    let as_read = subst (λ (v : ℤ). IsTrue c.is_output.result ↔ IsPut c.reading.inside.end c.proceed.new.under.choice.thread.number c.in-Puts.word c.args.thread v) (to_z-of_z w32 c.args.value fits) c.is_output.ensures in
    let is = subst (λ (e : End). IsTrue c.is_output.result ↔ IsPut e c.proceed.new.under.choice.thread.number c.in-Puts.word c.args.thread c.args.value) (ap (λ (x : Kept). x.end) same) as_read in
    subst (λ (n : Kept). RulesWithin given state c.args.reading.now (Entry.Out c.args.thread c.args.value) n (Ok c.ruling_of.result)) (sym (ap (λ (x : Kept). record x { under = Some c.proceed.new.under }) same))
    (subst (λ (r : Ruling). RulesWithin given state c.args.reading.now (Entry.Out c.args.thread c.args.value) (record c.args.reading.now { core = c.proceed.new.reading.core; under = Some c.proceed.new.under }) (Ok r)) (sym c.ruling_of.ensures)
    (out_ruled given state c.args.reading.now c.args.under c.proceed.new.reading.core c.proceed.new.under stands end_is c.args.thread c.args.value c.in-Puts.word came c.is_output.result
    (λ e. let put = is.0 e in (put.over, put.thread_is, put.value_is))
    (λ e put. let yes : c.is_output.result ≡ true = is.1 (record { over = put.0; thread_is = put.1; value_is = put.2 }) in let no : true ≡ false = sym yes ∙ e in absurd (cc))))

pub returns-in_default : goal.returns-in_default
returns-in_default g c = λ given state stands end_is.
    out_other given state c.args.reading.now c.args.under c.proceed.new.reading.core c.proceed.new.under stands end_is c.args.thread c.args.value c.in_ok-happening.happening (c.in_ok-happening.ensures.proceeds given state stands)
    c.in_default.not-Puts c.in_default.not-OutOfSteps (λ e. c.proceed.ensures.alone (c.in_ok-happening.was ∙ ap Ok e))
