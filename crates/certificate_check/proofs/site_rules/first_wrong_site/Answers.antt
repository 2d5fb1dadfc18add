use Rattle.certificate_check.proofs.Common.{◌≤◌, length, ap, subst, arith, Some, None, function_at, program_code, IsLeastSite}
use Rattle.certificate_check.proofs.SiteLemmas.{needs_first, bounds_first}
use Rattle.certificate_check.proofs.site_rules.first_wrong_site.Goals as goal

pub returns-in-Some : goal.returns-in-Some
returns-in-Some c =
    let code = program_code c.args.flat.now in
    let le : length (function_at (program_code c.args.flat.now) c.args.function).ops ≤ c.loop-op.op = omega (arith, ap (λ f. length f.ops) c.function_of.ensures.value) in
    let h : IsLeastSite c.args.rule (program_code c.args.flat.now) c.args.certificate.now c.args.function c.loop-op.op (Some c.in-Some.site) =
    subst (λ r. IsLeastSite c.args.rule (program_code c.args.flat.now) c.args.certificate.now c.args.function c.loop-op.op r) c.in-Some.is c.loop-op.invariant in
    record {
      need = λ e. needs_first code c.args.certificate.now c.args.function c.loop-op.op (Some c.in-Some.site) le (subst (λ r. IsLeastSite r (program_code c.args.flat.now) c.args.certificate.now c.args.function c.loop-op.op (Some c.in-Some.site)) e h);
      bound = λ e. bounds_first code c.args.certificate.now c.args.function c.loop-op.op (Some c.in-Some.site) le (subst (λ r. IsLeastSite r (program_code c.args.flat.now) c.args.certificate.now c.args.function c.loop-op.op (Some c.in-Some.site)) e h);
    }

pub returns-in-None : goal.returns-in-None
returns-in-None c =
    let code = program_code c.args.flat.now in
    let le : length (function_at (program_code c.args.flat.now) c.args.function).ops ≤ c.loop-op.op = omega (arith, ap (λ f. length f.ops) c.function_of.ensures.value) in
    let h : IsLeastSite c.args.rule (program_code c.args.flat.now) c.args.certificate.now c.args.function c.loop-op.op None =
    subst (λ r. IsLeastSite c.args.rule (program_code c.args.flat.now) c.args.certificate.now c.args.function c.loop-op.op r) c.in-None.is c.loop-op.invariant in
    record {
      need = λ e. needs_first code c.args.certificate.now c.args.function c.loop-op.op None le (subst (λ r. IsLeastSite r (program_code c.args.flat.now) c.args.certificate.now c.args.function c.loop-op.op None) e h);
      bound = λ e. bounds_first code c.args.certificate.now c.args.function c.loop-op.op None le (subst (λ r. IsLeastSite r (program_code c.args.flat.now) c.args.certificate.now c.args.function c.loop-op.op None) e h);
    }
