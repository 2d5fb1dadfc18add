use Rattle.certificate_check.proofs.Common.{refl, sym, false≢true, program_code}
use Rattle.certificate_check.proofs.SiteLemmas.{same_least, lesser_least, no_site}
use Rattle.certificate_check.proofs.site_rules.least_site.Goals as goal

pub returns-then-holds_at : goal.returns-then-holds_at
returns-then-holds_at c =
    same_least c.args.rule (program_code c.args.flat.now) c.args.certificate.now c.args.function c.args.op c.operation_of-operation.result.now c.args.first c.operation_of-operation.ensures.there
    (λ site e. c.if-holds_at.ensures.0 refl) c.requires.first

pub returns-else-holds_at : goal.returns-else-holds_at
returns-else-holds_at c =
    lesser_least c.args.rule (program_code c.args.flat.now) c.args.certificate.now c.args.function c.args.op c.in-Some.site c.lesser.result c.operation_of-operation.result.now c.args.first
    c.operation_of-operation.ensures.there (sym c.in-Some.ensures) (λ h. false≢true (c.if-holds_at.ensures.1 h)) c.requires.first c.lesser.ensures

pub returns-in-None : goal.returns-in-None
returns-in-None c =
    same_least c.args.rule (program_code c.args.flat.now) c.args.certificate.now c.args.function c.args.op c.operation_of-operation.result.now c.args.first c.operation_of-operation.ensures.there
    (λ site e. absurd (no_site _ site c.in-None.ensures e)) c.requires.first
