use Rattle.certificate_check.proofs.Common.{◌≡◌, ℕ, subst, arith, program_code, Holds, HoldBelow, IsFirstSpot}
use Rattle.accepted_pairs.proofs.ReadableLemmas.{readable}
use Rattle.rule_failures.proofs.RangeLemmas.{counts_of, first_rule}
use Rattle.certificate_check.proofs.BelowLemmas.{below_next, valid_from, failure_from}
use Rattle.certificate_check.proofs.first.first_behind_fit.Goals as goal

pub tables_of-requires : goal.tables_of-requires
tables_of-requires c = (counts_of (program_code c.args.flat.now) c.args.image.now c.args.certificate.now c.requires.below).0

pub first_in_rule-requires-clause-readable : goal.first_in_rule-requires-clause-readable
first_in_rule-requires-clause-readable c = readable (program_code c.args.flat.now) c.args.image.now c.args.certificate.now c.requires.few
    (λ f i. first_rule (program_code c.args.flat.now) c.args.image.now c.args.certificate.now 2 f i (omega arith) c.requires.below)

pub returns-in-Some : goal.returns-in-Some
returns-in-Some c = failure_from (program_code c.args.flat.now) c.args.image.now c.args.certificate.now c.loop-rule.rule c.in-Some.spot c.loop-rule.invariant (subst (λ r. IsFirstSpot (λ f i. Holds (program_code c.args.flat.now) c.args.image.now c.args.certificate.now c.loop-rule.rule f i) r) c.in-Some.is c.in_ok-spot.ensures)

pub loop-rule-preserved : goal.loop-rule-preserved
loop-rule-preserved c = below_next (program_code c.args.flat.now) c.args.image.now c.args.certificate.now c.loop-rule.rule c.loop-rule.invariant (subst (λ r. IsFirstSpot (λ f i. Holds (program_code c.args.flat.now) c.args.image.now c.args.certificate.now c.loop-rule.rule f i) r) c.in_default.is c.in_ok-spot.ensures)

pub returns : goal.returns
returns c =
    let end : c.loop-rule.rule ≡ 13 = omega arith in
    valid_from (program_code c.args.flat.now) c.args.image.now c.args.certificate.now (subst (λ (r : ℕ). HoldBelow (program_code c.args.flat.now) c.args.image.now c.args.certificate.now r) end c.loop-rule.invariant)
