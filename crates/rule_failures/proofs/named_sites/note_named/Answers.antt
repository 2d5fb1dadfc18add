use Rattle.rule_failures.proofs.Common.{refl, false≢true}
use Rattle.rule_failures.proofs.NamedLemmas.{not_named, named_right, named_wrong, noted_one}
use Rattle.rule_failures.proofs.named_sites.note_named.Goals as goal

pub returns-in-None-clause-named : goal.returns-in-None-clause-named
returns-in-None-clause-named c = (
  λ t. absurd (false≢true t),
  λ h. absurd (not_named c.args.facts.now c.args.op.now c.args.site c.requires.site c.in-None.ensures.absent h),
)

pub returns-then-not-agrees-clause-named : goal.returns-then-not-agrees-clause-named
returns-then-not-agrees-clause-named c = (
  λ t. absurd (false≢true t),
  λ h. named_wrong c.args.facts.now c.args.op.now c.args.site c.in-Some.k _ c.requires.rising c.requires.site c.in-Some.ensures.found.0 c.in-Some.ensures.found.1
      c.if-not-agrees.ensures.1 h,
)

pub returns-else-not-agrees-clause-named : goal.returns-else-not-agrees-clause-named
returns-else-not-agrees-clause-named c = (
  λ t. named_right c.args.facts.now c.args.op.now c.args.site c.in-Some.k _ c.requires.rising c.requires.site c.in-Some.ensures.found.0 c.in-Some.ensures.found.1
      (c.if-not-agrees.ensures.0 refl),
  λ h. refl,
)

pub returns-else-not-agrees-clause-noted : goal.returns-else-not-agrees-clause-noted
returns-else-not-agrees-clause-noted c = λ t. noted_one c.args.facts.now c.args.seen.now c.args.op.now c.args.site c.in-Some.k c.requires.rising c.requires.seen c.requires.site
    c.in-Some.ensures.found.0 c.in-Some.ensures.found.1
