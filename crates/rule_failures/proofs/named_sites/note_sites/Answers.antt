use Rattle.rule_failures.proofs.Common.{refl, arith, false≢true, slice_get_within}
use Rattle.rule_failures.proofs.NamedLemmas.{one_unnamed, named_more, noted_more}
use Rattle.rule_failures.proofs.named_sites.note_sites.Goals as goal

pub returns-then-not-note_site-clause-named : goal.returns-then-not-note_site-clause-named
returns-then-not-note_site-clause-named c = (
  λ t. absurd (false≢true t),
  λ all. one_unnamed c.args.facts.now c.args.ops.now c.loop-op.op-index c.op-item.result (omega arith) c.op-item.is c.if-not-note_site.ensures.named.1 all,
)

pub loop-op-preserved : goal.loop-op-preserved
loop-op-preserved c = record {
  named = named_more c.args.facts.now c.args.ops.now c.loop-op.op-index c.op-item.result (omega arith) c.op-item.is (c.if-not-note_site.ensures.named.0 refl) c.loop-op.invariant.named;
  noted = λ k lt. noted_more _ c.args.ops.now c.loop-op.op-index c.op-item.result _ _ _ (omega arith) c.op-item.is (c.if-not-note_site.ensures.noted refl k lt) (c.loop-op.invariant.noted k lt);
}

pub returns-clause-named : goal.returns-clause-named
returns-clause-named c = (
  λ _. λ k op e. let lt = slice_get_within c.args.ops.now k op e in c.loop-op.invariant.named k op (omega arith) e,
  λ _. refl,
)
