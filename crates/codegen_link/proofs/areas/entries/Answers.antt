use Rattle.codegen_link.proofs.Common.{ap, arith, FunctionFact, map-pushed}
use Rattle.codegen_link.proofs.areas.entries.Goals as goal

pub loop-fact-preserved : goal.loop-fact-preserved
loop-fact-preserved c =
    map-pushed (λ (fact : FunctionFact). fact.entry) c.as_slice-fact-items.result.now c.loop-fact.fact-index c.fact-item.result _ _ _ (omega arith)
    c.loop-fact.invariant c.in_ok-push.ensures.items (ap (λ (fact : FunctionFact). fact.entry) c.fact-item.is)
