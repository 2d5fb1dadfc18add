use Rattle.std.proofs.Common.{refl, arith}
use Rattle.thread_waits.proofs.NeedBounds.{unused_more}
use Rattle.thread_waits.proofs.needs.unused_of.Goals as goal

pub loop-resource-init : goal.loop-resource-init
loop-resource-init c = record { eight = refl; is = λ r h. absurd (omega arith); within = λ r h. absurd (omega arith) }

pub loop-resource-preserved : goal.loop-resource-preserved
loop-resource-preserved c =
    unused_more _ _ _ _ _ _ c.loop-resource.invariant c.loop-resource-test.true c.cap.ensures c.used.ensures.use_is c.used.ensures.within

pub returns : goal.returns
returns c = record { is = λ r below. c.loop-resource.invariant.is r (omega arith); within = λ r below. c.loop-resource.invariant.within r (omega arith) }
