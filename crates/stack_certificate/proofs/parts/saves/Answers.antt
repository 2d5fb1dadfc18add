use Rattle.stack_certificate.proofs.Common.{arith, common_steps}
use Rattle.stack_certificate.proofs.PartLemmas.{saves_step}
use Rattle.stack_certificate.proofs.parts.saves.Goals as goal

pub loop-k-preserved : goal.loop-k-preserved
loop-k-preserved c = record {
  list = rw (c.push.ensures, c.store.ensures, c.new-register.ensures) (saves_step c.args.list.now c.loop-k.list c.args.fact.now c.loop-k.k c.loop-k.invariant.list);
  count = grind (arith, common_steps, c.push.ensures);
}
