use Rattle.stack_certificate.proofs.Common.{arith, common_steps}
use Rattle.stack_certificate.proofs.PartLemmas.{arguments_step}
use Rattle.stack_certificate.proofs.parts.arguments.Goals as goal

pub loop-k-preserved : goal.loop-k-preserved
loop-k-preserved c = record {
  list = rw (c.push.ensures, c.load.ensures, c.new-register.ensures) (arguments_step c.args.list.now c.loop-k.list c.args.fact.now c.args.args.now c.loop-k.k (omega arith) c.loop-k.invariant.list);
  count = grind (arith, common_steps, c.push.ensures);
}
