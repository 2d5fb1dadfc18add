use Rattle.rule_failures.proofs.Common.{arith, false≢true}
use Rattle.accepted_pairs.proofs.RisingLemmas.{not_rising, rising_more}
use Rattle.rule_failures.proofs.named_sites.rises.Goals as goal

pub returns-then-facts-k : goal.returns-then-facts-k
returns-then-facts-k c = (
  λ t. absurd (false≢true t),
  λ rising. absurd (not_rising c.args.facts.now c.loop-k.k _ (omega arith) (omega arith) c.if-facts-k.true rising),
)

pub loop-k-preserved : goal.loop-k-preserved
loop-k-preserved c = rising_more c.args.facts.now c.loop-k.k _ (omega arith) (omega arith) c.if-facts-k.false c.loop-k.invariant
