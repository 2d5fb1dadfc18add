use Rattle.std.proofs.Common.{arith}
use Rattle.resource_monitor.proofs.GateLemmas.{pressures_from_each}
use Rattle.resource_monitor.proofs.monitor.readings.Goals as goal

pub returns-clause-value : goal.returns-clause-value
returns-clause-value g c =
    pressures_from_each _ _ _ _ (omega (arith, c.requires.eight)) (omega (arith, c.told-uses, c.requires.eight)) (omega (arith, c.told-caps, c.requires.eight))
    (λ k h. c.loop-place.invariant.1 k (omega (arith, c.requires.eight)))
