use Rattle.std.proofs.Common.{arith}
use Rattle.blocking_graph.proofs.AverageLemmas.{map_from_each}
use Rattle.blocking_graph.proofs.averages.first_averages_of.Goals as goal

pub returns : goal.returns
returns c =
    map_from_each _ _ _ (omega (arith, c.told-samples)) (λ k h. c.loop-resource.invariant.1 k (omega (arith, c.told-samples)))
