use Rattle.std.proofs.lemmas.Grind.{common_steps}
use Rattle.call_graph.proofs.Common.{arith, filter_map-append}
use Rattle.call_graph.proofs.flat_calls.push_sites.Goals as goal

pub loop-op-preserved : goal.loop-op-preserved
loop-op-preserved c = grind (arith, common_steps, filter_map-append)
