use Rattle.decisions.proofs.Graphs.{a_graph}
use Rattle.decisions.proofs.Bounds.{a_placement}
use Rattle.decisions.proofs.placements.placement_is_there.Goals as goal

pub returns-clause-graph : goal.returns-clause-graph
returns-clause-graph c = λ code distinct. let g = a_graph code distinct in (g.graph, g.is)

pub returns-clause-placement : goal.returns-clause-placement
returns-clause-placement c = λ graph max_path kept. let p = a_placement graph max_path kept in (p.plan, p.is)
