use Rattle.one_plan.proofs.LoweredGraph.{lowered-graph}
use Rattle.one_plan.proofs.OnePlan.{graphs-are-one, placements-are-one}
use Rattle.one_plan.proofs.laws.one_plan_law.Goals as goal

pub returns-clause-graph : goal.returns-clause-graph
returns-clause-graph c = graphs-are-one

pub returns-clause-lowered : goal.returns-clause-lowered
returns-clause-lowered c = λ program graph scoped is. lowered-graph program scoped graph is

pub returns-clause-placement : goal.returns-clause-placement
returns-clause-placement c = placements-are-one
