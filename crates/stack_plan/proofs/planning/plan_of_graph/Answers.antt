use Rattle.stack_plan.proofs.Common.{subst, IsCallGraph, refusal_from}
use Rattle.stack_plan.proofs.Enough.{not-refused, enough}
use Rattle.stack_plan.proofs.planning.plan_of_graph.Goals as goal

pub returns-clause-enough : goal.returns-clause-enough
returns-clause-enough c =
    λ code is. enough code c.args.graph c.deref.result.now c.args.max_path c.in_ok-plan.plan is (subst IsCallGraph c.graph.view_is c.graph.invariant) c.in_ok-plan.ensures.placed
    (not-refused (refusal_from c.args.max_path 0 c.args.graph.weights) c.in_ok-plan.plan c.in_ok-plan.ensures.refused)
