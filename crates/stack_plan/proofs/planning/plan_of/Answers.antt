use Rattle.stack_plan.proofs.Common.{◌∙◌, map, ap, FlatFunction, weight_of, IsGraphOf}
use Rattle.flat_code.specs.ProgramView.{program_code}
use Rattle.stack_plan.proofs.planning.plan_of.Goals as goal

pub returns-clause-enough : goal.returns-clause-enough
returns-clause-enough c =
    let code = program_code c.args.flat.now in
    let is : IsGraphOf code c.in_ok-graph.graph = record {
      weights = c.in_ok-graph.ensures.weights ∙ (c.deref.ensures.value ∙ (c.in_ok-weights.ensures ∙ ap (map (λ (f : FlatFunction). weight_of f.sizes)) c.functions.ensures));
      tables = c.in_ok-graph.ensures.tables;
      main = c.in_ok-graph.ensures.main;
      sites = c.in_ok-graph.ensures.sites;
      rising = c.in_ok-graph.ensures.rising;
    } in
    c.in_ok-plan_of_graph.ensures.enough code is
