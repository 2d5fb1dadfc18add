use Rattle.stack_build.proofs.Common.{◌≡◌, ◌∙◌, sym, ap, subst, program_tree, CallGraphState, lowered, IsPlacedBy}
use Rattle.stack_build.proofs.Together.{same-graph}
use Rattle.stack_build.proofs.analysis.analyse.Goals as goal

pub returns-clause-planned : goal.returns-clause-planned
returns-clause-planned c =
    let p = program_tree c.args.program.now in
    let planned = c.in_ok-planned.planned in
    let graph = c.in_ok-graph.graph in
    let is : planned.graph ≡ graph = c.in_ok-planned.ensures.graph in
    let placed : IsPlacedBy (lowered p) c.args.options.max_path graph planned.back planned.plan =
    record { graph_is = c.in_ok-graph.ensures; back_is = c.in_ok-planned.ensures.back; placed = c.in_ok-planned.ensures.placed } in
    let same = same-graph planned.graph c.new.result p.tables c.into_lists-weights.result.2.items p.main
    (c.new.ensures ∙ c.into_lists-weights.ensures.weights)
    (sym (ap (λ (g : CallGraphState). g.tables) is ∙ c.in_ok-graph.ensures.tables))
    c.into_lists-weights.ensures.sites
    (sym (ap (λ (g : CallGraphState). g.main) is ∙ c.in_ok-graph.ensures.main)) in
    subst (λ (g : CallGraphState). IsPlacedBy (lowered p) c.args.options.max_path g planned.back planned.plan) (sym (same ∙ is)) placed

pub returns-clause-tables : goal.returns-clause-tables
returns-clause-tables c =
    c.into_lists-weights.ensures.tables ∙ (ap (λ (g : CallGraphState). g.tables) c.in_ok-planned.ensures.graph ∙ c.in_ok-graph.ensures.tables)

pub returns-clause-enough : goal.returns-clause-enough
returns-clause-enough c = c.in_ok-planned.ensures.enough (lowered (program_tree c.args.program.now)) c.in_ok-graph.ensures
