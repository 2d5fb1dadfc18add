use Rattle.pair_commands.proofs.Common.{inr, refl, MatchResult-weaker, program_tree, lowered, frames-fit, GraphsProgram, Outcome, stop-follows}
use Rattle.pair_commands.proofs.graph_command.graph_program.Goals as goal

pub returns : goal.returns
returns c =
    let tree = program_tree c.args.program.now in
    let path = c.args.options.max_path in
    let analysis = c.in-Ok.analysis in
    let fit = frames-fit (lowered tree) path (record { checkpointed = analysis.checkpointed; bounds = analysis.bounds }) c.in-Ok.ensures.enough in
    MatchResult-weaker c.text_of.result c.text_of.ensures
    (λ text is. inr (fit, (text.items, is, refl)))
    (λ stop h. stop-follows (λ (o : Outcome). ⊥) (GraphsProgram path tree) stop (λ o x. absurd x) h)
