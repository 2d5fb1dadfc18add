use Rattle.pair_commands.proofs.Common.{◌<◌, ◌∙◌, ℕ, List, length, sym, subst, AllByRecursion, IsStrictlyIncreasing, program_tree, lowered, GraphSite, CallGraphState}
use Rattle.pair_commands.proofs.Analyses.{callers-there, back-rises, functions-count, same-names}
use Rattle.pair_commands.proofs.graph_command.text_of.Goals as goal

pub analysis_text-text-requires-clause-callers : goal.analysis_text-text-requires-clause-callers
analysis_text-text-requires-clause-callers c =
    let tree = program_tree c.args.program.now in
    let graph : CallGraphState = record { weights = c.args.analysis.now.weights; tables = tree.tables; sites = c.args.analysis.now.sites.items; main = tree.main } in
    let below = callers-there (lowered tree) graph c.requires.planned.graph_is in
    let counted = subst (λ (n : ℕ). AllByRecursion (λ (site : GraphSite). site.caller < n) graph.sites) (sym (functions-count c.functions.result.now tree c.functions.ensures)) below in
    subst (λ (sites : List GraphSite). AllByRecursion (λ (site : GraphSite). site.caller < length c.functions.result.now) sites) (sym c.as_slice-3.ensures.value) counted

pub analysis_text-text-requires-clause-back : goal.analysis_text-text-requires-clause-back
analysis_text-text-requires-clause-back c =
    let tree = program_tree c.args.program.now in
    let graph : CallGraphState = record { weights = c.args.analysis.now.weights; tables = tree.tables; sites = c.args.analysis.now.sites.items; main = tree.main } in
    subst IsStrictlyIncreasing (sym (c.as_slice-4.ensures ∙ c.requires.planned.back_is)) (back-rises (lowered tree) graph c.requires.planned.graph_is)

pub returns-in-Ok : goal.returns-in-Ok
returns-in-Ok c =
    let tree = program_tree c.args.program.now in
    let names = same-names c.functions.result.now tree c.functions.ensures in
    record {
      graph = record { weights = c.args.analysis.now.weights; tables = tree.tables; sites = c.args.analysis.now.sites.items; main = tree.main };
      back = c.args.analysis.now.back;
      plan = record { checkpointed = c.args.analysis.now.checkpointed; bounds = c.args.analysis.now.bounds };
      placed = c.requires.planned;
      lines = rw (names, c.as_slice.ensures, c.as_slice-2.ensures, c.as_slice-3.ensures.value, c.as_slice-4.ensures, c.as_slice-5.ensures) at c.in-Ok.ensures;
    }
