use Rattle.source_runs.proofs.Common.{[], ap, sym, ◌∙◌, Ok, expr_tree, Value, value, with_first, rows_in}
use Rattle.source_runs.proofs.Ranges.{values-two}
use Rattle.source_runs.proofs.calls.two.Goals as goal

pub returns : goal.returns
returns c =
    let names = rows_in c.args.names.now in
    let globals = rows_in c.args.globals.now in
    values-two names globals c.args.arguments.now c.index-arguments-0.result c.index-arguments-1.result c.requires.count c.index-arguments-0.is c.index-arguments-1.is
    ∙ (ap (λ (v : Value). with_first v (with_first (value names globals (expr_tree c.index-arguments-1.result)) (Ok []))) (sym c.in_ok-first.ensures)
    ∙ ap (λ (v : Value). with_first (Ok c.in_ok-first.first) (with_first v (Ok []))) (sym c.in_ok-second.ensures))
