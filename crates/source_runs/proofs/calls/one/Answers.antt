use Rattle.source_runs.proofs.Common.{rows_in}
use Rattle.source_runs.proofs.Ranges.{only-value}
use Rattle.source_runs.proofs.calls.one.Goals as goal

pub returns : goal.returns
returns c =
    only-value (rows_in c.args.names.now) (rows_in c.args.globals.now) c.args.arguments.now c.index-arguments-0.result c.evaluate.result c.requires.count c.index-arguments-0.is c.evaluate.ensures
