use Rattle.source_runs.proofs.Common.{◌<◌, length, arith, ◌∙◌, get_or_read}
use Rattle.source_runs.proofs.interpreter.Interpreter.local_start.Goals as goal

pub index-requires : goal.index-requires
index-requires c = omega (arith, c.layout.ensures.placed.count, c.requires.named)

pub returns : goal.returns
returns c =
    let starts = c.layout.result.now.starts.items in
    let within : c.args.x < length starts = omega (arith, c.layout.ensures.placed.count, c.requires.named) in
    get_or_read starts c.args.x c.index.result.now within c.index.ensures 0 ∙ c.layout.ensures.placed.each c.args.x c.requires.named
