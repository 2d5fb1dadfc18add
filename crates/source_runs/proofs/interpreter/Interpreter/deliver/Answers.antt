use Rattle.source_runs.proofs.Common.{◌∷◌, [], ap, sym, ◌∙◌, Running, delivered_or, tree_of, running_of}
use Rattle.c_mean.specs.Steps as steps
use Rattle.c_mean.specs.ToDo as todo
use Rattle.source_runs.proofs.interpreter.Interpreter.deliver.Goals as goal

pub returns-in-Ok-clause-came : goal.returns-in-Ok-clause-came
returns-in-Ok-clause-came c = sym (ap (delivered_or (running_of (tree_of c.args.self.now) c.args.thread.now c.args.globals.now.items)) c.in-Ok.ensures.stored)

pub returns-in-Err-clause-came : goal.returns-in-Err-clause-came
returns-in-Err-clause-came c =
    let running = running_of (tree_of c.args.self.now) c.args.thread.now c.args.globals.now.items in
    ap (λ (r : Running). steps.to_do r (todo.Fail c.in-Err.kind ∷ [])) c.in-Err.ensures.kept ∙ sym (ap (delivered_or running) c.in-Err.ensures.stored)
