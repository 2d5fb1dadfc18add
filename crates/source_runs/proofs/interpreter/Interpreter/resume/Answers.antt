use Rattle.source_runs.proofs.interpreter.Interpreter.resume.Goals as goal

pub returns-clause-goes_on : goal.returns-clause-goes_on
returns-clause-goes_on c = c.deliver.ensures.came
