use Rattle.machine_meaning.proofs.SourceLaws.{may_run, runs}
use Rattle.machine_meaning.proofs.sources.running_law.Goals as goal

pub returns-clause-may_run : goal.returns-clause-may_run
returns-clause-may_run c = may_run

pub returns-clause-runs : goal.returns-clause-runs
returns-clause-runs c = runs
