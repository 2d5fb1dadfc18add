use Rattle.decisions.proofs.Looking.{looks_at_good_lines}
use Rattle.decisions.proofs.Workload.{workload_is_good}
use Rattle.decisions.proofs.traces.good_traces_are_looked_at.Goals as goal

pub returns-clause-looked : goal.returns-clause-looked
returns-clause-looked c = looks_at_good_lines

pub returns-clause-workload : goal.returns-clause-workload
returns-clause-workload c = workload_is_good
