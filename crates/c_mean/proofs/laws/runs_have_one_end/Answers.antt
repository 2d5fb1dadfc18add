use Rattle.c_mean.proofs.WorldLemmas.{one_run, one_schedule}
use Rattle.c_mean.proofs.laws.runs_have_one_end.Goals as goal

pub returns-clause-run : goal.returns-clause-run
returns-clause-run c = one_run

pub returns-clause-schedule : goal.returns-clause-schedule
returns-clause-schedule c = one_schedule
