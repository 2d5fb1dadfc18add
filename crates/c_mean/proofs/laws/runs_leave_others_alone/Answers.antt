use Rattle.c_mean.proofs.WorldLemmas.{alone_after, alone_at_cut}
use Rattle.c_mean.proofs.laws.runs_leave_others_alone.Goals as goal

pub returns-clause-run : goal.returns-clause-run
returns-clause-run c = alone_after

pub returns-clause-cut : goal.returns-clause-cut
returns-clause-cut c = alone_at_cut
