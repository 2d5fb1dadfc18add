use Rattle.c_mean.proofs.CallLemmas.{known, counted}
use Rattle.c_mean.proofs.laws.modelled_calls_are_known.Goals as goal

pub returns-clause-known : goal.returns-clause-known
returns-clause-known c = known

pub returns-clause-counted : goal.returns-clause-counted
returns-clause-counted c = counted
