use Rattle.c_mean.proofs.WorldLemmas.{scoped_in_range}
use Rattle.c_mean.proofs.laws.scoped_expressions_are_in_range.Goals as goal

pub returns : goal.returns
returns c = scoped_in_range
