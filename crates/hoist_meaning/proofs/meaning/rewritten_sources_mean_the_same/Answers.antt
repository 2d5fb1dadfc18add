use Rattle.hoist_meaning.proofs.Plan.{hoisting_keeps_meaning}
use Rattle.hoist_meaning.proofs.meaning.rewritten_sources_mean_the_same.Goals as goal

pub returns : goal.returns
returns c = hoisting_keeps_meaning
