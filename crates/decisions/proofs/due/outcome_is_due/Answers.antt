use Rattle.decisions.proofs.Every.{words_due}
use Rattle.decisions.proofs.due.outcome_is_due.Goals as goal

pub returns : goal.returns
returns c = words_due
