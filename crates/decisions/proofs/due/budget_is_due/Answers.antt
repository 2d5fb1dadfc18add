use Rattle.decisions.proofs.DueCommands.{budget_words_due}
use Rattle.decisions.proofs.due.budget_is_due.Goals as goal

pub returns : goal.returns
returns c = budget_words_due
