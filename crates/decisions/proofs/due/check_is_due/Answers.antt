use Rattle.decisions.proofs.DueCommands.{check_words_due}
use Rattle.decisions.proofs.due.check_is_due.Goals as goal

pub returns : goal.returns
returns c = check_words_due
