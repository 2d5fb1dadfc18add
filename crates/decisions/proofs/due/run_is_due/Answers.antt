use Rattle.decisions.proofs.DueCommands.{run_words_due}
use Rattle.decisions.proofs.due.run_is_due.Goals as goal

pub returns : goal.returns
returns c = run_words_due
