use Rattle.decisions.proofs.DueCommands.{build_words_due}
use Rattle.decisions.proofs.due.build_is_due.Goals as goal

pub returns : goal.returns
returns c = build_words_due
