use Rattle.decisions.proofs.DueCommands.{graph_words_due}
use Rattle.decisions.proofs.due.graph_is_due.Goals as goal

pub returns : goal.returns
returns c = graph_words_due
