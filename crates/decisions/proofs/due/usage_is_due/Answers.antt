use Rattle.decisions.proofs.DueCommands.{usage_due}
use Rattle.decisions.proofs.due.usage_is_due.Goals as goal

pub returns : goal.returns
returns c = usage_due
