use Rattle.log_laws.proofs.StackLemmas.{stack_heights}
use Rattle.log_laws.proofs.budgets.stack_law.Goals as goal

pub returns : goal.returns
returns c = stack_heights
