use Rattle.decisions.proofs.Heights.{budget_or_cycle}
use Rattle.decisions.proofs.budgets.least_budget_or_cycle.Goals as goal

pub returns : goal.returns
returns c = budget_or_cycle
