use Rattle.log_laws.proofs.BoundLemmas.{holds_at_most}
use Rattle.log_laws.proofs.budgets.chain_bound_law.Goals as goal

pub returns : goal.returns
returns c = λ checked budget formed is. holds_at_most checked budget formed is
