use Rattle.log_laws.proofs.LogLemmas.{enough_in_logs}
use Rattle.log_laws.proofs.budgets.enough_in_logs_law.Goals as goal

pub returns : goal.returns
returns c = enough_in_logs
