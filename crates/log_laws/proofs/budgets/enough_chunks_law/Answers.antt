use Rattle.log_laws.proofs.RunLemmas.{enough}
use Rattle.log_laws.proofs.budgets.enough_chunks_law.Goals as goal

pub returns : goal.returns
returns c = enough
