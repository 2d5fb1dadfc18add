use Rattle.log_laws.proofs.RoomLemmas.{first_roomy}
use Rattle.log_laws.proofs.LogLemmas.{enough_first_chunks}
use Rattle.log_laws.proofs.budgets.certificate_chunks_law.Goals as goal

pub returns : goal.returns
returns c = record {
  roomy = λ g valid. first_roomy g valid;
  enough = enough_first_chunks;
}
