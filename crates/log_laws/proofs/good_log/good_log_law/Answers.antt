use Rattle.log_laws.proofs.Good.{good}
use Rattle.log_laws.proofs.good_log.good_log_law.Goals as goal

pub returns : goal.returns
returns c' = good
