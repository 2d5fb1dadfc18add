use Rattle.decisions.proofs.Logs.{run_writes_its_log}
use Rattle.decisions.proofs.told.run_writes_its_log.Goals as goal

pub returns : goal.returns
returns c = run_writes_its_log
