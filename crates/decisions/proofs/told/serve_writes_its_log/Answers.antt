use Rattle.decisions.proofs.Logs.{serve_writes_its_log}
use Rattle.decisions.proofs.told.serve_writes_its_log.Goals as goal

pub returns : goal.returns
returns c = serve_writes_its_log
