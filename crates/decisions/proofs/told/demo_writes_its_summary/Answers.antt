use Rattle.decisions.proofs.Logs.{demo_writes_its_summary}
use Rattle.decisions.proofs.told.demo_writes_its_summary.Goals as goal

pub returns : goal.returns
returns c = demo_writes_its_summary
