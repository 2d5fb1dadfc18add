use Rattle.schedule_log.proofs.Written.{prefix_none}
use Rattle.schedule_log.proofs.writing.put_entry.Goals as goal

pub returns-in-Err-clause-bytes : goal.returns-in-Err-clause-bytes
returns-in-Err-clause-bytes g c = prefix_none _ _
