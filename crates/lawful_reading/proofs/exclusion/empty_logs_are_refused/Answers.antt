use Rattle.lawful_reading.proofs.Refused.{empty}
use Rattle.lawful_reading.proofs.exclusion.empty_logs_are_refused.Goals as goal

pub returns : goal.returns
returns c = empty
