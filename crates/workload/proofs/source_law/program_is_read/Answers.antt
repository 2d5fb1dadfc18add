use Rattle.workload.proofs.Reading.{program_read}
use Rattle.workload.proofs.source_law.program_is_read.Goals as goal

pub returns : goal.returns
returns c = program_read
