use Rattle.workload.proofs.Built.{workload_fits}
use Rattle.workload.proofs.size_law.workload_is_built.Goals as goal

pub returns : goal.returns
returns c = workload_fits
