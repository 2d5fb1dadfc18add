use Rattle.machine_meaning.proofs.Meaning.{resumed_means, begun_means}
use Rattle.machine_meaning.proofs.lowering.lowering_keeps_meaning.Goals as goal

pub returns-clause-resumed : goal.returns-clause-resumed
returns-clause-resumed c = resumed_means

pub returns-clause-begun : goal.returns-clause-begun
returns-clause-begun c = begun_means
