use Rattle.machine_meaning.proofs.Sampled.{nested_scoped, nested_stands}
use Rattle.machine_meaning.proofs.lowering.sample_stands.Goals as goal

pub returns-clause-scoped : goal.returns-clause-scoped
returns-clause-scoped c = nested_scoped

pub returns-clause-stands : goal.returns-clause-stands
returns-clause-stands c = nested_stands
