use Rattle.std.proofs.Common.{refl}
use Rattle.hoist_rules.proofs.examples.spawned_function_stays.Goals as goal

pub returns-clause-name : goal.returns-clause-name
returns-clause-name c = refl

pub returns-clause-call : goal.returns-clause-call
returns-clause-call c = refl
