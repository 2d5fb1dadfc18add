use Rattle.std.proofs.Common.{refl}
use Rattle.hoist_rules.proofs.examples.indexes_go_before.Goals as goal

pub returns-clause-index : goal.returns-clause-index
returns-clause-index c = refl

pub returns-clause-call : goal.returns-clause-call
returns-clause-call c = refl

pub returns-clause-whole : goal.returns-clause-whole
returns-clause-whole c = refl
