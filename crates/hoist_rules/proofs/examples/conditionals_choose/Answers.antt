use Rattle.std.proofs.Common.{refl}
use Rattle.hoist_rules.proofs.examples.conditionals_choose.Goals as goal

pub returns-clause-both : goal.returns-clause-both
returns-clause-both c = refl

pub returns-clause-condition : goal.returns-clause-condition
returns-clause-condition c = refl
