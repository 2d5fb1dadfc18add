use Rattle.std.proofs.Common.{refl}
use Rattle.hoist_rules.proofs.examples.arguments_go_before.Goals as goal

pub returns-clause-several : goal.returns-clause-several
returns-clause-several c = refl

pub returns-clause-nested : goal.returns-clause-nested
returns-clause-nested c = refl
