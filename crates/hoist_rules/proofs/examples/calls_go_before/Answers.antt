use Rattle.std.proofs.Common.{refl}
use Rattle.hoist_rules.proofs.examples.calls_go_before.Goals as goal

pub returns-clause-in_argument : goal.returns-clause-in_argument
returns-clause-in_argument c = refl

pub returns-clause-in_return : goal.returns-clause-in_return
returns-clause-in_return c = refl
