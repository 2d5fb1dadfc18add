use Rattle.std.proofs.Common.{refl}
use Rattle.hoist_rules.proofs.examples.tables_go_before.Goals as goal

pub returns-clause-statement : goal.returns-clause-statement
returns-clause-statement c = refl

pub returns-clause-inside : goal.returns-clause-inside
returns-clause-inside c = refl
