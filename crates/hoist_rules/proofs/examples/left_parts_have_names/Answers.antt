use Rattle.std.proofs.Common.{refl}
use Rattle.hoist_rules.proofs.examples.left_parts_have_names.Goals as goal

pub returns-clause-name : goal.returns-clause-name
returns-clause-name c = refl

pub returns-clause-number : goal.returns-clause-number
returns-clause-number c = refl

pub returns-clause-parentheses : goal.returns-clause-parentheses
returns-clause-parentheses c = refl

pub returns-clause-right : goal.returns-clause-right
returns-clause-right c = refl
