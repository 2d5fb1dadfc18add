use Rattle.hoist_rules.proofs.Common.{then_all}
use Rattle.hoist_rules.proofs.functions.hoist_body.Goals as goal

pub returns : goal.returns
unfolding then_all
returns g c = c.in_ok-statements.ensures.statements
