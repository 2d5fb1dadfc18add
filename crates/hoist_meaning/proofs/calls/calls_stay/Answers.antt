use Rattle.hoist_meaning.proofs.Numbers.{each_stays, many_stay}
use Rattle.hoist_meaning.proofs.calls.calls_stay.Goals as goal

pub returns-clause-each : goal.returns-clause-each
returns-clause-each c = each_stays

pub returns-clause-many : goal.returns-clause-many
returns-clause-many c = many_stay
