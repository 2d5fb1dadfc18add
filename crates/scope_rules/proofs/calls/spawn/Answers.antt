use Rattle.scope_rules.proofs.Least.{least_of_append}
use Rattle.scope_rules.proofs.calls.spawn.Goals as goal

pub returns-in_ok-argument-in-Some-clause-faults : goal.returns-in_ok-argument-in-Some-clause-faults
returns-in_ok-argument-in-Some-clause-faults c = rw (c.in-Some.ensures.cases.0, least_of_append) (cc (c.in_ok-values-in-Some.ensures.faults, c.in_ok-function-in-Some.ensures.faults))
