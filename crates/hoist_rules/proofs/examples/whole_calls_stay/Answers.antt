use Rattle.std.proofs.Common.{refl}
use Rattle.hoist_rules.proofs.examples.whole_calls_stay.Goals as goal

pub returns-clause-set : goal.returns-clause-set
returns-clause-set c = refl

pub returns-clause-called : goal.returns-clause-called
returns-clause-called c = refl

pub returns-clause-returned : goal.returns-clause-returned
returns-clause-returned c = refl
