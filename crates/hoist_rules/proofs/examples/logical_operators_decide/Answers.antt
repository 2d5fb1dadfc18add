use Rattle.std.proofs.Common.{refl}
use Rattle.hoist_rules.proofs.examples.logical_operators_decide.Goals as goal

pub returns-clause-conjunction : goal.returns-clause-conjunction
returns-clause-conjunction c = refl

pub returns-clause-left_alone : goal.returns-clause-left_alone
returns-clause-left_alone c = refl

pub returns-clause-disjunction : goal.returns-clause-disjunction
returns-clause-disjunction c = refl
