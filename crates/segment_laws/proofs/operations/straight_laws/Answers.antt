use Rattle.segment_laws.proofs.FlatSteps.{step_reaches}
use Rattle.segment_laws.proofs.Traps.{step_traps}
use Rattle.segment_laws.proofs.operations.straight_laws.Goals as goal

pub returns-clause-steps : goal.returns-clause-steps
returns-clause-steps c = step_reaches

pub returns-clause-traps : goal.returns-clause-traps
returns-clause-traps c = step_traps
