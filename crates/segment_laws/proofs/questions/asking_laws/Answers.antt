use Rattle.segment_laws.proofs.AskSteps.{step_asks, step_starts, answered, started}
use Rattle.segment_laws.proofs.questions.asking_laws.Goals as goal

pub returns-clause-calls : goal.returns-clause-calls
returns-clause-calls c = step_asks

pub returns-clause-starts : goal.returns-clause-starts
returns-clause-starts c = step_starts

pub returns-clause-answered : goal.returns-clause-answered
returns-clause-answered c = answered

pub returns-clause-started : goal.returns-clause-started
returns-clause-started c = started
