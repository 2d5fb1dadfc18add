use Rattle.decisions.proofs.Common.{decided_by, text_same}
use Rattle.decisions.proofs.Decisions.{begins_decided, decimal_decided}
use Rattle.decisions.proofs.texts.texts_are_decided.Goals as goal

pub returns-clause-same : goal.returns-clause-same
returns-clause-same c = text_same

pub returns-clause-front : goal.returns-clause-front
returns-clause-front c = begins_decided

pub returns-clause-number : goal.returns-clause-number
returns-clause-number c = λ text bound. decided_by (λ b. (b.0, b.1.0, b.1.1)) (λ b. (b.0, (b.1, b.2))) (decimal_decided text bound)
