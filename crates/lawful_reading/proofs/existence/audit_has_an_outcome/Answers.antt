use Rattle.lawful_reading.proofs.Found.{some_judgement}
use Rattle.lawful_reading.proofs.OneJudgement.{one_judgement}
use Rattle.lawful_reading.proofs.existence.audit_has_an_outcome.Goals as goal

pub returns : goal.returns
returns c = record { some = some_judgement; one = one_judgement }
