use Rattle.decisions.proofs.Audits.{audit_writes_its_judgement}
use Rattle.decisions.proofs.told.audit_writes_its_judgement.Goals as goal

pub returns : goal.returns
returns c = audit_writes_its_judgement
