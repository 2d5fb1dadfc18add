use Rattle.decisions.proofs.Auditing.{audit_words_due}
use Rattle.decisions.proofs.due.audit_is_due.Goals as goal

pub returns : goal.returns
returns c = audit_words_due
