use Rattle.decisions.proofs.BytesAreTexts.{check_writes_accepted}
use Rattle.decisions.proofs.told.check_writes_accepted.Goals as goal

pub returns : goal.returns
returns c = check_writes_accepted
