use Rattle.decisions.proofs.Stored.{check_accepts_what_build_wrote}
use Rattle.decisions.proofs.told.check_accepts_what_build_wrote.Goals as goal

pub returns : goal.returns
returns c = check_accepts_what_build_wrote
