use Rattle.schedule_rows.proofs.Known.{knows_taken}
use Rattle.schedule_rows.proofs.needs.taken.Goals as goal

pub returns-in-Some-clause-known : goal.returns-in-Some-clause-known
returns-in-Some-clause-known g c = knows_taken _ _ _ c.in-Some.ensures.taken c.requires.known
