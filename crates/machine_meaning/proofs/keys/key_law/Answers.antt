use Rattle.machine_meaning.proofs.SiteKeys.{key_is}
use Rattle.machine_meaning.proofs.keys.key_law.Goals as goal

pub returns : goal.returns
returns c = key_is
