use Rattle.machine_meaning.proofs.FirstLemmas.{rests-from}
use Rattle.machine_meaning.proofs.roots.rest_root_law.Goals as goal

pub returns : goal.returns
returns c = rests-from
