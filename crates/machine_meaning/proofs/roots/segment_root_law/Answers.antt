use Rattle.machine_meaning.proofs.FirstLemmas.{under-way-from}
use Rattle.machine_meaning.proofs.roots.segment_root_law.Goals as goal

pub returns : goal.returns
returns c = under-way-from
