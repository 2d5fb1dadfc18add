use Rattle.machine_meaning.proofs.SourceLaws.{source}
use Rattle.machine_meaning.proofs.sources.source_law.Goals as goal

pub returns : goal.returns
returns c = source
