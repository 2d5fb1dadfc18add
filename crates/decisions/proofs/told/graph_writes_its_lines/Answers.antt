use Rattle.decisions.proofs.BytesAreTexts.{graph_writes_its_lines}
use Rattle.decisions.proofs.told.graph_writes_its_lines.Goals as goal

pub returns : goal.returns
returns c = graph_writes_its_lines
