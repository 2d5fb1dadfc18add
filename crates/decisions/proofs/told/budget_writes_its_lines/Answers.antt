use Rattle.decisions.proofs.BytesAreTexts.{budget_writes_its_lines}
use Rattle.decisions.proofs.told.budget_writes_its_lines.Goals as goal

pub returns : goal.returns
returns c = budget_writes_its_lines
