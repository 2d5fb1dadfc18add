use Rattle.cap_text.proofs.LineLaws.{ended_lines_back}
use Rattle.cap_text.proofs.laws.lines_come_back.Goals as goal

pub returns : goal.returns
returns c = ended_lines_back
