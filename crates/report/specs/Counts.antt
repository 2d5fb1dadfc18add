-- Counts of choices by their reasons.
use Rattle.std.specs.Prelude.{◌+◌}
use Rattle.report.specs.declared.again.reasons.Choices.{Choices}
use Rattle.report.specs.declared.again.reasons.Reason.{Reason}
use Rattle.report.specs.declared.again.reasons.Reason.TheVariants.{Gate, Score, Turn}

-- one more choice
abbrev pub with_reason : Reason → Choices → Choices
with_reason Gate c = record { by_gate = c.by_gate + 1; by_score = c.by_score; by_turn = c.by_turn }
with_reason Score c = record { by_gate = c.by_gate; by_score = c.by_score + 1; by_turn = c.by_turn }
with_reason Turn c = record { by_gate = c.by_gate; by_score = c.by_score; by_turn = c.by_turn + 1 }
