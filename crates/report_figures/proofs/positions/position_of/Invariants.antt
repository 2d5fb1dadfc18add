use Rattle.std.proofs.Common.{◌≡◌, ◌+◌, ◌≤◌, take}
use Rattle.report_figures.specs.Positions.{position_after}
use Rattle.report_figures.proofs.positions.position_of.Given as goal

-- the position behind the bytes so far; line and column are at most one more than these are many
abbrev pub invariant-loop-byte : goal.invariant-loop-byte
invariant-loop-byte l =
    (l.position ≡ position_after (take l.byte-index (take l.at l.text)))
    × (l.position.line ≤ l.byte-index + 1)
    × (l.position.column ≤ l.byte-index + 1)
