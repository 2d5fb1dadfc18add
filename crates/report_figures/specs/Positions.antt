-- Lines and columns.
use Rattle.std.specs.Prelude.{ℕ, ◌+◌, ◌==◌, List, fold, if◌then◌else◌}
use Rattle.report_figures.specs.declared.positions.Position.{Position}

-- the beginning of a text
abbrev pub first_position : Position
first_position = record { line = 1; column = 1 }

-- after a line feed the next line begins; after any other byte comes the next column
abbrev pub position_behind : Position → ℕ → Position
position_behind p byte = if byte == 10 then record { line = p.line + 1; column = 1 } else record { line = p.line; column = p.column + 1 }

-- the position after these first bytes of a text
abbrev pub position_after : List ℕ → Position
position_after bytes = fold position_behind first_position bytes
