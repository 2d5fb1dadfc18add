-- The numbers in a list of ticks.
use Rattle.std.specs.Prelude.{ℕ, List, ◌++◌}
use Rattle.report_figures.specs.declared.ticks.TickList.{TickList}

-- the numbers that are stored in 4 bytes, followed by those in 8
abbrev pub ticks_in : TickList → List ℕ
ticks_in list = list.small.items ++ list.large.items
