use Rattle.std.proofs.Common.{◌≡◌, ◌++◌, take}
use Rattle.report_figures.proofs.ticks.add_all.Given as goal

abbrev pub invariant-loop-ticks : goal.invariant-loop-ticks
invariant-loop-ticks l = l.wide.items ≡ l.initial.wide.items ++ take l.ticks-index l.small
