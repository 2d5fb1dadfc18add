use Rattle.std.proofs.Common.{◌≡◌, ◌+◌, sum, take}
use Rattle.report_figures.proofs.totals.with_large.Given as goal

abbrev pub invariant-loop-number : goal.invariant-loop-number
invariant-loop-number l = l.total ≡ l.before + sum (take l.number-index l.numbers)
