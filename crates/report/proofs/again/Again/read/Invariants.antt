use Rattle.report.specs.Between.{IsBetween}
use Rattle.report.proofs.again.Again.read.Given as goal

abbrev pub invariant-loop-line : goal.invariant-loop-line
invariant-loop-line g l = IsBetween l.world
