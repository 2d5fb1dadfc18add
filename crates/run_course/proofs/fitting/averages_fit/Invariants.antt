use Rattle.run_course.proofs.Common.{FitsSigned, take, w128, AllByRecursion}
use Rattle.run_course.proofs.fitting.averages_fit.Given as goal

abbrev pub invariant-loop-average : goal.invariant-loop-average
invariant-loop-average l = AllByRecursion (FitsSigned w128) (take l.average-index l.averages)
