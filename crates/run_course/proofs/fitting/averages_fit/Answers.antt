use Rattle.run_course.proofs.Common.{FitsSigned, get_or, pos, rules, subst, w128, AllByRecursion, take_all, All-more}
use Rattle.run_course.proofs.fitting.averages_fit.Goals as goal

pub loop-average-preserved : goal.loop-average-preserved
loop-average-preserved c =
    let fits : FitsSigned w128 (get_or c.args.averages.now c.loop-average.average-index (pos 0)) = search rules in
    All-more (FitsSigned w128) c.args.averages.now c.loop-average.average-index (pos 0) c.loop-average-test.true c.loop-average.invariant fits

pub returns : goal.returns
returns c = subst (AllByRecursion (FitsSigned w128)) (take_all c.loop-average.average-index c.args.averages.now c.loop-average-test.false) c.loop-average.invariant
