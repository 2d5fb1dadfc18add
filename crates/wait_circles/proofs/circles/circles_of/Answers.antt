use Rattle.std.proofs.Common.{◌∙◌, ◌++◌, arith, ap, sym}
use Rattle.wait_circles.proofs.Told.{begins, below-more, told_all, told_each}
use Rattle.wait_circles.proofs.circles.circles_of.Goals as goal

pub loop-first-preserved : goal.loop-first-preserved
loop-first-preserved c =
    c.in_ok-begin.ensures
    ∙ (ap (λ l. l ++ begins c.args.steps.now c.loop-first.first) c.loop-first.invariant ∙ sym (below-more (begins c.args.steps.now) c.loop-first.first))

pub returns-clause-told : goal.returns-clause-told
returns-clause-told c =
    told_all c.args.steps.now c.loop-first.found.items c.loop-first.first (omega (arith, c.loop-first-test.false, c.loop-first.auto.first-end)) c.loop-first.invariant

pub returns-clause-each : goal.returns-clause-each
returns-clause-each c = λ circle is.
    told_each c.args.steps.now c.loop-first.found.items c.loop-first.first circle (omega (arith, c.loop-first-test.false, c.loop-first.auto.first-end)) c.loop-first.invariant is
