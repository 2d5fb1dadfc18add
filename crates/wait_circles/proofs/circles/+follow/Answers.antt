use Rattle.std.proofs.Common.{arith}
use Rattle.wait_circles.proofs.Told.{follow_is}
use Rattle.wait_circles.proofs.circles.+follow.Goals as goal

pub returns : goal.returns
returns t c =
    follow_is c.args.left c.args.steps.now c.args.first c.args.last c.args.path.now c.args.found.now.items c.close.new.found.items c.loop-next.found.items c.loop-next.next
    (omega (arith, c.if-left-eq0.false)) (omega (arith, c.loop-next-test.false, c.loop-next.auto.next-end)) c.in_ok-close.ensures c.loop-next.invariant
