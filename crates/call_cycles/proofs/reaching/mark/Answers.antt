use Rattle.call_cycles.proofs.MarkLemmas.{marks-one}
use Rattle.call_cycles.proofs.reaching.mark.Goals as goal

pub returns : goal.returns
returns c = rw c.in_ok-push.ensures.items (marks-one c.args.function c.args.marks.now c.args.left.now.items c.requires c.if-marks-function.false)
