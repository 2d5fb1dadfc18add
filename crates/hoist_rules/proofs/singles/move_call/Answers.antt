use Rattle.hoist_rules.proofs.Common.{ap, ◌∙◌, nat_lt, raw_expr_trees}
use Rattle.hoist_rules.proofs.MovedCalls.{moved_rest, moved_all, moved_none}
use Rattle.hoist_rules.proofs.singles.move_call.Goals as goal
use Rattle.hoist_rules.proofs.singles.move_call.Goals.{else-stays-via-then-stays+else-arguments-gt0, else-stays-via-else-stays}

pub returns-then-arguments-gt0 : goal.returns-then-arguments-gt0
returns-then-arguments-gt0 c = λ k.
    moved_rest c.args.stays c.args.arguments.now c.calls_among.result k c.if-stays.true c.if-arguments-gt0.true c.calls_among.ensures

pub returns-else-stays : goal.returns-else-stays
returns-else-stays c = λ k.
    let all = ap (nat_lt 0) c.calls_among-else-stays.ensures in
    elim c.else-stays.branch [
      | else-stays-via-then-stays+else-arguments-gt0 w ↦ all ∙ moved_none c.args.stays k c.args.arguments.now w.if-arguments-gt0.false
      | else-stays-via-else-stays w ↦ all ∙ moved_all c.args.stays k (raw_expr_trees c.args.arguments.now) w.if-stays.false
    ]
