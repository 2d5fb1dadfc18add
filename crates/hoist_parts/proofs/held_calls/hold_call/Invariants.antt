use Rattle.hoist_parts.proofs.Common.{◌≡◌, ◌||◌, drop, raw_expr_trees, hold_call}
use Rattle.hoist_parts.proofs.held_calls.hold_call.Given as goal

abbrev pub invariant-loop-expr : goal.invariant-loop-expr
invariant-loop-expr l = (l.held || hold_call (raw_expr_trees (drop l.expr-index l.exprs))) ≡ hold_call (raw_expr_trees l.exprs)
