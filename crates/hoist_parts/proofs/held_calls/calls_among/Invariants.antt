use Rattle.hoist_parts.proofs.Common.{◌≡◌, ◌≤◌, ◌+◌, drop, raw_expr_trees}
use Rattle.hoist_parts.specs.Arguments.{calls_among}
use Rattle.hoist_parts.proofs.held_calls.calls_among.Given as goal

abbrev pub invariant-loop-expr : goal.invariant-loop-expr
invariant-loop-expr l = record {
  counted : l.calls + calls_among (raw_expr_trees (drop l.expr-index l.exprs)) ≡ calls_among (raw_expr_trees l.exprs);
  few : l.calls ≤ l.expr-index;
}
