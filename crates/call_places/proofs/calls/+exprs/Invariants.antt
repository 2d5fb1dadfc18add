use Rattle.call_places.proofs.Common.{◌≡◌, ◌++◌, map, drop, raw_expr_tree, raw_expr_trees, raw_operand_tree, is_call, expr_places, exprs_places}
use Rattle.call_places.proofs.ChainPlaces.{operands_places}
use Rattle.call_places.proofs.calls.+exprs.Given as goal

abbrev pub invariant-add_expr-loop-operand : goal.invariant-add_expr-loop-operand
invariant-add_expr-loop-operand l =
    l.places.items ++ operands_places (map raw_operand_tree (drop l.operand-index l.operand-items)) ≡ l.fn.places.items ++ expr_places is_call (raw_expr_tree l.expr)

abbrev pub invariant-add_exprs-loop-expr : goal.invariant-add_exprs-loop-expr
invariant-add_exprs-loop-expr l =
    l.places.items ++ exprs_places is_call (raw_expr_trees (drop l.expr-index l.exprs)) ≡ l.initial.places.items ++ exprs_places is_call (raw_expr_trees l.exprs)
