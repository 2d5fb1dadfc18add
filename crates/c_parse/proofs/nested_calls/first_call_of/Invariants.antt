use Rattle.c_parse.proofs.Common.{◌≡◌, drop, raw_expr_trees, earlier, first_call_of}
use Rattle.c_parse.proofs.nested_calls.first_call_of.Given as goal

abbrev pub invariant-loop-expr : goal.invariant-loop-expr
invariant-loop-expr l = earlier l.found (first_call_of (raw_expr_trees (drop l.expr-index l.exprs))) ≡ first_call_of (raw_expr_trees l.exprs)
