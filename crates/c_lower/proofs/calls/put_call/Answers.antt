use Rattle.c_lower.proofs.Common.{◌+◌, expr_tree, expr_code, on_ok_weaker}
use Rattle.c_lower.proofs.ExprGlue.{expr_then_put}
use Rattle.c_lower.proofs.calls.put_call.Goals as goal

pub returns-in_ok-put_expr-in-Table : goal.returns-in_ok-put_expr-in-Table
returns-in_ok-put_expr-in-Table c =
    rw c.in-Table.is
    (on_ok_weaker c.put_then.result
    (expr_then_put _ _ _ (expr_tree c.in-Table.index.value) c.args.k (λ p. expr_code (expr_tree c.in-Table.argument.value) p (c.args.k + 1)) _ (rw c.deref-in-Table.ensures at c.in_ok-put_expr-in-Table.ensures))
    (rw c.deref-in-Table-2.ensures at c.put_then.ensures))
