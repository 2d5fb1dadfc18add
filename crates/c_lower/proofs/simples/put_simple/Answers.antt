use Rattle.c_lower.proofs.Common.{◌+◌, expr_tree, right_tree, held_code, on_ok_weaker}
use Rattle.c_lower.proofs.ExprGlue.{expr_then_glued}
use Rattle.c_lower.proofs.simples.put_simple.Goals as goal

pub returns-in_ok-put_held-in-SetLocalElement : goal.returns-in_ok-put_held-in-SetLocalElement
returns-in_ok-put_held-in-SetLocalElement c =
    rw c.in-SetLocalElement.is
    (on_ok_weaker c.put-in-SetLocalElement.result
    (expr_then_glued _ _ _ _ (expr_tree c.in-SetLocalElement.index.value) c.args.t (λ p. held_code (right_tree c.in-SetLocalElement.value.value) p (c.args.t + 1)) _ (rw c.deref.ensures at c.in_ok-put_expr-in-SetLocalElement.ensures) (rw c.deref-in-SetLocalElement.ensures at c.in_ok-put_held-in-SetLocalElement.ensures))
    c.put-in-SetLocalElement.ensures)

pub returns-in_ok-put_held-in-SetGlobalElement : goal.returns-in_ok-put_held-in-SetGlobalElement
returns-in_ok-put_held-in-SetGlobalElement c =
    rw c.in-SetGlobalElement.is
    (on_ok_weaker c.put-in-SetGlobalElement.result
    (expr_then_glued _ _ _ _ (expr_tree c.in-SetGlobalElement.index.value) c.args.t (λ p. held_code (right_tree c.in-SetGlobalElement.value.value) p (c.args.t + 1)) _ (rw c.deref-in-SetGlobalElement.ensures at c.in_ok-put_expr-in-SetGlobalElement.ensures) (rw c.deref-in-SetGlobalElement-2.ensures at c.in_ok-put_held-in-SetGlobalElement.ensures))
    c.put-in-SetGlobalElement.ensures)
