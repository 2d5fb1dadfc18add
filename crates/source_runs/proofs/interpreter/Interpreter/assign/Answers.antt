use Rattle.source_runs.proofs.Common.{ap, sym, refl, Running, trapped, err_from_is_err_and, expr_tree, scoped_in_range, context_at, tree_of}
use Rattle.source_runs.proofs.interpreter.Interpreter.assign.Goals as goal

pub value-requires-clause-in_range : goal.value-requires-clause-in_range
value-requires-clause-in_range c = let h = rw c.in-Expr.is at c.requires.scoped in scoped_in_range (context_at (tree_of c.args.self.now) c.args.thread.now.front.function) h.scope (expr_tree c.in-Expr.expr) h.scoped

pub call-requires-clause-scoped : goal.call-requires-clause-scoped
call-requires-clause-scoped c = let h = rw c.in-Call.is at c.requires.scoped in record { scope = h.scope; scoped = h.scoped.0 }

pub returns-in_err-word-in-Expr : goal.returns-in_err-word-in-Expr
returns-in_err-word-in-Expr c =
    let p = err_from_is_err_and c.from_residual.result c.from_residual.ensures.1 in
    rw (c.in-Expr.is, p.1, p.2, ← c.in_err-word-in-Expr.ensures) refl

pub returns-in_err-store-in-Expr : goal.returns-in_err-store-in-Expr
returns-in_err-store-in-Expr c =
    let p = err_from_is_err_and c.from_residual-in_err-store-in-Expr.result c.from_residual-in_err-store-in-Expr.ensures.1 in
    rw (c.in-Expr.is, p.1, p.2, ← c.in_ok-word-in-Expr.ensures, c.in_err-store-in-Expr.ensures.stored)
    (ap (λ (r : Running). trapped r c.in_err-store-in-Expr.field-0.0) (sym c.in_err-store-in-Expr.ensures.kept))

pub returns-in_ok-store-in-Expr : goal.returns-in_ok-store-in-Expr
returns-in_ok-store-in-Expr c =
    rw (c.in-Expr.is, ← c.in_ok-word-in-Expr.ensures, c.in_ok-store-in-Expr.ensures.stored) (refl, c.in_ok-store-in-Expr.ensures.thread)

pub returns-in-Call : goal.returns-in-Call
returns-in-Call c = rw c.in-Call.is c.call.ensures
