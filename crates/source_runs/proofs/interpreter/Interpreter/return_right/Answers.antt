use Rattle.source_runs.proofs.Common.{ap, ◌∙◌, refl, Ok, err_from_is_err_and, Some, option_map, expr_tree, right_tree, scoped_in_range, gives_back, context_at, tree_of, running_of}
use Rattle.source_runs.proofs.Moved.{made-so}
use Rattle.source_runs.proofs.interpreter.Interpreter.return_right.Goals as goal

pub value-requires-clause-in_range : goal.value-requires-clause-in_range
value-requires-clause-in_range c =
    let h = rw (c.in-Some-Expr.is ∙ ap Some (rw c.in-Some-Expr.is at c.in-Some-Expr.field-0-is)) at c.requires.scoped in
    scoped_in_range (context_at (tree_of c.args.self.now) c.args.thread.now.front.function) h.scope (expr_tree c.in-Some-Expr.expr) h.scoped.1

pub call-requires-clause-scoped : goal.call-requires-clause-scoped
call-requires-clause-scoped c = let h = rw (c.in-Some-Call.is ∙ ap Some (rw c.in-Some-Call.is at c.in-Some-Call.field-0-is)) at c.requires.scoped in record { scope = h.scope; scoped = h.scoped.1.0 }

pub returns-in-None : goal.returns-in-None
returns-in-None c =
    let running = running_of (tree_of c.args.self.now) c.args.thread.now c.args.globals.now.items in
    made-so (tree_of c.args.self.now) _ _ c.give_back.new.globals.items c.give_back.new.thread (Ok c.give_back.result)
    (ap (λ o. gives_back (tree_of c.args.self.now) running (option_map right_tree o)) c.in-None.is) c.give_back.ensures

pub returns-in_err-word-in-Some-Expr : goal.returns-in_err-word-in-Some-Expr
returns-in_err-word-in-Some-Expr c =
    let p = err_from_is_err_and c.from_residual.result c.from_residual.ensures.1 in
    rw (c.in-Some-Expr.is, rw c.in-Some-Expr.is at c.in-Some-Expr.field-0-is, p.1, p.2, ← c.in_err-word-in-Some-Expr.ensures) refl

pub returns-in_ok-word-in-Some-Expr : goal.returns-in_ok-word-in-Some-Expr
returns-in_ok-word-in-Some-Expr c =
    made-so (tree_of c.args.self.now) _ _ c.give_back-in-Some-Expr.new.globals.items c.give_back-in-Some-Expr.new.thread (Ok c.give_back-in-Some-Expr.result)
    (rw (c.in-Some-Expr.is, rw c.in-Some-Expr.is at c.in-Some-Expr.field-0-is, ← c.in_ok-word-in-Some-Expr.ensures) refl) c.give_back-in-Some-Expr.ensures

pub returns-in-Some-Call : goal.returns-in-Some-Call
returns-in-Some-Call c = rw (c.in-Some-Call.is, rw c.in-Some-Call.is at c.in-Some-Call.field-0-is) c.call.ensures
