use Rattle.source_runs.proofs.Common.{◌≡◌, ◌-◌, suc, arith, refl, err_from_is_err_and, expr_tree, stmt_tree, scoped_in_range, loop_of, to_do, context_at, tree_of}
use Rattle.c_mean.specs.ToDo as todo
use Rattle.source_runs.proofs.Moved.{pushed-so}
use Rattle.source_runs.proofs.interpreter.Interpreter.test.Goals as goal

pub value-requires-clause-in_range : goal.value-requires-clause-in_range
value-requires-clause-in_range c = scoped_in_range (context_at (tree_of c.args.self.now) c.args.thread.now.front.function) c.requires.condition.scope (expr_tree c.args.condition.now) c.requires.condition.scoped

pub returns-in_err-word : goal.returns-in_err-word
returns-in_err-word c =
    let p = err_from_is_err_and c.from_residual.result c.from_residual.ensures.1 in
    rw (p.1, p.2, ← c.in_err-word.ensures) refl

pub returns-then-word-ne0 : goal.returns-then-word-ne0
returns-then-word-ne0 c =
    let some : c.in_ok-word.word ≡ suc (c.in_ok-word.word - 1) = omega (arith, c.if-word-ne0.true) in
    rw (← c.in_ok-word.ensures, some)
    (pushed-so (tree_of c.args.self.now) _ _ _ (todo.body_before (loop_of (stmt_tree c.args.stmt.now)) (to_do c.args.thread.now.front.items.items))
    c.push_body.result c.went.result c.went.ensures c.requires.next c.requires.thread c.push_body.ensures.next
    (c.push_body.ensures.fits _ c.requires.thread.front.items c.requires.is_loop c.requires.scoped))

pub returns : goal.returns
returns c = rw (← c.in_ok-word.ensures, c.if-word-ne0.false) (rw c.requires.next refl, c.requires.thread)
