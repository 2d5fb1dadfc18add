use Rattle.source_runs.proofs.Common.{◌≡◌, ◌-◌, suc, arith, refl, err_from_is_err_and, expr_tree, stmt_tree, scoped_in_range, to_do, context_at, tree_of}
use Rattle.c_mean.specs.ToDo as todo
use Rattle.source_runs.proofs.Moved.{pushed-so}
use Rattle.source_runs.proofs.interpreter.Interpreter.choose.Goals as goal

pub value-requires-clause-in_range : goal.value-requires-clause-in_range
value-requires-clause-in_range c = scoped_in_range (context_at (tree_of c.args.self.now) c.args.thread.now.front.function) c.requires.condition.scope (expr_tree c.args.condition.now) c.requires.condition.scoped

pub returns-in_err-word : goal.returns-in_err-word
returns-in_err-word c =
    let p = err_from_is_err_and c.from_residual.result c.from_residual.ensures.1 in
    rw (p.1, p.2, ← c.in_err-word.ensures) refl

pub returns-then-word-ne0 : goal.returns-then-word-ne0
returns-then-word-ne0 c =
    let some : c.in_ok-word.word ≡ suc (c.in_ok-word.word - 1) = omega (arith, c.if-word-ne0.true) in
    rw (← c.in_ok-word.ensures, some)
    (pushed-so (tree_of c.args.self.now) _ _ _ (todo.before (stmt_tree c.args.then.now) (to_do c.args.thread.now.front.items.items))
    c.push_stmt.result c.went.result c.went.ensures c.requires.next c.requires.thread c.push_stmt.ensures.next
    (c.push_stmt.ensures.fits _ c.requires.thread.front.items c.requires.first))

pub returns-in-Some : goal.returns-in-Some
returns-in-Some c =
    rw (← c.in_ok-word.ensures, c.if-word-ne0.false, c.in-Some.is)
    (pushed-so (tree_of c.args.self.now) _ _ _ (todo.before (stmt_tree c.in-Some.second.now) (to_do c.args.thread.now.front.items.items))
    c.push_stmt-in-Some.result c.went-in-Some.result c.went-in-Some.ensures c.requires.next c.requires.thread c.push_stmt-in-Some.ensures.next
    (c.push_stmt-in-Some.ensures.fits _ c.requires.thread.front.items (rw c.in-Some.is at c.requires.second)))

pub returns-in-None : goal.returns-in-None
returns-in-None c = rw (← c.in_ok-word.ensures, c.if-word-ne0.false, c.in-None.is) (rw c.requires.next refl, c.requires.thread)
