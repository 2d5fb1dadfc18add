use Rattle.source_items.proofs.Common.{List, sym, ap, ◌∙◌, ◌∷◌, ◌++◌, subst, Option, IfSome, StmtTree, stmt_tree, loop_of, step_of, to_do, IsScoped, on_ok_weaker}
use Rattle.c_mean.specs.ToDo as todo
use Rattle.source_items.proofs.Loops.{before_if, body-parts, body-scoped}
use Rattle.source_items.proofs.items.push_body.Goals as goal

pub returns-in-Some-clause-next : goal.returns-in-Some-clause-next
returns-in-Some-clause-next c =
    let t = stmt_tree c.args.stmt.now in
    let old = to_do c.args.items.now.items in
    let after : List todo.Item = todo.step_item (step_of t) ++ todo.Back (loop_of t) ∷ old in
    on_ok_weaker c.push_stmt.result (λ e. e ∙ (ap (todo.before (stmt_tree c.in-Some.body.now)) c.in_ok-push_end.ensures.next ∙ sym (body-parts t old ∙ ap (λ (b : Option StmtTree). before_if b after) (sym c.in-Some.ensures)))) c.push_stmt.ensures.next

pub returns-in-Some-clause-fits : goal.returns-in-Some-clause-fits
returns-in-Some-clause-fits c = λ context all loop scoped.
    c.push_stmt.ensures.fits context (c.in_ok-push_end.ensures.fits context all loop scoped)
    (subst (λ (b : Option StmtTree). IfSome b (λ s. IsScoped context s)) (sym c.in-Some.ensures) (body-scoped context (stmt_tree c.args.stmt.now) scoped))

pub returns-in-None-clause-next : goal.returns-in-None-clause-next
returns-in-None-clause-next c =
    let t = stmt_tree c.args.stmt.now in
    let old = to_do c.args.items.now.items in
    let after : List todo.Item = todo.step_item (step_of t) ++ todo.Back (loop_of t) ∷ old in
    c.in_ok-push_end.ensures.next ∙ sym (body-parts t old ∙ ap (λ (b : Option StmtTree). before_if b after) (sym c.in-None.ensures))
