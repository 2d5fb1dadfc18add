use Rattle.source_items.proofs.Common.{List, sym, ap, ◌∙◌, ◌∷◌, subst, stmt_tree, IsGiven, to_do, on_ok_weaker}
use Rattle.c_mean.specs.ToDo as todo
use Rattle.source_items.proofs.Loops.{turn-test, turn-enter, turn-while, whole-loop}
use Rattle.source_items.proofs.items.push_turn.Goals as goal

pub returns-in-Some-clause-next : goal.returns-in-Some-clause-next
returns-in-Some-clause-next c =
    on_ok_weaker c.push.result (λ e. e ∙ sym (turn-test (stmt_tree c.args.stmt.now) (to_do c.args.items.now.items) (subst IsGiven c.in-Some.ensures (tt {0})))) c.push.ensures.next

pub returns-in-Some-clause-fits : goal.returns-in-Some-clause-fits
returns-in-Some-clause-fits c = λ context all scoped. c.push.ensures.fits context all (subst IsGiven c.in-Some.ensures (tt {0})) scoped

pub returns-in_ok-push_body-in-None-clause-next : goal.returns-in_ok-push_body-in-None-clause-next
returns-in_ok-push_body-in-None-clause-next c =
    let is = sym c.is_for.ensures ∙ c.if-is_for.true in
    on_ok_weaker c.push-then-is_for.result (λ e. e ∙ (ap (λ (xs : List todo.Item). todo.Enter ∷ xs) c.in_ok-push_body-in-None.ensures.next ∙ sym (turn-enter (stmt_tree c.args.stmt.now) (to_do c.args.items.now.items) is (sym c.in-None.ensures)))) c.push-then-is_for.ensures.next

pub returns-in_ok-push_body-in-None-clause-fits : goal.returns-in_ok-push_body-in-None-clause-fits
returns-in_ok-push_body-in-None-clause-fits c = λ context all scoped. c.push-then-is_for.ensures.fits context (c.in_ok-push_body-in-None.ensures.fits context all c.requires scoped) (tt {0}) scoped

pub returns-else-is_for-clause-next : goal.returns-else-is_for-clause-next
returns-else-is_for-clause-next c =
    let is = sym c.is_for.ensures ∙ c.if-is_for.false in
    on_ok_weaker c.push-else-is_for.result (λ e. e ∙ sym (turn-while (stmt_tree c.args.stmt.now) (to_do c.args.items.now.items) c.requires is)) c.push-else-is_for.ensures.next

pub returns-else-is_for-clause-fits : goal.returns-else-is_for-clause-fits
returns-else-is_for-clause-fits c = λ context all scoped.
    let is = sym c.is_for.ensures ∙ c.if-is_for.false in
    c.push-else-is_for.ensures.fits context all (whole-loop (stmt_tree c.args.stmt.now) c.requires is) scoped
