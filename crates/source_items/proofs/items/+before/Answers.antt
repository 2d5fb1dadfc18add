use Rattle.source_items.proofs.Common.{◌≡◌, ◌+◌, ◌-◌, ◌<◌, length, sym, ap, ◌∙◌, subst, arith, Stmt, stmt_tree, stmt_tree-For, IsLoop, IsScoped, to_do}
use Rattle.c_mean.specs.ToDo as todo
use Rattle.source_items.proofs.Loops.{body-scoped}
use Rattle.source_items.proofs.Stacks.{before-cut, scoped-at}
use Rattle.source_items.proofs.items.+before.Goals as goal

pub push_stmt-returns-in_ok-push-in-None-clause-fits : goal.push_stmt-returns-in_ok-push-in-None-clause-fits
push_stmt-returns-in_ok-push-in-None-clause-fits t c = λ context all scoped.
    let f = c.in-For in
    let is = ap stmt_tree f.is ∙ stmt_tree-For f.parts f.body in
    let ended = c.in_ok-push_end-in-None.ensures.fits context all (subst IsLoop (sym is) (tt {0})) scoped in
    let body : IsScoped context (stmt_tree f.body.value) = body-scoped context _ (subst (IsScoped context) is scoped) in
    let done = c.in_ok-push_stmt-in-None.ensures.fits context ended
    (subst (λ (s : Stmt). IsScoped context (stmt_tree s)) (sym c.deref-in-None.ensures) body) in
    let entered = c.in_ok-push-in-None.ensures.fits context done (tt {0}) scoped in
    c.push_start-in-None.ensures.fits context entered scoped

pub push_stmts-loop-left-preserved : goal.push_stmts-loop-left-preserved
push_stmts-loop-left-preserved t c =
    let k = c.loop-left.left - 1 in
    let stmts = c.args.stmts.now in
    let item = c.index-stmts-left.result in
    let one : c.loop-left.left ≡ k + 1 = omega (arith, c.loop-left-test.true) in
    let there : k < length stmts = omega (arith, c.loop-left-test.true, c.loop-left.invariant.within) in
    record {
      within = omega (arith, there);
      next = c.in_ok-push_stmt.ensures.next ∙ (ap (todo.before (stmt_tree item)) c.loop-left.invariant.next
          ∙ sym (before-cut stmts k c.loop-left.left item (to_do c.args.items.now.items) one there c.index-stmts-left.is));
      fits = λ context loop scope all scoped. c.in_ok-push_stmt.ensures.fits context (c.loop-left.invariant.fits context loop scope all scoped)
          (scoped-at context loop scope stmts k item scoped there c.index-stmts-left.is);
    }
