use Rattle.source_items.proofs.Common.{sym, ap, ◌∙◌, subst, stmt_tree, to_do, AreItems, on_ok_weaker}
use Rattle.source_items.proofs.Loops.{on_ok-both, skip-for, skip-while, whole-loop}
use Rattle.source_items.proofs.items.skip.Goals as goal

pub returns-in-None : goal.returns-in-None
returns-in-None c = λ context all.
    let passed = c.in-None.ensures context all in
    (ap to_do passed.2 ∙ sym passed.1, subst (AreItems context) (sym passed.2) (tt {0}))

pub returns-then-is_for : goal.returns-then-is_for
returns-then-is_for c = λ context all.
    let taken = c.in-Some.ensures context all in
    let is = sym c.is_for.ensures ∙ c.if-is_for.true in
    on_ok-both _ _ c.push_end.result
    (on_ok_weaker c.push_end.result (λ e. e ∙ sym (taken.skipped ∙ skip-for (stmt_tree c.in-Some.stmt.now) _ is)) c.push_end.ensures.next)
    (c.push_end.ensures.fits context taken.fits taken.is_loop taken.scoped)

pub returns-else-is_for : goal.returns-else-is_for
returns-else-is_for c = λ context all.
    let taken = c.in-Some.ensures context all in
    let is = sym c.is_for.ensures ∙ c.if-is_for.false in
    on_ok-both _ _ c.push.result
    (on_ok_weaker c.push.result (λ e. e ∙ sym (taken.skipped ∙ skip-while (stmt_tree c.in-Some.stmt.now) _ taken.is_loop is)) c.push.ensures.next)
    (c.push.ensures.fits context taken.fits (whole-loop _ taken.is_loop is) taken.scoped)
