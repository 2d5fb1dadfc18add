use Rattle.c_lower.proofs.Common.{◌≡◌, ◌+◌, ◌∷◌, ◌++◌, ℕ, length, map, drop, subst, arith, option_map, expr_tree, simple_tree, stmt_tree, stmt_trees, drop_at, simples_code, step_code, step_size, test_code, test_size, on_ok_weaker}
use Rattle.c_tree.specs.declared.statements.ForParts.{ForParts}
use Rattle.c_tree.specs.declared.statements.Stmt.{Stmt}
use Rattle.c_tree.proofs.StmtEquations.{stmt_tree-Block, stmt_tree-If, stmt_tree-IfElse, stmt_tree-While, stmt_tree-For}
use Rattle.c_lower.proofs.StmtPuts.{Put, if_put, if_else_put, while_put, for_put, one_more_put}
use Rattle.c_lower.proofs.statements.+statements.Goals as goal

pub put_stmts-loop-stmt-preserved : goal.put_stmts-loop-stmt-preserved
put_stmts-loop-stmt-preserved t c =
    let item = c.stmt-item.result in
    let items = c.args.stmts.now in
    let i = c.loop-stmt.stmt-index in
    let context = c.args.context in
    let cut : drop i items ≡ item ∷ drop (i + 1) items = drop_at items i item c.loop-stmt-test.true c.stmt-item.is in
    let code = rw cut at c.loop-stmt.invariant.code in
    let fits = rw cut at c.loop-stmt.invariant.fits in
    record {
      code = one_more_put _ _ _ _ _ _ (stmt_trees items) (stmt_trees (drop (i + 1) items)) (stmt_tree item) context.t context.leave context.skip code c.in_ok-put_stmt.ensures;
      fits = omega (arith, fits);
    }

pub put_stmt-returns-in_ok-put_condition-in-If : goal.put_stmt-returns-in_ok-put_condition-in-If
put_stmt-returns-in_ok-put_condition-in-If t c =
    let context = c.args.context in
    let c0 = c.args.code.now.items in
    let c1 = c.put_condition.new.code.items in
    let c2 = c.put_stmt.new.code.items in
    let s0 = c.args.sizes.now.items in
    let s1 = c.last_size.new.sizes.items in
    let s2 = c.put_stmt.new.sizes.items in
    rw (c.in-If.is, stmt_tree-If c.in-If.condition c.in-If.then)
    (on_ok_weaker c.put_stmt.result
    (λ e. if_put c0 c1 c2 s0 s1 s2 (expr_tree c.in-If.condition) (stmt_tree c.in-If.then.value) context.t context.leave context.skip _ _ c.last_size.ensures c.in_ok-put_condition-in-If.ensures.to c.in_ok-put_condition-in-If.ensures.code
    (subst (λ (x : Stmt). Put c1 c2 s1 s2 (stmt_tree x) context.t context.leave context.skip) c.deref-in-If.ensures e))
    c.put_stmt.ensures)

pub put_stmt-returns-in_ok-put_jump-in-IfElse : goal.put_stmt-returns-in_ok-put_jump-in-IfElse
put_stmt-returns-in_ok-put_jump-in-IfElse t c =
    let context = c.args.context in
    let c0 = c.args.code.now.items in
    let c1 = c.put_condition-in-IfElse.new.code.items in
    let c2 = c.put_stmt-in-IfElse.new.code.items in
    let c3 = c.put_jump.new.code.items in
    let c4 = c.put_stmt-in-IfElse-2.new.code.items in
    let s0 = c.args.sizes.now.items in
    let s1 = c.last_size-in-IfElse.new.sizes.items in
    let s2 = c.put_stmt-in-IfElse.new.sizes.items in
    let s3 = c.last_size-in-IfElse-2.new.sizes.items in
    let s4 = c.put_stmt-in-IfElse-2.new.sizes.items in
    let first = stmt_tree c.in-IfElse.then.value in
    let second = stmt_tree c.in-IfElse.otherwise.value in
    let put1 : Put c1 c2 s1 s2 first context.t context.leave context.skip = subst (λ (x : Stmt). Put c1 c2 s1 s2 (stmt_tree x) context.t context.leave context.skip) c.deref-in-IfElse.ensures c.in_ok-put_stmt-in-IfElse.ensures in
    rw (c.in-IfElse.is, stmt_tree-IfElse c.in-IfElse.condition c.in-IfElse.then c.in-IfElse.otherwise)
    (on_ok_weaker c.put_stmt-in-IfElse-2.result
    (λ e. if_else_put c0 c1 c2 c3 c4 s0 s1 s2 s3 s4 (expr_tree c.in-IfElse.condition) first second context.t context.leave context.skip _ _ _ c.last_size-in-IfElse.ensures c.in_ok-put_condition-in-IfElse.ensures.to c.in_ok-put_condition-in-IfElse.ensures.code put1 c.last_size-in-IfElse-2.ensures c.in_ok-put_jump-in-IfElse.ensures
    (subst (λ (x : Stmt). Put c3 c4 s3 s4 (stmt_tree x) context.t context.leave context.skip) c.deref-in-IfElse-2.ensures e))
    c.put_stmt-in-IfElse-2.ensures)

pub put_stmt-returns-in_ok-put_stmt-in-While : goal.put_stmt-returns-in_ok-put_stmt-in-While
put_stmt-returns-in_ok-put_stmt-in-While t c =
    let context = c.args.context in
    let c0 = c.args.code.now.items in
    let c1 = c.put_condition-in-While.new.code.items in
    let c2 = c.put_stmt-in-While.new.code.items in
    let c3 = c.put.new.code.items in
    let s0 = c.args.sizes.now.items in
    let s1 = c.last_size-in-While.new.sizes.items in
    let s2 = c.put_stmt-in-While.new.sizes.items in
    let leave = c.in_ok-leave-in-While.leave in
    let skip = c.in_ok-skip-in-While.skip in
    let body = stmt_tree c.in-While.body.value in
    let put : Put c1 c2 s1 s2 body context.t leave skip = subst (λ (x : Stmt). Put c1 c2 s1 s2 (stmt_tree x) context.t leave skip) c.deref-in-While.ensures c.in_ok-put_stmt-in-While.ensures in
    rw (c.in-While.is, stmt_tree-While c.in-While.condition c.in-While.body)
    (on_ok_weaker c.put.result
    (while_put c0 c1 c2 c3 s0 s1 s2 (expr_tree c.in-While.condition) body context.t context.leave context.skip skip leave _ c.in_ok-skip-in-While.ensures c.last_size-in-While.ensures c.in_ok-leave-in-While.ensures.to c.in_ok-leave-in-While.ensures.code put)
    c.put.ensures)

pub put_stmt-returns-in_ok-put_step-in-For : goal.put_stmt-returns-in_ok-put_step-in-For
put_stmt-returns-in_ok-put_step-in-For t c =
    let context = c.args.context in
    let c0 = c.args.code.now.items in
    let c1 = c.put_simples.new.code.items in
    let c2 = c.put_test.new.code.items in
    let c3 = c.put_stmt-in-For.new.code.items in
    let c4 = c.put_step.new.code.items in
    let c5 = c.put-in-For.new.code.items in
    let s0 = c.args.sizes.now.items in
    let s1 = c.last_size-in-For.new.sizes.items in
    let s2 = c.put_stmt-in-For.new.sizes.items in
    let inside = c.in_ok-inside-in-For.inside in
    let init = map simple_tree c.in-For.parts.value.init.items in
    let condition = option_map expr_tree c.in-For.parts.value.condition in
    let step = option_map simple_tree c.in-For.parts.value.step in
    let body = stmt_tree c.in-For.body.value in
    let size = c.last_size-in-For.result in
    let e1 : c1 ≡ c0 ++ simples_code init (length c0) context.t =
    subst (λ (p : ForParts). c1 ≡ c0 ++ simples_code (map simple_tree p.init.items) (length c0) context.t) c.deref-in-For.ensures
    (rw (← c.deref-in-For-2.ensures.value) c.in_ok-put_simples-in-For.ensures) in
    let skip = subst (λ (p : ForParts). inside.skip ≡ length c1 + test_size (option_map expr_tree p.condition) + size) c.deref-in-For-3.ensures c.in_ok-inside-in-For.ensures.skip in
    let leave = subst (λ (p : ForParts). inside.leave ≡ inside.skip + step_size (option_map simple_tree p.step) + 1) c.deref-in-For-4.ensures c.in_ok-inside-in-For.ensures.leave in
    let e2 = subst (λ (p : ForParts). c2 ≡ c1 ++ test_code (option_map expr_tree p.condition) (length c1) context.t inside.leave) c.deref-in-For-5.ensures c.in_ok-put_test-in-For.ensures in
    let e4 = subst (λ (p : ForParts). c4 ≡ c3 ++ step_code (option_map simple_tree p.step) (length c3) context.t) c.deref-in-For-7.ensures c.in_ok-put_step-in-For.ensures in
    let put : Put c2 c3 s1 s2 body context.t inside.leave inside.skip =
    subst (λ (n : ℕ). Put c2 c3 s1 s2 body n inside.leave inside.skip) c.in_ok-inside-in-For.ensures.t
    (subst (λ (x : Stmt). Put c2 c3 s1 s2 (stmt_tree x) inside.t inside.leave inside.skip) c.deref-in-For-6.ensures c.in_ok-put_stmt-in-For.ensures) in
    rw (c.in-For.is, stmt_tree-For c.in-For.parts c.in-For.body)
    (on_ok_weaker c.put-in-For.result
    (for_put c0 c1 c2 c3 c4 c5 s0 s1 s2 init condition step body context.t context.leave context.skip _ inside.skip inside.leave _ e1 c.in_ok-turn-in-For.ensures c.last_size-in-For.ensures skip leave e2 put e4)
    c.put-in-For.ensures)

pub put_stmt-returns-in-Block : goal.put_stmt-returns-in-Block
put_stmt-returns-in-Block t c = rw (c.in-Block.is, stmt_tree-Block c.in-Block.stmts, ← c.deref.ensures.value) c.put_stmts.ensures
