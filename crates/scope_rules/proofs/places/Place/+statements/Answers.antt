use Rattle.scope_rules.proofs.Common.{◌≡◌, ◌++◌, ◌∷◌, ◌+◌, ◌∙◌, sym, ap, subst, map, drop, append_assoc, option_map, append-nil, on_ok_weaker, drop_of_length-le, raw_expr_tree, raw_simple_tree, raw_stmt_tree, raw_stmt_trees, stmt_tree, in_order, least_of, expr_faults, spot_of, inside, left, stmt_after, stmts_after, stmt_faults, stmts_faults, stmts_list, drop_at}
use Rattle.c_tree.proofs.RawStmtEquations.{raw_stmt_tree-IfElse, raw_stmt_tree-For}
use Rattle.scope_rules.proofs.Least.{least_of_append, least_of_then}
use Rattle.scope_rules.proofs.Scopes.{Extends, stmt_extends, stmts_extends, leaves}
use Rattle.scope_rules.proofs.HeldValues.{boxed_fact, both_fact, pushed_view, pushed_fact}
use Rattle.scope_rules.proofs.StmtLists.{stmts_listed}
use Rattle.scope_rules.proofs.ForLoops.{for_place, for_faults}
use Rattle.scope_rules.proofs.places.Place.+statements.Goals as goal

pub block-returns-clause-place : goal.block-returns-clause-place
block-returns-clause-place t c =
    let s = spot_of c.args.self.now in
    let raw = raw_stmt_trees c.args.raw.now in
    let m = spot_of c.stmts-stmts.new.self in
    let e = spot_of c.leave.new.self in
    on_ok_weaker {P = m ≡ stmts_after (inside s) raw} {Q = e ≡ left s (stmts_after (inside s) raw)} c.stmts-stmts.result
    (λ h. leaves s m e c.enter-scope.result.count c.enter-scope.result.outer c.enter-scope.ensures.count c.enter-scope.ensures.outer
    (subst (λ x. Extends x.names s.names) (sym h) (stmts_extends (inside s) raw)) c.leave.ensures.place
    ∙ ap (λ x. left s x) h) (rw c.enter-scope.ensures.place at c.stmts-stmts.ensures.place)

pub body-returns-clause-place : goal.body-returns-clause-place
body-returns-clause-place t c =
    let s = spot_of c.args.self.now in
    let raw = raw_stmt_tree c.args.raw.now in
    let m = spot_of c.stmt.new.self in
    let e = spot_of c.leave.new.self in
    on_ok_weaker {P = m ≡ stmt_after (inside s) raw} {Q = e ≡ left s (stmt_after (inside s) raw)} c.boxed-stmt.result
    (λ h. leaves s m e c.enter-scope.result.count c.enter-scope.result.outer c.enter-scope.ensures.count c.enter-scope.ensures.outer
    (subst (λ x. Extends x.names s.names) (sym h) (stmt_extends (inside s) raw)) c.leave.ensures.place
    ∙ ap (λ x. left s x) h) (boxed_fact _ c.stmt.result c.boxed-stmt.result c.boxed-stmt.ensures (rw c.enter-scope.ensures.place at c.stmt.ensures.place))

pub guarded-returns-clause-faults : goal.guarded-returns-clause-faults
guarded-returns-clause-faults t c =
    let s = spot_of c.args.self.now in
    let fc = expr_faults s.names (raw_expr_tree c.args.condition.now) in
    let fb = stmt_faults c.args.gives c.args.loops (inside s) (raw_stmt_tree c.args.raw.now) in
    let old = c.args.self.now.least in
    let new = c.body.new.self.least in
    on_ok_weaker {P = new ≡ least_of c.expr.new.least fb} {Q = new ≡ least_of old (fc ++ fb)} c.both.result
    (λ h. least_of_then old c.expr.new.least new fc fb c.in_ok-condition.ensures.faults h) (both_fact _ c.body.result c.both.result c.both.ensures.next c.body.ensures.faults)

pub stmt-returns-in_ok-condition-in-IfElse-clause-faults : goal.stmt-returns-in_ok-condition-in-IfElse-clause-faults
stmt-returns-in_ok-condition-in-IfElse-clause-faults t c =
    let s = spot_of c.args.self.now in
    let g = c.args.gives in
    let l = c.args.loops in
    let old = c.args.self.now.least in
    let o1 = c.guarded-in-IfElse.new.self.least in
    let p = raw_stmt_tree c.deref-in-IfElse.result.now in
    let r = raw_stmt_tree c.deref-in-IfElse-2.result.now in
    let m = left s (stmt_after (inside s) p) in
    let fc = expr_faults s.names (raw_expr_tree c.in-IfElse.condition) in
    let fp = stmt_faults g l (inside s) p in
    let fr = stmt_faults g l (inside m) r in
    let b = rw c.in_ok-condition-in-IfElse.ensures.next at c.body.ensures.faults in
    rw (c.in-IfElse.is, raw_stmt_tree-IfElse c.in-IfElse.condition c.in-IfElse.then c.in-IfElse.otherwise, ← c.deref-in-IfElse.ensures, ← c.deref-in-IfElse-2.ensures)
    (least_of_then old o1 c.body.new.self.least (fc ++ fp) fr c.in_ok-before-in-IfElse.ensures.faults
    (b ∙ ap (λ x. least_of o1 (stmt_faults g l (inside x) r)) c.in_ok-before-in-IfElse.ensures.place)
    ∙ ap (λ x. least_of old x) (append_assoc fc fp fr))

pub stmt-returns-in_ok-parts-in-For-2-clause-place : goal.stmt-returns-in_ok-parts-in-For-2-clause-place
stmt-returns-in_ok-parts-in-For-2-clause-place t c =
    let parts = c.in-For.parts.value in
    let k = rw c.deref-in-For.ensures at c.in_ok-parts-in-For.ensures.place in
    let b = rw c.in_ok-parts-in-For-2.ensures.next at c.body-in-For.ensures.place in
    rw (c.in-For.is, raw_stmt_tree-For c.in-For.parts c.in-For.body, ← c.deref-in-For-2.ensures)
    (for_place (spot_of c.args.self.now) (spot_of c.enter-scope.new.self) (spot_of c.for_parts.new.self) (spot_of c.body-in-For.new.self)
    (map raw_simple_tree parts.init.items) (option_map raw_simple_tree parts.step) (raw_stmt_tree c.deref-in-For-2.result.now)
    c.enter-scope.ensures.place k
    (spot_of c.leave.new.self) c.enter-scope.result.count c.enter-scope.result.outer b c.enter-scope.ensures.count c.enter-scope.ensures.outer c.leave.ensures.place)

pub stmt-returns-in_ok-parts-in-For-2-clause-faults : goal.stmt-returns-in_ok-parts-in-For-2-clause-faults
stmt-returns-in_ok-parts-in-For-2-clause-faults t c =
    let parts = c.in-For.parts.value in
    let k = rw c.deref-in-For.ensures at c.in_ok-parts-in-For.ensures.place in
    let f = rw c.deref-in-For.ensures at c.in_ok-parts-in-For.ensures.faults in
    let b = rw c.in_ok-parts-in-For-2.ensures.next at c.body-in-For.ensures.faults in
    rw (c.in-For.is, raw_stmt_tree-For c.in-For.parts c.in-For.body, ← c.deref-in-For-2.ensures)
    (c.leave.ensures.faults ∙
    for_faults (spot_of c.args.self.now) (spot_of c.enter-scope.new.self) (spot_of c.for_parts.new.self) (spot_of c.body-in-For.new.self)
    (map raw_simple_tree parts.init.items) (option_map raw_simple_tree parts.step) (raw_stmt_tree c.deref-in-For-2.result.now)
    c.enter-scope.ensures.place k
    c.args.gives (option_map raw_expr_tree parts.condition) c.args.self.now.least c.enter-scope.new.self.least c.for_parts.new.self.least c.body-in-For.new.self.least
    c.enter-scope.ensures.faults f b)

pub stmts-loop-stmt-preserved : goal.stmts-loop-stmt-preserved
stmts-loop-stmt-preserved t c =
    let item = c.stmt-item.result in
    let raw = c.args.raw.now in
    let i = c.loop-stmt.stmt-index in
    let s = spot_of c.loop-stmt.self in
    let g = c.args.gives in
    let l = c.args.loops in
    let cut : drop i raw ≡ item ∷ drop (i + 1) raw = drop_at raw i item c.loop-stmt-test.true c.stmt-item.is in
    let place = pushed_fact _ _ c.stmt.result c.in_ok-stmts-2.ensures c.stmt.ensures.place in
    record {
      trees = rw (pushed_view stmt_tree c.stmt.result c.loop-stmt.stmts.items c.in_ok-stmts-2.stmts.items _ c.in_ok-stmts-2.ensures c.stmt.ensures.tree, append_assoc, place) (rw cut at c.loop-stmt.invariant.trees);
      place = rw place (rw cut at c.loop-stmt.invariant.place);
      faults = rw (place, pushed_fact _ _ c.stmt.result c.in_ok-stmts-2.ensures c.stmt.ensures.faults, ← least_of_append c.loop-stmt.self.least (stmt_faults g l s (raw_stmt_tree item)) (stmts_faults g l (stmt_after s (raw_stmt_tree item)) (raw_stmt_trees (drop (i + 1) raw)))) (rw cut at c.loop-stmt.invariant.faults);
    }

pub stmts-returns-clause-tree : goal.stmts-returns-clause-tree
stmts-returns-clause-tree t c =
    let s = spot_of c.args.self.now in
    let raw = c.args.raw.now in
    let d = drop_of_length-le raw {i = c.loop-stmt.stmt-index} c.loop-stmt-test.false in
    let k = rw d at c.loop-stmt.invariant.trees in
    let h : map stmt_tree c.loop-stmt.stmts.items ≡ stmts_list s (map raw_stmt_tree raw) = sym (append-nil (map stmt_tree c.loop-stmt.stmts.items)) ∙ k in
    ap in_order h ∙ stmts_listed s (map raw_stmt_tree raw)
