use Rattle.hoist_rules.proofs.Common.{◌≡◌, ◌∷◌, ◌+◌, ◌∙◌, sym, ap, drop, option_map, RawDo, RawReturn, raw_expr_tree, raw_simple_tree, raw_stmt_tree, raw_stmt_trees, drop_at, opening_tree, simple_before, returned_before, hoisted, then_all}
use Rattle.std.proofs.lemmas.Result.{on_ok_weaker}
use Rattle.c_tree.proofs.RawStmtEquations.{raw_stmt_tree-Simple, raw_stmt_tree-Block, raw_stmt_tree-IfElse, raw_stmt_tree-While, raw_stmt_tree-Return}
use Rattle.hoist_rules.proofs.Followed.{then_pushed}
use Rattle.hoist_rules.proofs.BodyTurns as body
use Rattle.hoist_rules.proofs.hoisting.Hoisting.+statements.Goals as goal

pub statements-loop-stmt-preserved : goal.statements-loop-stmt-preserved
statements-loop-stmt-preserved g t c =
    let at = c.loop-stmt in
    let item = c.stmt-item.result in
    let i = at.stmt-index in
    let raw = c.args.raw.now in
    let ss = raw_stmt_trees (drop (i + 1) raw) in
    let cut : drop i raw ≡ item ∷ drop (i + 1) raw = drop_at raw i item c.loop-stmt-test.true c.stmt-item.is in
    let made = c.in_ok-statement.ensures in
    record {
      statements = body.turn_statements at.self.next c.statement.new.self.next (raw_stmt_tree item) ss (g.R.Receive.so_far at.self.receiver) (g.R.Receive.so_far c.statement.new.self.receiver) _
          made.statements made.next (rw cut at at.invariant.statements);
      next = body.turn_names at.self.next c.statement.new.self.next _ (raw_stmt_tree item) ss made.next (rw cut at at.invariant.next);
    }

pub statement-returns-in_ok-simple-in-Simple-clause-statements : goal.statement-returns-in_ok-simple-in-Simple-clause-statements
statement-returns-in_ok-simple-in-Simple-clause-statements g t c =
    let s = g.R.Receive.so_far c.args.self.now.receiver in
    let k = c.args.self.now.next in
    let p = raw_simple_tree c.in-Simple.simple in
    let seen : raw_stmt_tree c.args.raw.now ≡ RawDo p = ap raw_stmt_tree c.in-Simple.is ∙ raw_stmt_tree-Simple c.in-Simple.simple in
    let made = raw_stmt_tree-Simple c.in_ok-simple-in-Simple.simple ∙ ap RawDo c.in_ok-simple-in-Simple.ensures.left in
    on_ok_weaker c.push.result
    (λ h. then_pushed s (g.R.Receive.so_far c.simple.new.self.receiver) (g.R.Receive.so_far c.push.new.self.receiver) (simple_before k p) _ _ c.in_ok-simple-in-Simple.ensures.before h made
    ∙ ap (λ x. then_all s (hoisted k x)) (sym seen)) c.push.ensures.statements

pub statement-returns-in_ok-returned-in-Return-clause-statements : goal.statement-returns-in_ok-returned-in-Return-clause-statements
statement-returns-in_ok-returned-in-Return-clause-statements g t c =
    let s = g.R.Receive.so_far c.args.self.now.receiver in
    let k = c.args.self.now.next in
    let v = option_map raw_expr_tree c.in-Return.value in
    let seen : raw_stmt_tree c.args.raw.now ≡ RawReturn c.in-Return.at v = ap raw_stmt_tree c.in-Return.is ∙ raw_stmt_tree-Return c.in-Return.at c.in-Return.value in
    on_ok_weaker c.push-in-Return.result
    (λ h. then_pushed s (g.R.Receive.so_far c.returned.new.self.receiver) (g.R.Receive.so_far c.push-in-Return.new.self.receiver) (returned_before k v) _ _
    c.in_ok-returned-in-Return.ensures.statements h c.in_ok-returned-in-Return.ensures.left
    ∙ ap (λ x. then_all s (hoisted k x)) (sym seen)) c.push-in-Return.ensures.statements

pub body-returns-in_ok-close-clause-statements : goal.body-returns-in_ok-close-clause-statements
body-returns-in_ok-close-clause-statements g t c =
    body.block_after c.args.self.now.next c.open.new.self.next (raw_stmt_tree c.args.raw.now)
    (g.R.Receive.so_far c.args.self.now.receiver) (g.R.Receive.so_far c.open.new.self.receiver) (g.R.Receive.so_far c.statement.new.self.receiver) (g.R.Receive.so_far c.close.new.self.receiver)
    c.in_ok-open.ensures.statements c.in_ok-open.ensures.next c.in_ok-statement.ensures.statements c.in_ok-close.ensures.statements
    (sym (c.stmt_moves.ensures c.args.self.now.next) ∙ c.if-stmt_moves.true)

pub body-returns-in_ok-statement-2-clause-statements : goal.body-returns-in_ok-statement-2-clause-statements
body-returns-in_ok-statement-2-clause-statements g t c =
    body.single_after c.args.self.now.next (raw_stmt_tree c.args.raw.now) (g.R.Receive.so_far c.args.self.now.receiver) (g.R.Receive.so_far c.statement-else-stmt_moves.new.self.receiver)
    c.in_ok-statement-2.ensures.statements (sym (c.stmt_moves.ensures c.args.self.now.next) ∙ c.if-stmt_moves.false)

pub repeated-returns-clause-statements : goal.repeated-returns-clause-statements
repeated-returns-clause-statements g t c =
    body.whole_after (opening_tree c.args.opening) c.args.self.now.next c.open.new.self.next (raw_stmt_tree c.args.body.now)
    (g.R.Receive.so_far c.args.self.now.receiver) (g.R.Receive.so_far c.open.new.self.receiver) (g.R.Receive.so_far c.statement.new.self.receiver) (g.R.Receive.so_far c.close.new.self.receiver)
    c.in_ok-open.ensures.statements c.in_ok-open.ensures.next c.in_ok-statement.ensures.statements c.in_ok-close.ensures.statements

pub statement-returns-in_ok-close-in-Block-clause-statements : goal.statement-returns-in_ok-close-in-Block-clause-statements
statement-returns-in_ok-close-in-Block-clause-statements g t c =
    let seen = ap raw_stmt_tree c.in-Block.is ∙ raw_stmt_tree-Block c.in-Block.stmts in
    body.statements_after c.args.self.now.next c.open.new.self.next (raw_stmt_tree c.args.raw.now) (raw_stmt_trees c.in-Block.stmts.items) (raw_stmt_trees c.deref.result.now)
    (g.R.Receive.so_far c.args.self.now.receiver) (g.R.Receive.so_far c.open.new.self.receiver) (g.R.Receive.so_far c.statements.new.self.receiver) (g.R.Receive.so_far c.close.new.self.receiver)
    seen (ap raw_stmt_trees c.deref.ensures.value) c.in_ok-open-in-Block.ensures.statements c.in_ok-open-in-Block.ensures.next
    c.in_ok-statements-in-Block.ensures.statements c.in_ok-close-in-Block.ensures.statements

pub statement-returns-in_ok-close-in-IfElse-clause-statements : goal.statement-returns-in_ok-close-in-IfElse-clause-statements
statement-returns-in_ok-close-in-IfElse-clause-statements g t c =
    let seen = ap raw_stmt_tree c.in-IfElse.is ∙ raw_stmt_tree-IfElse c.in-IfElse.condition c.in-IfElse.then c.in-IfElse.otherwise in
    let test = c.in_ok-open_if-in-IfElse.ensures in
    let first = c.in_ok-statement-in-IfElse.ensures in
    let turn = c.in_ok-otherwise-in-IfElse.ensures in
    body.both_after c.args.self.now.next c.open_if.new.self.next c.otherwise.new.self.next (raw_stmt_tree c.args.raw.now)
    (raw_stmt_tree c.in-IfElse.then.value) (raw_stmt_tree c.in-IfElse.otherwise.value) (raw_stmt_tree c.deref-in-IfElse.result.now) (raw_stmt_tree c.deref-in-IfElse-2.result.now)
    (raw_expr_tree c.in-IfElse.condition)
    (g.R.Receive.so_far c.args.self.now.receiver) (g.R.Receive.so_far c.open_if.new.self.receiver) (g.R.Receive.so_far c.statement.new.self.receiver) (g.R.Receive.so_far c.otherwise.new.self.receiver)
    (g.R.Receive.so_far c.statement-in-IfElse.new.self.receiver) (g.R.Receive.so_far c.close-in-IfElse.new.self.receiver)
    seen (ap raw_stmt_tree c.deref-in-IfElse.ensures) (ap raw_stmt_tree c.deref-in-IfElse-2.ensures) test.statements test.next first.statements (turn.next ∙ first.next)
    turn.statements c.in_ok-statement-in-IfElse-2.ensures.statements c.in_ok-close-in-IfElse.ensures.statements

pub statement-returns-in_ok-repeated-in-While-clause-next : goal.statement-returns-in_ok-repeated-in-While-clause-next
statement-returns-in_ok-repeated-in-While-clause-next g t c =
    let seen = ap raw_stmt_tree c.in-While.is ∙ raw_stmt_tree-While c.in-While.condition c.in-While.body in
    body.while_names c.args.self.now.next c.repeated.new.self.next (raw_stmt_tree c.args.raw.now) (raw_stmt_tree c.in-While.body.value) (raw_stmt_tree c.deref-else-holds_call.result.now)
    (raw_expr_tree c.in-While.condition) seen (ap raw_stmt_tree c.deref-else-holds_call.ensures) (sym c.holds_call.ensures ∙ c.if-holds_call.false) c.in_ok-repeated-in-While.ensures.next
