use Rattle.c_tree.specs.declared.expressions.Expr.{the_lemmas as expr_lemmas}
use Rattle.c_lower.proofs.Common.{◌≡◌, ◌+◌, ◌^◌, ◌∷◌, ◌++◌, ◌∙◌, length, map, drop, rules, ap, expr_tree, chained, drop_at, operand_tree, expr_tree-LocalElement, expr_tree-GlobalElement, expr_tree-Unary, expr_tree-Chain, expr_tree-Conditional, expr_code, on_ok_weaker}
use Rattle.c_lower.proofs.ChainCode.{chained_fits}
use Rattle.c_lower.proofs.ExprGlue.{chain_begun, chain_turn}
use Rattle.c_lower.proofs.Patches.{conditional_patched, and_patched, or_patched}
use Rattle.c_lower.proofs.Glue.{glued2}
use Rattle.c_lower.proofs.expressions.+expressions.Goals as goal

pub put_expr-put_expr-requires-in-Chain : goal.put_expr-put_expr-requires-in-Chain
put_expr-put_expr-requires-in-Chain t c =
    let is : expr_tree c.args.expr.now ≡ chained (expr_tree c.in-Chain.first.value) (map operand_tree c.in-Chain.rest.items) = ap expr_tree c.in-Chain.is ∙ expr_tree-Chain c.in-Chain.first c.in-Chain.rest in
    let whole = rw is at c.requires in
    (search (rules, expr_lemmas), rw c.deref-in-Chain.ensures (chained_fits (2 ^ 32) c.args.k (expr_tree c.in-Chain.first.value) (map operand_tree c.in-Chain.rest.items) whole).0)

pub put_expr-loop-operator-init : goal.put_expr-loop-operator-init
put_expr-loop-operator-init t c =
    let is : expr_tree c.args.expr.now ≡ chained (expr_tree c.in-Chain.first.value) (map operand_tree c.in-Chain.rest.items) = ap expr_tree c.in-Chain.is ∙ expr_tree-Chain c.in-Chain.first c.in-Chain.rest in
    let whole = rw is at c.requires in
    let first : c.put_expr-in-Chain.new.code.items ≡ c.args.code.now.items ++ expr_code (expr_tree c.in-Chain.first.value) (length c.args.code.now.items) c.args.k = rw (← c.deref-in-Chain.ensures) c.in_ok-put_expr-in-Chain.ensures in
    record {
      code = rw (is, c.deref-operator-items.ensures.value) (chain_begun _ _ (expr_tree c.in-Chain.first.value) (map operand_tree c.in-Chain.rest.items) c.args.k first);
      fits = rw c.deref-operator-items.ensures.value (chained_fits (2 ^ 32) c.args.k (expr_tree c.in-Chain.first.value) (map operand_tree c.in-Chain.rest.items) whole).1;
    }

pub put_expr-loop-operator-preserved : goal.put_expr-loop-operator-preserved
put_expr-loop-operator-preserved t c =
    let item = c.loop-operator-item.result in
    let items = c.deref-operator-items.result.now in
    let i = c.loop-operator.operator-index in
    let cut : drop i items ≡ item ∷ drop (i + 1) items = drop_at items i item c.loop-operator-test.true c.loop-operator-item.is in
    let code = rw cut at c.loop-operator.invariant.code in
    let fits = rw cut at c.loop-operator.invariant.fits in
    record {
      code = chain_turn _ _ _ item.0 (expr_tree item.1) (map operand_tree (drop (i + 1) items)) c.args.k code c.in_ok-put_operand-in-Chain.ensures;
      fits = fits.1;
    }

pub put_expr-returns-in-LocalElement : goal.put_expr-returns-in-LocalElement
put_expr-returns-in-LocalElement t c = rw (c.in-LocalElement.is, expr_tree-LocalElement c.in-LocalElement.array c.in-LocalElement.index, ← c.deref.ensures) c.put_then.ensures

pub put_expr-returns-in-GlobalElement : goal.put_expr-returns-in-GlobalElement
put_expr-returns-in-GlobalElement t c = rw (c.in-GlobalElement.is, expr_tree-GlobalElement c.in-GlobalElement.array c.in-GlobalElement.index, ← c.deref-in-GlobalElement.ensures) c.put_then-in-GlobalElement.ensures

pub put_expr-returns-in_ok-put_expr-in-Unary : goal.put_expr-returns-in_ok-put_expr-in-Unary
put_expr-returns-in_ok-put_expr-in-Unary t c =
    let operand : c.put_expr.new.code.items ≡ c.args.code.now.items ++ expr_code (expr_tree c.in-Unary.operand.value) (length c.args.code.now.items) c.args.k = rw (← c.deref-in-Unary.ensures) c.in_ok-put_expr-in-Unary.ensures in
    rw (c.in-Unary.is, expr_tree-Unary c.in-Unary.operator c.in-Unary.operand)
    (on_ok_weaker c.put_unary.result (glued2 _ _ _ _ _ operand) c.put_unary.ensures)

pub put_expr-returns-in_ok-put_expr-in-Conditional-3 : goal.put_expr-returns-in_ok-put_expr-in-Conditional-3
put_expr-returns-in_ok-put_expr-in-Conditional-3 t c =
    let k = c.args.k in
    let c0 = c.args.code.now.items in
    let c1 = c.put_expr-in-Conditional.new.code.items in
    let d2 = c.put_open.new.code.items in
    let d3 = c.put_expr-in-Conditional-2.new.code.items in
    let d4 = c.put_between.new.code.items in
    let d5 = c.put_expr-in-Conditional-3.new.code.items in
    let condition = expr_tree c.in-Conditional.condition.value in
    let first = expr_tree c.in-Conditional.then.value in
    let other = expr_tree c.in-Conditional.otherwise.value in
    let test = c.in_ok-test-in-Conditional in
    let jump = c.in_ok-jump-in-Conditional in
    let e1 : c1 ≡ c0 ++ expr_code condition (length c0) k = rw (← c.deref-in-Conditional.ensures) c.in_ok-put_expr-in-Conditional.ensures in
    let e3 : d3 ≡ d2 ++ expr_code first (length d2) k = rw (← c.deref-in-Conditional-2.ensures) c.in_ok-put_expr-in-Conditional-2.ensures in
    let e5 : d5 ≡ d4 ++ expr_code other (length d4) k = rw (← c.deref-in-Conditional-3.ensures) c.in_ok-put_expr-in-Conditional-3.ensures in
    rw (c.in-Conditional.is, expr_tree-Conditional c.in-Conditional.condition c.in-Conditional.then c.in-Conditional.otherwise)
    (on_ok_weaker c.close_jump.result
    (conditional_patched c0 c1 d2 d3 d4 d5 c.close_jump.new.code.items condition first other k test.test jump.jump e1 test.ensures.place test.ensures.code e3 jump.ensures.place jump.ensures.code e5)
    c.close_jump.ensures)

pub put_operand-returns-in_ok-put_expr-in-LogicalAnd : goal.put_operand-returns-in_ok-put_expr-in-LogicalAnd
put_operand-returns-in_ok-put_expr-in-LogicalAnd t c =
    let test = c.in_ok-test-in-LogicalAnd in
    rw c.in-LogicalAnd.is
    (on_ok_weaker c.put_both.result
    (and_patched c.args.code.now.items c.put_open.new.code.items c.put_expr.new.code.items c.put_both.new.code.items (expr_tree c.args.operand.now) c.args.k test.test test.ensures.place test.ensures.code c.in_ok-put_expr-in-LogicalAnd.ensures)
    c.put_both.ensures)

pub put_operand-returns-in_ok-put_expr-in-LogicalOr : goal.put_operand-returns-in_ok-put_expr-in-LogicalOr
put_operand-returns-in_ok-put_expr-in-LogicalOr t c =
    let jump = c.in_ok-jump-in-LogicalOr in
    rw c.in-LogicalOr.is
    (on_ok_weaker c.put_either.result
    (or_patched c.args.code.now.items c.put_unless.new.code.items c.put_expr-in-LogicalOr.new.code.items c.put_either.new.code.items (expr_tree c.args.operand.now) c.args.k jump.jump jump.ensures.place jump.ensures.code c.in_ok-put_expr-in-LogicalOr.ensures)
    c.put_either.ensures)
