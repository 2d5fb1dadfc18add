use Rattle.call_places.proofs.Common.{◌≡◌, ◌++◌, ◌∷◌, [], map, sym, ap, ◌∙◌, on_ok_weaker, raw_expr_tree, raw_expr_trees, raw_chained, raw_operand_tree, raw_expr_tree-Chain, raw_expr_tree-Conditional, raw_expr_tree-Call, raw_expr_tree-TableCall, is_call, expr_places, exprs_places}
use Rattle.call_places.proofs.ChainPlaces.{chain_begins, two_added, three_added}
use Rattle.call_places.proofs.calls.+exprs.Goals as goal

pub add_expr-loop-operand-init : goal.add_expr-loop-operand-init
add_expr-loop-operand-init t c =
    let l = raw_expr_tree c.deref-in-Chain.result.now in
    let same : raw_expr_tree c.args.expr.now ≡ raw_chained l (map raw_operand_tree c.deref-operand-items.result.now) =
    ap raw_expr_tree c.in-Chain.is
    ∙ (raw_expr_tree-Chain c.in-Chain.first c.in-Chain.rest
    ∙ (λ i. raw_chained (raw_expr_tree (sym c.deref-in-Chain.ensures i)) (map raw_operand_tree (sym c.deref-operand-items.ensures.value i)))) in
    chain_begins c.args.places.now.items c.add_expr-in-Chain.new.places.items (raw_expr_tree c.args.expr.now) l (map raw_operand_tree c.deref-operand-items.result.now) c.in_ok-add_expr-in-Chain.ensures same

pub add_expr-returns-in_ok-add_expr-in-Conditional-2 : goal.add_expr-returns-in_ok-add_expr-in-Conditional-2
add_expr-returns-in_ok-add_expr-in-Conditional-2 t c =
    let same =
    ap (λ e. expr_places is_call (raw_expr_tree e)) c.in-Conditional.is
    ∙ (ap (expr_places is_call) (raw_expr_tree-Conditional c.in-Conditional.condition c.in-Conditional.then c.in-Conditional.otherwise)
    ∙ (λ i. expr_places is_call (raw_expr_tree (sym c.deref-in-Conditional.ensures i)) ++ (expr_places is_call (raw_expr_tree (sym c.deref-in-Conditional-2.ensures i)) ++ expr_places is_call (raw_expr_tree (sym c.deref-in-Conditional-3.ensures i))))) in
    on_ok_weaker c.add_expr-in-Conditional-3.result
    (λ h. three_added c.args.places.now.items c.add_expr-in-Conditional.new.places.items c.add_expr-in-Conditional-2.new.places.items c.add_expr-in-Conditional-3.new.places.items
    (expr_places is_call (raw_expr_tree c.deref-in-Conditional.result.now)) (expr_places is_call (raw_expr_tree c.deref-in-Conditional-2.result.now)) (expr_places is_call (raw_expr_tree c.deref-in-Conditional-3.result.now))
    (expr_places is_call (raw_expr_tree c.args.expr.now)) c.in_ok-add_expr-in-Conditional.ensures c.in_ok-add_expr-in-Conditional-2.ensures same h)
    c.add_expr-in-Conditional-3.ensures

pub add_expr-returns-in_ok-add-in-Call : goal.add_expr-returns-in_ok-add-in-Call
add_expr-returns-in_ok-add-in-Call t c =
    let same =
    ap (λ e. expr_places is_call (raw_expr_tree e)) c.in-Call.is
    ∙ (ap (expr_places is_call) (raw_expr_tree-Call c.in-Call.name c.in-Call.arguments)
    ∙ (λ i. c.in-Call.name.at ∷ exprs_places is_call (raw_expr_trees (sym c.deref-in-Call.ensures.value i)))) in
    on_ok_weaker c.add_exprs.result
    (λ h. two_added c.args.places.now.items c.add.new.places.items c.add_exprs.new.places.items (c.in-Call.name.at ∷ []) (exprs_places is_call (raw_expr_trees c.deref-in-Call.result.now))
    (expr_places is_call (raw_expr_tree c.args.expr.now)) c.in_ok-add-in-Call.ensures same h)
    c.add_exprs.ensures

pub add_expr-returns-in_ok-add_expr-in-TableCall : goal.add_expr-returns-in_ok-add_expr-in-TableCall
add_expr-returns-in_ok-add_expr-in-TableCall t c =
    let same =
    ap (λ e. expr_places is_call (raw_expr_tree e)) c.in-TableCall.is
    ∙ (ap (expr_places is_call) (raw_expr_tree-TableCall c.in-TableCall.name c.in-TableCall.index c.in-TableCall.argument)
    ∙ (λ i. c.in-TableCall.name.at ∷ (expr_places is_call (raw_expr_tree (sym c.deref-in-TableCall.ensures i)) ++ expr_places is_call (raw_expr_tree (sym c.deref-in-TableCall-2.ensures i))))) in
    on_ok_weaker c.add_expr-in-TableCall-2.result
    (λ h. three_added c.args.places.now.items c.add-in-TableCall.new.places.items c.add_expr-in-TableCall.new.places.items c.add_expr-in-TableCall-2.new.places.items
    (c.in-TableCall.name.at ∷ []) (expr_places is_call (raw_expr_tree c.deref-in-TableCall.result.now)) (expr_places is_call (raw_expr_tree c.deref-in-TableCall-2.result.now))
    (expr_places is_call (raw_expr_tree c.args.expr.now)) c.in_ok-add-in-TableCall.ensures c.in_ok-add_expr-in-TableCall.ensures same h)
    c.add_expr-in-TableCall-2.ensures
