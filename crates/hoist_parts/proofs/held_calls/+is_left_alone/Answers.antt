use Rattle.hoist_parts.proofs.Common.{◌≡◌, ◌∙◌, [], false, map, vec_len, sym, ap, subst, RawExprTree, raw_expr_tree, raw_chained, raw_operand_tree, raw_expr_tree-Chain, is_left_alone}
use Rattle.hoist_parts.proofs.HeldChains.{some_mapped, some_chain, joined_alone}
use Rattle.hoist_parts.proofs.held_calls.+is_left_alone.Goals as goal

pub returns-else-is_empty : goal.returns-else-is_empty
returns-else-is_empty t c =
    let first = c.in-Chain.first in
    let rest = c.in-Chain.rest in
    let some : map raw_operand_tree rest.items ≡ [] → ⊥ = some_mapped raw_operand_tree rest.items (vec_len rest) c.is_empty.result c.if-is_empty.false c.is_empty.ensures rest.ok.0 in
    let same : raw_expr_tree c.args.expr.now ≡ raw_chained (raw_expr_tree first.value) (map raw_operand_tree rest.items) = ap raw_expr_tree c.in-Chain.is ∙ raw_expr_tree-Chain first rest in
    let P : RawExprTree → Type 0 = λ e. is_left_alone e ≡ false in
    c.if-is_empty.false ∙ sym (subst P (sym same) (some_chain P joined_alone (raw_expr_tree first.value) (map raw_operand_tree rest.items) some))
