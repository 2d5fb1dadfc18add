use Rattle.std.proofs.Common.{rules}
use Rattle.hoist_rules.proofs.Common.{before, ◌≡◌, ◌∙◌, [], map, vec_len, sym, ap, subst, RawExprTree, raw_expr_tree, raw_chained, raw_operand_tree, raw_expr_tree-Chain, holds_call, some_mapped, some_chain, value_before, are_some}
use Rattle.hoist_rules.proofs.MovedCalls.{joined_moves, some_before, moving}
use Rattle.hoist_rules.proofs.singles.+moves_call.Goals as goal

pub returns-else-is_empty : goal.returns-else-is_empty
returns-else-is_empty t c = λ k.
    let first = c.in-Chain.first in
    let rest = c.in-Chain.rest in
    let some : map raw_operand_tree rest.items ≡ [] → ⊥ = some_mapped raw_operand_tree rest.items (vec_len rest) c.is_empty.result c.if-is_empty.false c.is_empty.ensures rest.ok.0 in
    let same : raw_expr_tree c.args.value.now ≡ raw_chained (raw_expr_tree first.value) (map raw_operand_tree rest.items) = ap raw_expr_tree c.in-Chain.is ∙ raw_expr_tree-Chain first rest in
    let P : RawExprTree → Type 0 = λ e. holds_call e ≡ are_some (value_before k e) in
    let all = some_chain P (λ l op r. joined_moves l op r k) (raw_expr_tree first.value) (map raw_operand_tree rest.items) some in
    c.holds_call-else-is_empty.ensures ∙ subst P (sym same) all

pub returns-in_default : goal.returns-in_default
returns-in_default t c = λ k.
    let e = raw_expr_tree c.args.value.now in
    let same : before k e ≡ value_before k e = search (rules, moving, c.in_default.not-Chain, c.in_default.not-Call, c.in_default.not-TableCall) in
    c.holds_call-in_default.ensures ∙ (sym (some_before k e) ∙ ap are_some same)
