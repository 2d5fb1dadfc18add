use Rattle.hoist_rules.proofs.Common.{◌≡◌, ◌+◌, ◌∙◌, [], map, vec_len, sym, ap, subst, IfOk, OnOk, RawExprTree, raw_expr_tree, raw_chained, raw_operand_tree, raw_expr_tree-Chain, names_in, left_of, before, value_names, value_left, value_before, some_mapped, some_chain, then_all}
use Rattle.hoist_rules.proofs.ValueChains.{joined_value_left, joined_value_before, joined_value_names}
use Rattle.hoist_rules.proofs.hoisting.Hoisting.+value.Goals as goal

pub returns-else-is_empty-clause-left : goal.returns-else-is_empty-clause-left
returns-else-is_empty-clause-left g t c =
    let first = c.in-Chain.first in
    let rest = c.in-Chain.rest in
    let k = c.args.self.now.next in
    let some : map raw_operand_tree rest.items ≡ [] → ⊥ = some_mapped raw_operand_tree rest.items (vec_len rest) c.is_empty.result c.if-is_empty.false c.is_empty.ensures rest.ok.0 in
    let same : raw_expr_tree c.args.raw.now ≡ raw_chained (raw_expr_tree first.value) (map raw_operand_tree rest.items) = ap raw_expr_tree c.in-Chain.is ∙ raw_expr_tree-Chain first rest in
    let P : RawExprTree → Type 0 = λ e. left_of k e ≡ value_left k e in
    let equal : left_of k (raw_expr_tree c.args.raw.now) ≡ value_left k (raw_expr_tree c.args.raw.now) =
    subst P (sym same) (some_chain P (joined_value_left k) (raw_expr_tree first.value) (map raw_operand_tree rest.items) some) in
    subst (λ x. IfOk c.expression.result (λ e. raw_expr_tree e ≡ x)) equal c.expression.ensures.left

pub returns-else-is_empty-clause-before : goal.returns-else-is_empty-clause-before
returns-else-is_empty-clause-before g t c =
    let first = c.in-Chain.first in
    let rest = c.in-Chain.rest in
    let k = c.args.self.now.next in
    let some : map raw_operand_tree rest.items ≡ [] → ⊥ = some_mapped raw_operand_tree rest.items (vec_len rest) c.is_empty.result c.if-is_empty.false c.is_empty.ensures rest.ok.0 in
    let same : raw_expr_tree c.args.raw.now ≡ raw_chained (raw_expr_tree first.value) (map raw_operand_tree rest.items) = ap raw_expr_tree c.in-Chain.is ∙ raw_expr_tree-Chain first rest in
    let P : RawExprTree → Type 0 = λ e. before k e ≡ value_before k e in
    let equal : before k (raw_expr_tree c.args.raw.now) ≡ value_before k (raw_expr_tree c.args.raw.now) =
    subst P (sym same) (some_chain P (joined_value_before k) (raw_expr_tree first.value) (map raw_operand_tree rest.items) some) in
    subst (λ x. OnOk c.expression.result (g.R.Receive.so_far c.expression.new.self.receiver ≡ then_all (g.R.Receive.so_far c.args.self.now.receiver) x)) equal c.expression.ensures.before

pub returns-else-is_empty-clause-next : goal.returns-else-is_empty-clause-next
returns-else-is_empty-clause-next g t c =
    let first = c.in-Chain.first in
    let rest = c.in-Chain.rest in
    let k = c.args.self.now.next in
    let some : map raw_operand_tree rest.items ≡ [] → ⊥ = some_mapped raw_operand_tree rest.items (vec_len rest) c.is_empty.result c.if-is_empty.false c.is_empty.ensures rest.ok.0 in
    let same : raw_expr_tree c.args.raw.now ≡ raw_chained (raw_expr_tree first.value) (map raw_operand_tree rest.items) = ap raw_expr_tree c.in-Chain.is ∙ raw_expr_tree-Chain first rest in
    let P : RawExprTree → Type 0 = λ e. names_in e ≡ value_names e in
    let equal : names_in (raw_expr_tree c.args.raw.now) ≡ value_names (raw_expr_tree c.args.raw.now) =
    subst P (sym same) (some_chain P joined_value_names (raw_expr_tree first.value) (map raw_operand_tree rest.items) some) in
    subst (λ x. OnOk c.expression.result (c.expression.new.self.next ≡ k + x)) equal c.expression.ensures.next
