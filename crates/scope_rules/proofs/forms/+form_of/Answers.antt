use Rattle.scope_rules.proofs.Common.{◌<◌, length, map, rules, length-map, raw_expr_tree, raw_expr_tree-Chain, raw_operand_tree}
use Rattle.scope_rules.proofs.NeitherForms.{chained_neither}
use Rattle.scope_rules.proofs.forms.+form_of.Goals as goal

pub returns-else-is_empty : goal.returns-else-is_empty
returns-else-is_empty t c =
    let h : 0 < length c.in-Chain.rest.items = search rules in
    rw (c.in-Chain.is, raw_expr_tree-Chain c.in-Chain.first c.in-Chain.rest) (chained_neither (raw_expr_tree c.in-Chain.first.value) (map raw_operand_tree c.in-Chain.rest.items) (rw (length-map c.in-Chain.rest.items raw_operand_tree) h))
