use Rattle.source_items.proofs.Common.{◌≡◌, [], ◌∷◌, List, length, map, arith, sym, ap, ◌∙◌, Expr, Infix, IsInRange, expr_tree, chained, operand_tree, expr_tree-Chain, value, rows_in}
use Rattle.source_items.proofs.Pairs.{one-element, pair-value, pair-in-range}
use Rattle.source_items.proofs.values.short_value.Goals as goal
use Rattle.source_items.proofs.values.short_value.Goals.{After-index}

-- the expression is a chain of one operator
chain-is : (c : After-index) →
    expr_tree c.args.expr.now ≡ chained (expr_tree c.in-Chain.first.value) ((c.index.result.now.0, expr_tree c.index.result.now.1) ∷ [])
chain-is c =
    let items = c.in-Chain.rest.items in
    let count : length items ≡ 1 = omega (arith, c.if-len-ne1.false, c.len.ensures, c.in-Chain.rest.ok.0) in
    let one = one-element items c.index.result.now count c.index.ensures in
    ap expr_tree c.in-Chain.is ∙ expr_tree-Chain c.in-Chain.first c.in-Chain.rest
    ∙ ap (λ (xs : List (Infix × Expr)). chained (expr_tree c.in-Chain.first.value) (map operand_tree xs)) one

-- both of its operands are in range
both-in-range : (c : After-index) → IsInRange c.args.names.now.widths.now c.args.globals.now.widths.now (expr_tree c.in-Chain.first.value)
    × IsInRange c.args.names.now.widths.now c.args.globals.now.widths.now (expr_tree c.index.result.now.1)
both-in-range c = pair-in-range _ _ _ _ _ _ (chain-is c) c.requires.in_range

pub pair-requires-clause-in_range : goal.pair-requires-clause-in_range
pair-requires-clause-in_range c =
    let both = both-in-range (goal.at.pair-requires-clause-in_range c).After-index in
    c.inside.ensures.in_range c.args.names.now.widths.now c.args.globals.now.widths.now (rw c.deref.ensures both.0)

pub single-requires-clause-in_range : goal.single-requires-clause-in_range
single-requires-clause-in_range c = (both-in-range (goal.at.single-requires-clause-in_range c).After-index).1

pub returns-in_ok-right-in-Chain : goal.returns-in_ok-right-in-Chain
returns-in_ok-right-in-Chain c =
    let names = rows_in c.args.names.now in
    let globals = rows_in c.args.globals.now in
    let left = ap (λ (e : Expr). value names globals (expr_tree e)) (sym c.deref.ensures)
    ∙ (sym (c.inside.ensures.same names globals) ∙ c.in_ok-left-in-Chain.ensures) in
    pair-value names globals _ _ _ _ c.in_ok-left-in-Chain.left c.in_ok-right-in-Chain.right c.joined.result
    (chain-is (goal.at.returns-in_ok-right-in-Chain c).After-index) left c.in_ok-right-in-Chain.ensures c.joined.ensures
