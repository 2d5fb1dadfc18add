use Rattle.source_items.proofs.Common.{◌≡◌, ◌+◌, ◌∷◌, List, ◌∙◌, map, drop, rules, sym, ap, Ok, Err, Expr, Infix, expr_tree, chained, chain_value, drop_at, operand_tree, expr_tree-Chain, rows_of, value, first_trap, first_value, later_trap, chain_in_range}
use Rattle.cap_word.specs.declared.traps.TrapKind.{TrapKind}
use Rattle.c_tree.specs.declared.expressions.Expr.{the_lemmas as expr_lemmas}
use Rattle.source_items.proofs.values.+operand.Goals as goal

pub composed-operand-requires-in-Chain : goal.composed-operand-requires-in-Chain
composed-operand-requires-in-Chain t c =
    let is : expr_tree c.args.expr.now ≡ chained (expr_tree c.in-Chain.first.value) (map operand_tree c.in-Chain.rest.items) = ap expr_tree c.in-Chain.is ∙ expr_tree-Chain c.in-Chain.first c.in-Chain.rest in
    let both = chain_in_range c.args.names.now.widths.now c.args.globals.now.widths.now (expr_tree c.args.expr.now) (expr_tree c.in-Chain.first.value) (map operand_tree c.in-Chain.rest.items) is c.requires.in_range in
    (search (rules, expr_lemmas), (c.requires.names, (c.requires.globals, rw c.deref-in-Chain.ensures both.0)))

pub composed-returns-in_err-left-in-Chain : goal.composed-returns-in_err-left-in-Chain
composed-returns-in_err-left-in-Chain t c =
    let is : expr_tree c.args.expr.now ≡ chained (expr_tree c.in-Chain.first.value) (map operand_tree c.in-Chain.rest.items) = ap expr_tree c.in-Chain.is ∙ expr_tree-Chain c.in-Chain.first c.in-Chain.rest in
    let e : Err TrapKind.Index ≡ value (rows_of c.args.names.now.widths.now c.args.names.now.words.now) (rows_of c.args.globals.now.widths.now c.args.globals.now.words.now) (expr_tree c.in-Chain.first.value) = rw (← c.deref-in-Chain.ensures) c.in_err-left-in-Chain.ensures in
    let all = first_trap (rows_of c.args.names.now.widths.now c.args.names.now.words.now) (rows_of c.args.globals.now.widths.now c.args.globals.now.words.now) (expr_tree c.args.expr.now) (expr_tree c.in-Chain.first.value) (map operand_tree c.in-Chain.rest.items) is TrapKind.Index e in
    rw c.from_residual-in_err-left-in-Chain.ensures all

pub composed-loop-operator-init : goal.composed-loop-operator-init
composed-loop-operator-init t c =
    let is : expr_tree c.args.expr.now ≡ chained (expr_tree c.in-Chain.first.value) (map operand_tree c.in-Chain.rest.items) = ap expr_tree c.in-Chain.is ∙ expr_tree-Chain c.in-Chain.first c.in-Chain.rest in
    let both = chain_in_range c.args.names.now.widths.now c.args.globals.now.widths.now (expr_tree c.args.expr.now) (expr_tree c.in-Chain.first.value) (map operand_tree c.in-Chain.rest.items) is c.requires.in_range in
    let e : Ok c.in_ok-left-in-Chain.left ≡ value (rows_of c.args.names.now.widths.now c.args.names.now.words.now) (rows_of c.args.globals.now.widths.now c.args.globals.now.words.now) (expr_tree c.in-Chain.first.value) = rw (← c.deref-in-Chain.ensures) c.in_ok-left-in-Chain.ensures in
    record {
      left = rw c.deref-operator-items.ensures.value (first_value (rows_of c.args.names.now.widths.now c.args.names.now.words.now) (rows_of c.args.globals.now.widths.now c.args.globals.now.words.now) (expr_tree c.args.expr.now) (expr_tree c.in-Chain.first.value) (map operand_tree c.in-Chain.rest.items) is c.in_ok-left-in-Chain.left e);
      in_range = rw c.deref-operator-items.ensures.value both.1;
    }

pub composed-returns-in_err-right-in-Chain : goal.composed-returns-in_err-right-in-Chain
composed-returns-in_err-right-in-Chain t c =
    let item = c.loop-operator-item.result in
    let items = c.deref-operator-items.result.now in
    let i = c.loop-operator.operator-index in
    let cut : drop i items ≡ item ∷ drop (i + 1) items = drop_at items i item c.loop-operator-test.true c.loop-operator-item.is in
    let here : chain_value (rows_of c.args.names.now.widths.now c.args.names.now.words.now) (rows_of c.args.globals.now.widths.now c.args.globals.now.words.now) (Ok c.loop-operator.left) (operand_tree item ∷ map operand_tree (drop (i + 1) items)) ≡ value (rows_of c.args.names.now.widths.now c.args.names.now.words.now) (rows_of c.args.globals.now.widths.now c.args.globals.now.words.now) (expr_tree c.args.expr.now) =
    ap (λ (rest : List (Infix × Expr)). chain_value (rows_of c.args.names.now.widths.now c.args.names.now.words.now) (rows_of c.args.globals.now.widths.now c.args.globals.now.words.now) (Ok c.loop-operator.left) (map operand_tree rest)) (sym cut) ∙ c.loop-operator.invariant.left in
    let all = later_trap (rows_of c.args.names.now.widths.now c.args.names.now.words.now) (rows_of c.args.globals.now.widths.now c.args.globals.now.words.now) (value (rows_of c.args.names.now.widths.now c.args.names.now.words.now) (rows_of c.args.globals.now.widths.now c.args.globals.now.words.now) (expr_tree c.args.expr.now)) c.loop-operator.left item.0 (expr_tree item.1) (map operand_tree (drop (i + 1) items)) TrapKind.Index here c.in_default.ensures c.in_err-right-in-Chain.ensures in
    rw c.from_residual-in_err-right-in-Chain.ensures all

pub composed-operand-requires-in_default : goal.composed-operand-requires-in_default
composed-operand-requires-in_default t c =
    let item = c.loop-operator-item.result in
    let items = c.deref-operator-items.result.now in
    let i = c.loop-operator.operator-index in
    let cut : drop i items ≡ item ∷ drop (i + 1) items = drop_at items i item c.loop-operator-test.true c.loop-operator-item.is in
    let all = rw cut at c.loop-operator.invariant.in_range in
    (search (rules, expr_lemmas), (c.requires.names, (c.requires.globals, all.0)))
