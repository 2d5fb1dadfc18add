use Rattle.std.proofs.Common.{◌≡◌, ◌+◌, ◌∷◌, List, ◌∙◌, map, drop, rules, sym, ap}
use Rattle.std.specs.Prelude.{Ok, Err}
use Rattle.std.proofs.lemmas.Result.{err_from_is_err_and}
use Rattle.c_tree.specs.declared.expressions.Expr.{Expr}
use Rattle.c_tree.specs.declared.expressions.Expr.{the_lemmas as expr_lemmas}
use Rattle.c_tree.specs.declared.operators.Infix.{Infix}
use Rattle.c_tree.specs.Views.{expr_tree, chained}
use Rattle.c_mean.specs.Chains.{chain_value}
use Rattle.c_tree.proofs.Cuts.{drop_at}
use Rattle.c_tree.proofs.ExprEquations.{operand_tree, expr_tree-Chain}
use Rattle.c_mean.specs.Layout.{rows_of, widths_of}
use Rattle.c_mean.specs.Values.{value}
use Rattle.c_mean.proofs.ChainLemmas.{first_trap, first_value, later_trap, chain_in_range}
use Rattle.c_mean.proofs.values.+evaluate.Goals as goal

pub evaluate-requires-in-Chain : goal.evaluate-requires-in-Chain
evaluate-requires-in-Chain t c =
    let is : expr_tree c.args.expr.now ≡ chained (expr_tree c.in-Chain.first.value) (map operand_tree c.in-Chain.rest.items) = ap expr_tree c.in-Chain.is ∙ expr_tree-Chain c.in-Chain.first c.in-Chain.rest in
    let both = chain_in_range c.args.sizes.now (widths_of c.args.facts.now) (expr_tree c.args.expr.now) (expr_tree c.in-Chain.first.value) (map operand_tree c.in-Chain.rest.items) is c.requires.in_range in
    (search (rules, expr_lemmas), (c.requires.names, (c.requires.globals, rw c.deref-in-Chain.ensures both.0)))

pub returns-in_err-left-in-Chain : goal.returns-in_err-left-in-Chain
returns-in_err-left-in-Chain t c =
    let is : expr_tree c.args.expr.now ≡ chained (expr_tree c.in-Chain.first.value) (map operand_tree c.in-Chain.rest.items) = ap expr_tree c.in-Chain.is ∙ expr_tree-Chain c.in-Chain.first c.in-Chain.rest in
    let p = err_from_is_err_and c.from_residual-in_err-left-in-Chain.result c.from_residual-in_err-left-in-Chain.ensures.1 in
    let e : Err c.in_err-left-in-Chain.field-0.0 ≡ value (rows_of c.args.sizes.now c.args.names.now) (rows_of (widths_of c.args.facts.now) c.args.globals.now) (expr_tree c.in-Chain.first.value) = rw (← c.deref-in-Chain.ensures) c.in_err-left-in-Chain.ensures in
    let all = first_trap (rows_of c.args.sizes.now c.args.names.now) (rows_of (widths_of c.args.facts.now) c.args.globals.now) (expr_tree c.args.expr.now) (expr_tree c.in-Chain.first.value) (map operand_tree c.in-Chain.rest.items) is c.in_err-left-in-Chain.field-0.0 e in
    rw (p.1, p.2) all

pub loop-operator-init : goal.loop-operator-init
loop-operator-init t c =
    let is : expr_tree c.args.expr.now ≡ chained (expr_tree c.in-Chain.first.value) (map operand_tree c.in-Chain.rest.items) = ap expr_tree c.in-Chain.is ∙ expr_tree-Chain c.in-Chain.first c.in-Chain.rest in
    let both = chain_in_range c.args.sizes.now (widths_of c.args.facts.now) (expr_tree c.args.expr.now) (expr_tree c.in-Chain.first.value) (map operand_tree c.in-Chain.rest.items) is c.requires.in_range in
    let e : Ok c.in_ok-left-in-Chain.left ≡ value (rows_of c.args.sizes.now c.args.names.now) (rows_of (widths_of c.args.facts.now) c.args.globals.now) (expr_tree c.in-Chain.first.value) = rw (← c.deref-in-Chain.ensures) c.in_ok-left-in-Chain.ensures in
    record {
      left = rw c.deref-operator-items.ensures.value (first_value (rows_of c.args.sizes.now c.args.names.now) (rows_of (widths_of c.args.facts.now) c.args.globals.now) (expr_tree c.args.expr.now) (expr_tree c.in-Chain.first.value) (map operand_tree c.in-Chain.rest.items) is c.in_ok-left-in-Chain.left e);
      in_range = rw c.deref-operator-items.ensures.value both.1;
    }

pub returns-in_err-right-in-Chain : goal.returns-in_err-right-in-Chain
returns-in_err-right-in-Chain t c =
    let item = c.loop-operator-item.result in
    let items = c.deref-operator-items.result.now in
    let i = c.loop-operator.operator-index in
    let p = err_from_is_err_and c.from_residual-in_err-right-in-Chain.result c.from_residual-in_err-right-in-Chain.ensures.1 in
    let cut : drop i items ≡ item ∷ drop (i + 1) items = drop_at items i item c.loop-operator-test.true c.loop-operator-item.is in
    let here : chain_value (rows_of c.args.sizes.now c.args.names.now) (rows_of (widths_of c.args.facts.now) c.args.globals.now) (Ok c.loop-operator.left) (operand_tree item ∷ map operand_tree (drop (i + 1) items)) ≡ value (rows_of c.args.sizes.now c.args.names.now) (rows_of (widths_of c.args.facts.now) c.args.globals.now) (expr_tree c.args.expr.now) =
    ap (λ (rest : List (Infix × Expr)). chain_value (rows_of c.args.sizes.now c.args.names.now) (rows_of (widths_of c.args.facts.now) c.args.globals.now) (Ok c.loop-operator.left) (map operand_tree rest)) (sym cut) ∙ c.loop-operator.invariant.left in
    let all = later_trap (rows_of c.args.sizes.now c.args.names.now) (rows_of (widths_of c.args.facts.now) c.args.globals.now) (value (rows_of c.args.sizes.now c.args.names.now) (rows_of (widths_of c.args.facts.now) c.args.globals.now) (expr_tree c.args.expr.now)) c.loop-operator.left item.0 (expr_tree item.1) (map operand_tree (drop (i + 1) items)) c.in_err-right-in-Chain.field-0.0 here c.in_default.ensures c.in_err-right-in-Chain.ensures in
    rw (p.1, p.2) all
