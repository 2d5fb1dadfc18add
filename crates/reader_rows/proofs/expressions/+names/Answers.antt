use Rattle.std.proofs.Common.{◌≡◌, ◌∙◌, ap, map}
use Rattle.c_tree.specs.Views.{expr_tree, chained}
use Rattle.c_tree.proofs.ExprEquations.{operand_tree, expr_tree-Chain}
use Rattle.reader_rows.proofs.Small.{chain_uses}
use Rattle.reader_rows.proofs.expressions.+names.Goals as goal

pub fits-returns-then-fits : goal.fits-returns-then-fits
fits-returns-then-fits t c = λ all.
    let is : expr_tree c.args.expr.now ≡ chained (expr_tree c.in-Chain.first.value) (map operand_tree c.in-Chain.rest.items) = ap expr_tree c.in-Chain.is ∙ expr_tree-Chain c.in-Chain.first c.in-Chain.rest in
    chain_uses (expr_tree c.args.expr.now) (expr_tree c.in-Chain.first.value) c.in-Chain.rest.items is
    (rw (← c.deref-in-Chain.ensures) (c.fits-in-Chain.ensures c.if-fits.true))
    (rw (← c.deref-then-fits.ensures.value) (c.all_fit.ensures all))
