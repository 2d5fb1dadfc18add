use Rattle.std.proofs.Common.{◌≡◌, [], ◌∷◌, ◌++◌, map, sym, ap, ◌∙◌, subst}
use Rattle.std.proofs.lemmas.List.{map-append}
use Rattle.c_tree.specs.declared.operators.BinaryOperator.{BinaryOperator}
use Rattle.c_tree.specs.declared.operators.Infix.{Infix}
use Rattle.c_tree.specs.declared.expressions.Expr.{Expr}
use Rattle.c_tree.specs.Views.{expr_tree}
use Rattle.c_tree.proofs.ExprEquations.{operand_tree, expr_tree-Number, expr_tree-Chain}
use Rattle.c_mean.specs.Layout.{IsInRange}
use Rattle.c_mean.proofs.ChainLemmas.{OperandsInRange}
use Rattle.reader_rows.proofs.Small.{operands_push, chained_in}
use Rattle.reader_rows.proofs.values.long_sum.Goals as goal

one_named : IsInRange [] [] (expr_tree (Expr.Number 1))
one_named = rw expr_tree-Number tt

pub loop-preserved : goal.loop-preserved
loop-preserved c =
    let one : Infix × Expr = (Infix.Binary BinaryOperator.Add, Expr.Number 1) in
    let all : map operand_tree c.push.new.self.items ≡ map operand_tree c.loop.rest.items ++ operand_tree one ∷ [] = ap (map operand_tree) c.in_ok-push.ensures.items ∙ map-append operand_tree c.loop.rest.items (one ∷ []) in
    subst (OperandsInRange [] []) (sym all) (operands_push [] [] (map operand_tree c.loop.rest.items) (operand_tree one) c.loop.invariant one_named)

pub returns : goal.returns
returns c =
    rw expr_tree-Chain (chained_in [] [] (expr_tree c.in_ok-new.field-0.value) (map operand_tree c.loop.rest.items) (rw c.in_ok-new.ensures.ok one_named) c.loop.invariant)
