-- Expressions without names, and those over the names of the rows.
use Rattle.std.specs.Prelude.{List, [], ◌∷◌}
use Rattle.c_tree.specs.declared.expressions.Expr.{Expr}
use Rattle.c_tree.specs.declared.operators.Infix.{Infix}
use Rattle.c_tree.specs.Trees.{ExprTree}
use Rattle.c_tree.specs.Views.{expr_tree}
use Rattle.c_mean.specs.Layout.{IsInRange}

-- the expression names nothing
abbrev pub NamesNothing : ExprTree → Type 0
NamesNothing e = IsInRange [] [] e

-- the expression uses `x` and `y`, of one word, and `a`, of three, and the globals `g` and `h`, of one and two words
abbrev pub UsesRowNames : ExprTree → Type 0
UsesRowNames e = IsInRange (1 ∷ 1 ∷ 3 ∷ []) (1 ∷ 2 ∷ []) e

abbrev pub UseRowNames : List (Infix × Expr) → Type 0
UseRowNames [] = Unit {0}
UseRowNames (p ∷ ps) = UsesRowNames (expr_tree p.1) × UseRowNames ps
