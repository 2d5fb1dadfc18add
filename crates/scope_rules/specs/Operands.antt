-- The operators of a chain, as the code has them: the rules that their operands break, and their trees with numbers in
-- place of names.
use Rattle.std.specs.Prelude.{List, [], ◌∷◌, ◌++◌}
use Rattle.c_tree.specs.declared.operators.Infix.{Infix}
use Rattle.c_tree.specs.declared.expressions.Expr.{Expr}
use Rattle.c_tree.specs.declared.raw_expressions.RawExpr.{RawExpr}
use Rattle.c_tree.specs.RawViews.{raw_expr_tree}
use Rattle.c_tree.specs.Views.{expr_tree}
use Rattle.c_tree.specs.Trees.{ExprTree}
use Rattle.scope_rules.specs.declared.faults.Fault.{Fault}
use Rattle.scope_rules.specs.Names.{Binding}
use Rattle.scope_rules.specs.Expressions.{expr_faults, expr_of}

abbrev pub operand_trees : List (Infix × Expr) → List (Infix × ExprTree)
operand_trees [] = []
operand_trees (p ∷ ps) = (p.0, expr_tree p.1) ∷ operand_trees ps

abbrev pub operands_of : List Binding → List (Infix × RawExpr) → List (Infix × ExprTree)
operands_of names [] = []
operands_of names (p ∷ ps) = (p.0, expr_of names (raw_expr_tree p.1)) ∷ operands_of names ps

abbrev pub operands_faults : List Binding → List (Infix × RawExpr) → List Fault
operands_faults names [] = []
operands_faults names (p ∷ ps) = expr_faults names (raw_expr_tree p.1) ++ operands_faults names ps
