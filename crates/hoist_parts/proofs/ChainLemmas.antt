-- Operators one after another, with one more.
use Rattle.hoist_parts.proofs.Common.{◌≡◌, refl, List, [], ◌∷◌, ◌++◌, Infix, RawExprTree, raw_expr_tree, raw_joined, raw_chained}
use Rattle.c_tree.specs.declared.raw_expressions.RawExpr.{RawExpr}
use Rattle.hoist_parts.specs.Chains.{operand_trees}

pub chained_more : (l : RawExprTree) (ps : List (Infix × RawExpr)) (op : Infix) (e : RawExpr) → raw_chained l (operand_trees (ps ++ (op, e) ∷ [])) ≡ raw_joined (raw_chained l (operand_trees ps)) op (raw_expr_tree e)
chained_more l [] op e = refl
chained_more l (p ∷ ps) op e = chained_more (raw_joined l p.0 (raw_expr_tree p.1)) ps op e
