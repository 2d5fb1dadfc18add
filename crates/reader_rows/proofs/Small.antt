-- A chain of numbers names nothing.
use Rattle.std.proofs.Common.{ℕ, ◌≡◌, sym, subst, List, [], ◌∷◌, ◌++◌, map}
use Rattle.c_tree.specs.declared.expressions.Expr.{Expr}
use Rattle.c_tree.proofs.ExprEquations.{operand_tree}
use Rattle.reader_rows.specs.Small.{UsesRowNames, UseRowNames}
use Rattle.c_tree.specs.declared.operators.Infix.{Infix}
use Rattle.c_tree.specs.Trees.{ExprTree}
use Rattle.c_tree.specs.Views.{joined, chained}
use Rattle.c_mean.specs.Layout.{IsInRange}
use Rattle.c_mean.proofs.ChainLemmas.{OperandsInRange}

pub operands_push : (sizes widths : List ℕ) (ps : List (Infix × ExprTree)) (p : Infix × ExprTree) → OperandsInRange sizes widths ps → IsInRange sizes widths p.1 → OperandsInRange sizes widths (ps ++ p ∷ [])
operands_push sizes widths [] p h k = (k, tt)
operands_push sizes widths (q ∷ ps) p h k = (h.0, operands_push sizes widths ps p h.1 k)

joined_in : (sizes widths : List ℕ) (l : ExprTree) (o : Infix) (r : ExprTree) → IsInRange sizes widths l → IsInRange sizes widths r → IsInRange sizes widths (joined l o r)
joined_in sizes widths l (Infix.Binary operator) r h k = (h, k)
joined_in sizes widths l _ r h k = (h, k)

pub chained_in : (sizes widths : List ℕ) (l : ExprTree) (ps : List (Infix × ExprTree)) → IsInRange sizes widths l → OperandsInRange sizes widths ps → IsInRange sizes widths (chained l ps)
chained_in sizes widths l [] h k = h
chained_in sizes widths l (p ∷ ps) h k = chained_in sizes widths (joined l p.0 p.1) ps (joined_in sizes widths l p.0 p.1 h k.0) k.1

-- operands over the names of the rows
pub rows_in : (ps : List (Infix × Expr)) → UseRowNames ps → OperandsInRange (1 ∷ 1 ∷ 3 ∷ []) (1 ∷ 2 ∷ []) (map operand_tree ps)
rows_in [] h = tt
rows_in (p ∷ ps) h = (h.0, rows_in ps h.1)

pub chain_uses : (e first : ExprTree) (ps : List (Infix × Expr)) → e ≡ chained first (map operand_tree ps) → UsesRowNames first → UseRowNames ps → UsesRowNames e
chain_uses e first ps is h k = subst UsesRowNames (sym is) (chained_in (1 ∷ 1 ∷ 3 ∷ []) (1 ∷ 2 ∷ []) first (map operand_tree ps) h (rows_in ps k))
