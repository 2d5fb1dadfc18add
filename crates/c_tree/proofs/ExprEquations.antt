-- The tree of an expression, form by form.
use Rattle.c_tree.proofs.Common.{◌≡◌, ℕ, map, refl, sym, ap, ◌∙◌, Box, Vec, Global, Infix, UnaryOperator, Expr, ExprTree, chained, expr_step, expr_tree}
use Rattle.c_tree.specs.declared.expressions.Expr.TheViews as code
use Rattle.c_tree.specs.declared.expressions.Expr.TheFolds.{fold-roll-Expr}
use Rattle.c_tree.specs.declared.expressions.Expr.TheVariants.{rolls-Number, rolls-Local, rolls-LocalElement, rolls-GlobalElement, rolls-Unary, rolls-Chain, rolls-Conditional}
use Rattle.c_tree.specs.Trees as plain
use Rattle.c_tree.proofs.Maps.{map_same}

-- an operator and its operand
abbrev pub operand_tree : Infix × Expr → Infix × ExprTree
operand_tree p = (p.0, expr_tree p.1)

pub expr_tree-Number : (n : ℕ) → expr_tree (Expr.Number n) ≡ plain.Number n
expr_tree-Number n = ap expr_tree (sym (rolls-Number n)) ∙ fold-roll-Expr ExprTree expr_step _

pub expr_tree-Local : (x : ℕ) → expr_tree (Expr.Local x) ≡ plain.Local x
expr_tree-Local x = ap expr_tree (sym (rolls-Local x)) ∙ fold-roll-Expr ExprTree expr_step _

pub expr_tree-LocalElement : (a : ℕ) (i : Box Expr Global) → expr_tree (code.LocalElement a i) ≡ plain.LocalElement a (expr_tree i.value)
expr_tree-LocalElement a i = ap expr_tree (sym (rolls-LocalElement a i)) ∙ fold-roll-Expr ExprTree expr_step _

pub expr_tree-GlobalElement : (a : ℕ) (i : Box Expr Global) → expr_tree (code.GlobalElement a i) ≡ plain.GlobalElement a (expr_tree i.value)
expr_tree-GlobalElement a i = ap expr_tree (sym (rolls-GlobalElement a i)) ∙ fold-roll-Expr ExprTree expr_step _

pub expr_tree-Unary : (op : UnaryOperator) (e : Box Expr Global) → expr_tree (code.Unary op e) ≡ plain.Unary op (expr_tree e.value)
expr_tree-Unary op e = ap expr_tree (sym (rolls-Unary op e)) ∙ fold-roll-Expr ExprTree expr_step _

pub expr_tree-Chain : (first : Box Expr Global) (rest : Vec (Infix × Expr) Global) → expr_tree (code.Chain first rest) ≡ chained (expr_tree first.value) (map operand_tree rest.items)
expr_tree-Chain first rest =
    ap expr_tree (sym (rolls-Chain first rest)) ∙ (fold-roll-Expr ExprTree expr_step _ ∙ ap (chained (expr_tree first.value)) (map_same _ operand_tree rest.items (λ p. refl)))

pub expr_tree-Conditional : (a b c : Box Expr Global) → expr_tree (code.Conditional a b c) ≡ plain.Conditional (expr_tree a.value) (expr_tree b.value) (expr_tree c.value)
expr_tree-Conditional a b c = ap expr_tree (sym (rolls-Conditional a b c)) ∙ fold-roll-Expr ExprTree expr_step _
