-- The tree of an expression as it is read, form by form.
use Rattle.c_tree.proofs.Common.{◌≡◌, ℕ, map, refl, sym, ap, ◌∙◌, Box, Vec, Global, Infix, UnaryOperator, RawExpr, RawExprTree, RawNumber, RawName, RawElement, RawUnary, RawParenthesized, RawConditional, RawCall, RawTableCall, name_tree, raw_chained, raw_expr_step, raw_expr_tree, raw_expr_trees}
use Rattle.c_tree.specs.declared.raw_expressions.Name.{Name}
use Rattle.c_tree.specs.declared.raw_expressions.RawExpr.TheViews as code
use Rattle.c_tree.specs.declared.raw_expressions.RawExpr.TheFolds.{fold-roll-RawExpr}
use Rattle.c_tree.specs.declared.raw_expressions.RawExpr.TheVariants.{rolls-Number, rolls-Name, rolls-Element, rolls-Unary, rolls-Parenthesized, rolls-Chain, rolls-Conditional, rolls-Call, rolls-TableCall}
use Rattle.c_tree.proofs.Maps.{map_same}

-- an operator and its operand
abbrev pub raw_operand_tree : Infix × RawExpr → Infix × RawExprTree
raw_operand_tree p = (p.0, raw_expr_tree p.1)

pub raw_expr_tree-Number : (n : ℕ) → raw_expr_tree (RawExpr.Number n) ≡ RawNumber n
raw_expr_tree-Number n = ap raw_expr_tree (sym (rolls-Number n)) ∙ fold-roll-RawExpr RawExprTree raw_expr_step _

pub raw_expr_tree-Name : (n : Name) → raw_expr_tree (RawExpr.Name n) ≡ RawName (name_tree n)
raw_expr_tree-Name n = ap raw_expr_tree (sym (rolls-Name n)) ∙ fold-roll-RawExpr RawExprTree raw_expr_step _

pub raw_expr_tree-Element : (n : Name) (i : Box RawExpr Global) → raw_expr_tree (code.Element n i) ≡ RawElement (name_tree n) (raw_expr_tree i.value)
raw_expr_tree-Element n i = ap raw_expr_tree (sym (rolls-Element n i)) ∙ fold-roll-RawExpr RawExprTree raw_expr_step _

pub raw_expr_tree-Unary : (op : UnaryOperator) (e : Box RawExpr Global) → raw_expr_tree (code.Unary op e) ≡ RawUnary op (raw_expr_tree e.value)
raw_expr_tree-Unary op e = ap raw_expr_tree (sym (rolls-Unary op e)) ∙ fold-roll-RawExpr RawExprTree raw_expr_step _

pub raw_expr_tree-Parenthesized : (e : Box RawExpr Global) → raw_expr_tree (code.Parenthesized e) ≡ RawParenthesized (raw_expr_tree e.value)
raw_expr_tree-Parenthesized e = ap raw_expr_tree (sym (rolls-Parenthesized e)) ∙ fold-roll-RawExpr RawExprTree raw_expr_step _

pub raw_expr_tree-Chain : (first : Box RawExpr Global) (rest : Vec (Infix × RawExpr) Global) → raw_expr_tree (code.Chain first rest) ≡ raw_chained (raw_expr_tree first.value) (map raw_operand_tree rest.items)
raw_expr_tree-Chain first rest =
    ap raw_expr_tree (sym (rolls-Chain first rest)) ∙ (fold-roll-RawExpr RawExprTree raw_expr_step _ ∙ ap (raw_chained (raw_expr_tree first.value)) (map_same _ raw_operand_tree rest.items (λ p. refl)))

pub raw_expr_tree-Conditional : (a b c : Box RawExpr Global) → raw_expr_tree (code.Conditional a b c) ≡ RawConditional (raw_expr_tree a.value) (raw_expr_tree b.value) (raw_expr_tree c.value)
raw_expr_tree-Conditional a b c = ap raw_expr_tree (sym (rolls-Conditional a b c)) ∙ fold-roll-RawExpr RawExprTree raw_expr_step _

pub raw_expr_tree-Call : (n : Name) (es : Vec RawExpr Global) → raw_expr_tree (code.Call n es) ≡ RawCall (name_tree n) (raw_expr_trees es.items)
raw_expr_tree-Call n es = ap raw_expr_tree (sym (rolls-Call n es)) ∙ fold-roll-RawExpr RawExprTree raw_expr_step _

pub raw_expr_tree-TableCall : (n : Name) (i e : Box RawExpr Global) → raw_expr_tree (code.TableCall n i e) ≡ RawTableCall (name_tree n) (raw_expr_tree i.value) (raw_expr_tree e.value)
raw_expr_tree-TableCall n i e = ap raw_expr_tree (sym (rolls-TableCall n i e)) ∙ fold-roll-RawExpr RawExprTree raw_expr_step _
