-- Operators one after another, against the tree that leans to the left.
use Rattle.scope_rules.proofs.Common.{◌≡◌, refl, sym, ap, ◌∙◌, List, [], ◌∷◌, ◌++◌, map, Option, Result, Ok, Err, IfOk, MatchResult, Infix, Expr, RawExprTree, ExprTree, raw_joined, raw_chained, raw_expr_tree, joined, chained, expr_tree, raw_operand_tree, operand_tree, Fault, Binding, least_of, expr_faults, expr_of, operand_trees, operands_of, operands_faults}
use Rattle.c_tree.specs.declared.raw_expressions.RawExpr.{RawExpr}
use Rattle.scope_rules.proofs.Least.{least_of_append}

pub operand_trees_map : (ps : List (Infix × Expr)) → map operand_tree ps ≡ operand_trees ps
operand_trees_map [] = refl
operand_trees_map (p ∷ ps) = ap (λ qs. (p.0, expr_tree p.1) ∷ qs) (operand_trees_map ps)

pub operand_trees_push : (ps : List (Infix × Expr)) (o : Infix) (e : Expr) → operand_trees (ps ++ ((o, e) ∷ [])) ≡ operand_trees ps ++ ((o, expr_tree e) ∷ [])
operand_trees_push [] o e = refl
operand_trees_push (p ∷ ps) o e = ap (λ qs. (p.0, expr_tree p.1) ∷ qs) (operand_trees_push ps o e)

joined_of : (names : List Binding) (l : RawExprTree) (o : Infix) (r : RawExprTree) → expr_of names (raw_joined l o r) ≡ joined (expr_of names l) o (expr_of names r)
joined_of names l (Infix.Binary op) r = refl
joined_of names l _ r = refl

joined_faults : (names : List Binding) (l : RawExprTree) (o : Infix) (r : RawExprTree) → expr_faults names (raw_joined l o r) ≡ expr_faults names l ++ expr_faults names r
joined_faults names l (Infix.Binary op) r = refl
joined_faults names l _ r = refl

pub chain_of : (names : List Binding) (l : RawExprTree) (ps : List (Infix × RawExpr)) → expr_of names (raw_chained l (map raw_operand_tree ps)) ≡ chained (expr_of names l) (operands_of names ps)
chain_of names l [] = refl
chain_of names l (p ∷ ps) = chain_of names (raw_joined l p.0 (raw_expr_tree p.1)) ps ∙ ap (λ x. chained x (operands_of names ps)) (joined_of names l p.0 (raw_expr_tree p.1))

pub chain_faults : (names : List Binding) (o : Option Fault) (l : RawExprTree) (ps : List (Infix × RawExpr)) → least_of o (expr_faults names (raw_chained l (map raw_operand_tree ps))) ≡ least_of (least_of o (expr_faults names l)) (operands_faults names ps)
chain_faults names o l [] = refl
chain_faults names o l (p ∷ ps) =
    let r = raw_expr_tree p.1 in
    chain_faults names o (raw_joined l p.0 r) ps
    ∙ (ap (λ x. least_of (least_of o x) (operands_faults names ps)) (joined_faults names l p.0 r)
    ∙ (ap (λ x. least_of x (operands_faults names ps)) (least_of_append o (expr_faults names l) (expr_faults names r))
    ∙ sym (least_of_append (least_of o (expr_faults names l)) (expr_faults names r) (operands_faults names ps))))

-- an operand that was put behind others, with its operator
pub operand_pushed : {E : Type 0} (r : Result Expr E) (b : Result (Infix × Expr) E) (ps qs : List (Infix × Expr)) (o : Infix) (e : ExprTree)
    → MatchResult b (λ p. qs ≡ ps ++ (p ∷ [])) (λ _. ⊥) → IfOk b (λ p. p.0 ≡ o) → IfOk b (λ p. r ≡ Ok p.1) → IfOk r (λ x. expr_tree x ≡ e)
    → operand_trees qs ≡ operand_trees ps ++ ((o, e) ∷ [])
operand_pushed r (Ok (o1, x)) ps qs o e m h k t =
    let x1 : expr_tree x ≡ e = rw k at t in
    rw (m, operand_trees_push ps o1 x, h, x1) refl
operand_pushed r (Err x) ps qs o e m h k t = absurd m
