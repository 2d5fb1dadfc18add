-- The temporaries of operators one after another, counted from the left.
use Rattle.c_tree.proofs.Common.{◌≡◌, ℕ, max, List, [], ◌∷◌, refl, arith, Infix, ExprTree, joined, chained, expr_temporaries, operand_temporaries, capped}

abbrev pub chain_count : ℕ → List (Infix × ExprTree) → ℕ
chain_count n [] = n
chain_count n (p ∷ ps) = chain_count (max n (operand_temporaries p.0 (expr_temporaries p.1))) ps

pub joined_count : (l : ExprTree) (o : Infix) (r : ExprTree) → expr_temporaries (joined l o r) ≡ max (expr_temporaries l) (operand_temporaries o (expr_temporaries r))
joined_count l (Infix.Binary op) r = refl
joined_count l _ r = refl

pub chained_count : (l : ExprTree) (ps : List (Infix × ExprTree)) → expr_temporaries (chained l ps) ≡ chain_count (expr_temporaries l) ps
chained_count l [] = refl
chained_count l (p ∷ ps) = rw (chained_count (joined l p.0 p.1) ps, joined_count l p.0 p.1) refl

pub chain_count_capped : (a b : ℕ) (ps : List (Infix × ExprTree)) → capped a ≡ capped b → capped (chain_count a ps) ≡ capped (chain_count b ps)
chain_count_capped a b [] e = e
chain_count_capped a b (p ∷ ps) e =
    let n = operand_temporaries p.0 (expr_temporaries p.1) in
    chain_count_capped (max a n) (max b n) ps (omega arith)
