-- The code of operators one after another is that of the left operand and then of each operator with its right operand.
use Rattle.c_lower.proofs.Common.{◌≡◌, ◌+◌, ◌<◌, ℕ, List, [], ◌∷◌, ◌++◌, sym, ap, ◌∙◌, append_assoc, arith, append-nil, Infix, expr_temporaries, operand_temporaries, ExprTree, joined, chained, Op, expr_size, expr_code, infix_size, operand_code, operands_code, operands_size}

joined_size : (l : ExprTree) (o : Infix) (r : ExprTree) → expr_size (joined l o r) ≡ expr_size l + (expr_size r + infix_size o)
joined_size l (Infix.Binary op) r = omega arith
joined_size l _ r = omega arith

pub chained_size : (l : ExprTree) (ps : List (Infix × ExprTree)) → expr_size (chained l ps) ≡ expr_size l + operands_size ps
chained_size l [] = omega arith
chained_size l (p ∷ ps) = omega (arith, chained_size (joined l p.0 p.1) ps, joined_size l p.0 p.1)

two : (a b c : List Op) → (a ++ b) ++ c ≡ a ++ (b ++ c)
two a b c = append_assoc a b c

three : (a b c d : List Op) → ((a ++ b) ++ c) ++ d ≡ a ++ ((b ++ c) ++ d)
three a b c d = simp append_assoc

joined_code : (l : ExprTree) (o : Infix) (r : ExprTree) (p k : ℕ) → expr_code (joined l o r) p k ≡ expr_code l p k ++ operand_code o r (p + expr_size l) k
joined_code l (Infix.Binary op) r p k = two (expr_code l p k) _ _
joined_code l _ r p k = three (expr_code l p k) _ _ _

pub chained_code : (l : ExprTree) (ps : List (Infix × ExprTree)) (p k : ℕ) → expr_code (chained l ps) p k ≡ expr_code l p k ++ operands_code ps (p + expr_size l) k
chained_code l [] p k = sym (append-nil (expr_code l p k))
chained_code l (o ∷ os) p k =
    let place : p + expr_size (joined l o.0 o.1) ≡ p + expr_size l + (expr_size o.1 + infix_size o.0) = omega (arith, joined_size l o.0 o.1) in
    chained_code (joined l o.0 o.1) os p k
    ∙ ap (λ c. c ++ operands_code os (p + expr_size (joined l o.0 o.1)) k) (joined_code l o.0 o.1 p k)
    ∙ ap (λ q. (expr_code l p k ++ operand_code o.0 o.1 (p + expr_size l) k) ++ operands_code os q k) place
    ∙ append_assoc (expr_code l p k) (operand_code o.0 o.1 (p + expr_size l) k) _

-- the temporaries of each operand are within a limit
abbrev pub OperandsFit : ℕ → ℕ → List (Infix × ExprTree) → Type 0
OperandsFit limit k [] = Unit {0}
OperandsFit limit k (p ∷ ps) = (k + operand_temporaries p.0 (expr_temporaries p.1) < limit) × OperandsFit limit k ps

joined_fits : (limit k : ℕ) (l : ExprTree) (o : Infix) (r : ExprTree) → k + expr_temporaries (joined l o r) < limit → (k + expr_temporaries l < limit) × (k + operand_temporaries o (expr_temporaries r) < limit)
joined_fits limit k l (Infix.Binary op) r h = (omega arith, omega arith)
joined_fits limit k l _ r h = (omega arith, omega arith)

pub chained_fits : (limit k : ℕ) (l : ExprTree) (ps : List (Infix × ExprTree)) → k + expr_temporaries (chained l ps) < limit → (k + expr_temporaries l < limit) × OperandsFit limit k ps
chained_fits limit k l [] h = (h, tt)
chained_fits limit k l (p ∷ ps) h =
    let rest = chained_fits limit k (joined l p.0 p.1) ps h in
    let both = joined_fits limit k l p.0 p.1 rest.0 in
    (both.0, (both.1, rest.1))
