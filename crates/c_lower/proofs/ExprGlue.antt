-- The pieces of an expression's code make its code.
use Rattle.c_lower.proofs.Common.{◌≡◌, ◌+◌, ℕ, List, [], ◌∷◌, ◌++◌, length, length-append, append_assoc, sym, ap, refl, ◌∙◌, arith, Infix, ExprTree, Conditional, Op, expr_size, expr_code, chained, infix_size, operand_code, operands_code}
use Rattle.c_lower.proofs.ChainCode.{chained_code}
use Rattle.c_lower.proofs.CodeSizes.{expr_length, operand_length}
use Rattle.c_lower.proofs.Glue.{glued3, glued5}

-- a list has as many items as it had and as were put at its end
pub grown : {A : Type 0} (s t a : List A) (n : ℕ) → t ≡ s ++ a → length a ≡ n → length t ≡ length s + n
grown s t a n e m = ap length e ∙ length-append s a ∙ ap (λ x. length s + x) m

pub conditional_glued : (c0 c1 c2 c3 c4 c5 : List Op) (c a b : ExprTree) (k second end : ℕ) → c1 ≡ c0 ++ expr_code c (length c0) k → second ≡ length c1 + expr_size a + 2 → c2 ≡ c1 ++ (Op.JumpZero k second ∷ []) → c3 ≡ c2 ++ expr_code a (length c2) k → end ≡ length c3 + expr_size b + 1 → c4 ≡ c3 ++ (Op.Jump end ∷ []) → c5 ≡ c4 ++ expr_code b (length c4) k → c5 ≡ c0 ++ expr_code (Conditional c a b) (length c0) k
conditional_glued c0 c1 c2 c3 c4 c5 c a b k second end e1 is_second e2 e3 is_end e4 e5 =
    let first : ℕ = length c0 + expr_size c + 1 in
    let after1 : length c1 ≡ length c0 + expr_size c = grown c0 c1 (expr_code c (length c0) k) (expr_size c) e1 (expr_length c (length c0) k) in
    let after2 : length c2 ≡ length c1 + 1 = grown c1 c2 (Op.JumpZero k second ∷ []) 1 e2 (omega arith) in
    let after3 : length c3 ≡ length c2 + expr_size a = grown c2 c3 (expr_code a (length c2) k) (expr_size a) e3 (expr_length a (length c2) k) in
    let after4 : length c4 ≡ length c3 + 1 = grown c3 c4 (Op.Jump end ∷ []) 1 e4 (omega arith) in
    let at_first : length c2 ≡ first = omega arith in
    let at_second : second ≡ first + expr_size a + 1 = omega arith in
    let at_otherwise : length c4 ≡ first + expr_size a + 1 = omega arith in
    let at_end : end ≡ first + expr_size a + 1 + expr_size b = omega arith in
    glued5 c0 c1 c2 c3 c4 c5 _ _ _ _ _
    e1
    (e2 ∙ ap (λ n. c1 ++ (Op.JumpZero k n ∷ [])) at_second)
    (e3 ∙ ap (λ n. c2 ++ expr_code a n k) at_first)
    (e4 ∙ ap (λ n. c3 ++ (Op.Jump n ∷ [])) at_end)
    (e5 ∙ ap (λ n. c4 ++ expr_code b n k) at_otherwise)

-- a chain's first operand is put, and all others are still to come
pub chain_begun : (c0 c1 : List Op) (l : ExprTree) (ps : List (Infix × ExprTree)) (k : ℕ) → c1 ≡ c0 ++ expr_code l (length c0) k → c1 ++ operands_code ps (length c1) k ≡ c0 ++ expr_code (chained l ps) (length c0) k
chain_begun c0 c1 l ps k e =
    let after : length c1 ≡ length c0 + expr_size l = grown c0 c1 (expr_code l (length c0) k) (expr_size l) e (expr_length l (length c0) k) in
    ap (λ n. c1 ++ operands_code ps n k) after
    ∙ ap (λ x. x ++ operands_code ps (length c0 + expr_size l) k) e
    ∙ append_assoc c0 (expr_code l (length c0) k) (operands_code ps (length c0 + expr_size l) k)
    ∙ ap (λ x. c0 ++ x) (sym (chained_code l ps (length c0) k))

-- one more operand is put
pub chain_turn : (c1 c2 all : List Op) (o : Infix) (r : ExprTree) (os : List (Infix × ExprTree)) (k : ℕ) → c1 ++ operands_code ((o, r) ∷ os) (length c1) k ≡ all → c2 ≡ c1 ++ operand_code o r (length c1) k → c2 ++ operands_code os (length c2) k ≡ all
chain_turn c1 c2 all o r os k h e =
    let after : length c2 ≡ length c1 + (expr_size r + infix_size o) = grown c1 c2 (operand_code o r (length c1) k) (expr_size r + infix_size o) e (operand_length o r (length c1) k) in
    ap (λ n. c2 ++ operands_code os n k) after
    ∙ ap (λ x. x ++ operands_code os (length c1 + (expr_size r + infix_size o)) k) e
    ∙ append_assoc c1 (operand_code o r (length c1) k) (operands_code os (length c1 + (expr_size r + infix_size o)) k)
    ∙ h

-- an expression, then code whose jumps go by its place, and then the rest
pub expr_then_glued : (c0 c1 c2 c3 : List Op) (e : ExprTree) (k : ℕ) (code : ℕ → List Op) (rest : List Op) → c1 ≡ c0 ++ expr_code e (length c0) k → c2 ≡ c1 ++ code (length c1) → c3 ≡ c2 ++ rest → c3 ≡ c0 ++ ((expr_code e (length c0) k ++ code (length c0 + expr_size e)) ++ rest)
expr_then_glued c0 c1 c2 c3 e k code rest e1 e2 e3 =
    let after : length c1 ≡ length c0 + expr_size e = grown c0 c1 (expr_code e (length c0) k) (expr_size e) e1 (expr_length e (length c0) k) in
    glued3 c0 c1 c2 c3 _ _ _ e1 (e2 ∙ ap (λ n. c1 ++ code n) after) e3

-- the same where the code and the rest are put at once
pub expr_then_put : (c0 c1 c3 : List Op) (e : ExprTree) (k : ℕ) (code : ℕ → List Op) (rest : List Op) → c1 ≡ c0 ++ expr_code e (length c0) k → c3 ≡ c1 ++ (code (length c1) ++ rest) → c3 ≡ c0 ++ ((expr_code e (length c0) k ++ code (length c0 + expr_size e)) ++ rest)
expr_then_put c0 c1 c3 e k code rest e1 e3 =
    expr_then_glued c0 c1 (c1 ++ code (length c1)) c3 e k code rest e1 refl (e3 ∙ sym (append_assoc c1 (code (length c1)) rest))
