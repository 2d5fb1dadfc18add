-- Arguments are put one after another.
use Rattle.c_lower.proofs.Common.{◌≡◌, ◌<◌, ◌+◌, ℕ, List, [], ◌∷◌, ◌++◌, length, append_assoc, ap, ◌∙◌, arith, expr_temporaries, arguments_temporaries, ExprTree, Op, expr_size, expr_code, arguments_code, arguments_in}
use Rattle.c_lower.proofs.CodeSizes.{expr_length}
use Rattle.c_lower.proofs.ExprGlue.{grown}

next_place : (k i : ℕ) → k + (i + 1) ≡ k + i + 1
next_place k i = omega arith

pub arguments_turn : (c1 c2 all : List Op) (e : ExprTree) (es : List ExprTree) (k i : ℕ) → c1 ++ arguments_code (e ∷ es) (length c1) (k + i) ≡ all → c2 ≡ c1 ++ expr_code e (length c1) (k + i) → c2 ++ arguments_code es (length c2) (k + (i + 1)) ≡ all
arguments_turn c1 c2 all e es k i h put =
    let after : length c2 ≡ length c1 + expr_size e = grown c1 c2 (expr_code e (length c1) (k + i)) (expr_size e) put (expr_length e (length c1) (k + i)) in
    ap (λ n. c2 ++ arguments_code es n (k + (i + 1))) after
    ∙ ap (λ n. c2 ++ arguments_code es (length c1 + expr_size e) n) (next_place k i)
    ∙ ap (λ x. x ++ arguments_code es (length c1 + expr_size e) (k + i + 1)) put
    ∙ append_assoc c1 (expr_code e (length c1) (k + i)) (arguments_code es (length c1 + expr_size e) (k + i + 1))
    ∙ h

pub variables_turn : (v1 v2 all : List ℕ) (e : ExprTree) (es : List ExprTree) (k i : ℕ) → v1 ++ arguments_in (e ∷ es) (k + i) ≡ all → v2 ≡ v1 ++ ((k + i) ∷ []) → v2 ++ arguments_in es (k + (i + 1)) ≡ all
variables_turn v1 v2 all e es k i h put =
    ap (λ n. v2 ++ arguments_in es n) (next_place k i)
    ∙ ap (λ x. x ++ arguments_in es (k + i + 1)) put
    ∙ append_assoc v1 ((k + i) ∷ []) (arguments_in es (k + i + 1))
    ∙ h

pub argument_fits : (limit k i : ℕ) (e : ExprTree) (es : List ExprTree) → k + arguments_temporaries i (e ∷ es) < limit → k + i + expr_temporaries e < limit
argument_fits limit k i e es h = omega arith

one_more : (i : ℕ) → i + 1 ≡ 1 + i
one_more i = omega arith

pub others_fit : (limit k i : ℕ) (e : ExprTree) (es : List ExprTree) → k + arguments_temporaries i (e ∷ es) < limit → k + arguments_temporaries (i + 1) es < limit
others_fit limit k i e es h =
    let same : arguments_temporaries (i + 1) es ≡ arguments_temporaries (1 + i) es = ap (λ n. arguments_temporaries n es) (one_more i) in
    omega arith
