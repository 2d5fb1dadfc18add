-- The pieces of a statement's code make its code.
use Rattle.c_lower.proofs.Common.{◌≡◌, ◌+◌, ℕ, List, [], ◌∷◌, ◌++◌, length, length-append, append_assoc, ap, ◌∙◌, arith, Option, ExprTree, SimpleTree, StmtTree, StmtTrees, If, IfElse, While, For, Then, Op, expr_size, expr_code, simple_size, simple_code, simples_size, simples_code, step_size, step_code, test_size, test_code, stmt_size, stmt_code, stmts_code}
use Rattle.c_lower.proofs.CodeSizes.{expr_length, simple_length, simples_length, test_length, stmt_length}
use Rattle.c_lower.proofs.ExprGlue.{grown}
use Rattle.c_lower.proofs.Glue.{glued2, glued3, glued4, glued5}

pub simples_turn : (c1 c2 all : List Op) (s : SimpleTree) (ss : List SimpleTree) (t : ℕ) → c1 ++ simples_code (s ∷ ss) (length c1) t ≡ all → c2 ≡ c1 ++ simple_code s (length c1) t → c2 ++ simples_code ss (length c2) t ≡ all
simples_turn c1 c2 all s ss t h put =
    let after : length c2 ≡ length c1 + simple_size s = grown c1 c2 (simple_code s (length c1) t) (simple_size s) put (simple_length s (length c1) t) in
    ap (λ n. c2 ++ simples_code ss n t) after
    ∙ ap (λ x. x ++ simples_code ss (length c1 + simple_size s) t) put
    ∙ append_assoc c1 (simple_code s (length c1) t) (simples_code ss (length c1 + simple_size s) t)
    ∙ h

pub stmts_turn : (c1 c2 all : List Op) (s : StmtTree) (ss : StmtTrees) (t leave skip : ℕ) → c1 ++ stmts_code (Then s ss) (length c1) t leave skip ≡ all → c2 ≡ c1 ++ stmt_code s (length c1) t leave skip → c2 ++ stmts_code ss (length c2) t leave skip ≡ all
stmts_turn c1 c2 all s ss t leave skip h put =
    let after : length c2 ≡ length c1 + stmt_size s = grown c1 c2 (stmt_code s (length c1) t leave skip) (stmt_size s) put (stmt_length s (length c1) t leave skip) in
    ap (λ n. c2 ++ stmts_code ss n t leave skip) after
    ∙ ap (λ x. x ++ stmts_code ss (length c1 + stmt_size s) t leave skip) put
    ∙ append_assoc c1 (stmt_code s (length c1) t leave skip) (stmts_code ss (length c1 + stmt_size s) t leave skip)
    ∙ h

-- a condition and its jump
abbrev pub condition_code : ExprTree → (p t to : ℕ) → List Op
condition_code c p t to = expr_code c p t ++ (Op.JumpZero t to ∷ [])

condition_length : (c : ExprTree) (p t to : ℕ) → length (condition_code c p t to) ≡ expr_size c + 1
condition_length c p t to = simp length-append (omega (arith, expr_length c p t))

pub if_glued : (c0 c1 c2 : List Op) (c : ExprTree) (s : StmtTree) (t leave skip to : ℕ) → to ≡ length c0 + expr_size c + stmt_size s + 1 → c1 ≡ c0 ++ condition_code c (length c0) t to → c2 ≡ c1 ++ stmt_code s (length c1) t leave skip → c2 ≡ c0 ++ stmt_code (If c s) (length c0) t leave skip
if_glued c0 c1 c2 c s t leave skip to is_to e1 e2 =
    let first : ℕ = length c0 + expr_size c + 1 in
    let after1 : length c1 ≡ length c0 + (expr_size c + 1) = grown c0 c1 (condition_code c (length c0) t to) (expr_size c + 1) e1 (condition_length c (length c0) t to) in
    let at_first : length c1 ≡ first = omega arith in
    let at_to : to ≡ first + stmt_size s = omega arith in
    glued2 c0 c1 c2 _ _
    (e1 ∙ ap (λ n. c0 ++ condition_code c (length c0) t n) at_to)
    (e2 ∙ ap (λ n. c1 ++ stmt_code s n t leave skip) at_first)

pub if_else_glued : (c0 c1 c2 c3 c4 : List Op) (c : ExprTree) (s r : StmtTree) (t leave skip to : ℕ) → to ≡ length c0 + expr_size c + stmt_size s + 2 → c1 ≡ c0 ++ condition_code c (length c0) t to → c2 ≡ c1 ++ stmt_code s (length c1) t leave skip → c3 ≡ c2 ++ (Op.Jump (length c2 + stmt_size r + 1) ∷ []) → c4 ≡ c3 ++ stmt_code r (length c3) t leave skip → c4 ≡ c0 ++ stmt_code (IfElse c s r) (length c0) t leave skip
if_else_glued c0 c1 c2 c3 c4 c s r t leave skip to is_to e1 e2 e3 e4 =
    let first : ℕ = length c0 + expr_size c + 1 in
    let second : ℕ = first + stmt_size s + 1 in
    let after1 : length c1 ≡ length c0 + (expr_size c + 1) = grown c0 c1 (condition_code c (length c0) t to) (expr_size c + 1) e1 (condition_length c (length c0) t to) in
    let after2 : length c2 ≡ length c1 + stmt_size s = grown c1 c2 (stmt_code s (length c1) t leave skip) (stmt_size s) e2 (stmt_length s (length c1) t leave skip) in
    let after3 : length c3 ≡ length c2 + 1 = grown c2 c3 (Op.Jump (length c2 + stmt_size r + 1) ∷ []) 1 e3 (omega arith) in
    let at_first : length c1 ≡ first = omega arith in
    let at_to : to ≡ second = omega arith in
    let at_second : length c3 ≡ second = omega arith in
    let at_end : length c2 + stmt_size r + 1 ≡ second + stmt_size r = omega arith in
    glued4 c0 c1 c2 c3 c4 _ _ _ _
    (e1 ∙ ap (λ n. c0 ++ condition_code c (length c0) t n) at_to)
    (e2 ∙ ap (λ n. c1 ++ stmt_code s n t leave skip) at_first)
    (e3 ∙ ap (λ n. c2 ++ (Op.Jump n ∷ [])) at_end)
    (e4 ∙ ap (λ n. c3 ++ stmt_code r n t leave skip) at_second)

pub while_glued : (c0 c1 c2 c3 : List Op) (c : ExprTree) (s : StmtTree) (t leave skip turn to : ℕ) → turn ≡ length c0 + 0 + 0 → to ≡ length c0 + expr_size c + stmt_size s + 2 → c1 ≡ c0 ++ condition_code c (length c0) t to → c2 ≡ c1 ++ stmt_code s (length c1) t to turn → c3 ≡ c2 ++ (Op.Jump turn ∷ []) → c3 ≡ c0 ++ stmt_code (While c s) (length c0) t leave skip
while_glued c0 c1 c2 c3 c s t leave skip turn to is_turn is_to e1 e2 e3 =
    let body : ℕ = length c0 + expr_size c + 1 in
    let end : ℕ = body + stmt_size s + 1 in
    let after1 : length c1 ≡ length c0 + (expr_size c + 1) = grown c0 c1 (condition_code c (length c0) t to) (expr_size c + 1) e1 (condition_length c (length c0) t to) in
    let at_turn : turn ≡ length c0 = omega arith in
    let at_body : length c1 ≡ body = omega arith in
    let at_to : to ≡ end = omega arith in
    glued3 c0 c1 c2 c3 _ _ _
    (e1 ∙ ap (λ n. c0 ++ condition_code c (length c0) t n) at_to)
    (e2 ∙ ap (λ n. c1 ++ stmt_code s n t to turn) at_body ∙ ap (λ n. c1 ++ stmt_code s body t n turn) at_to ∙ ap (λ n. c1 ++ stmt_code s body t end n) at_turn)
    (e3 ∙ ap (λ n. c2 ++ (Op.Jump n ∷ [])) at_turn)

pub for_glued : (c0 c1 c2 c3 c4 c5 : List Op) (init : List SimpleTree) (c : Option ExprTree) (step : Option SimpleTree) (s : StmtTree) (t leave skip turn next end : ℕ) → c1 ≡ c0 ++ simples_code init (length c0) t → turn ≡ length c1 + 0 + 0 → next ≡ length c1 + test_size c + stmt_size s → end ≡ next + step_size step + 1 → c2 ≡ c1 ++ test_code c (length c1) t end → c3 ≡ c2 ++ stmt_code s (length c2) t end next → c4 ≡ c3 ++ step_code step (length c3) t → c5 ≡ c4 ++ (Op.Jump turn ∷ []) → c5 ≡ c0 ++ stmt_code (For init c step s) (length c0) t leave skip
for_glued c0 c1 c2 c3 c4 c5 init c step s t leave skip turn next end e1 is_turn is_next is_end e2 e3 e4 e5 =
    let turn_at : ℕ = length c0 + simples_size init in
    let body_at : ℕ = turn_at + test_size c in
    let next_at : ℕ = body_at + stmt_size s in
    let end_at : ℕ = next_at + step_size step + 1 in
    let after1 : length c1 ≡ turn_at = grown c0 c1 (simples_code init (length c0) t) (simples_size init) e1 (simples_length init (length c0) t) in
    let after2 : length c2 ≡ length c1 + test_size c = grown c1 c2 (test_code c (length c1) t end) (test_size c) e2 (test_length c (length c1) t end) in
    let after3 : length c3 ≡ length c2 + stmt_size s = grown c2 c3 (stmt_code s (length c2) t end next) (stmt_size s) e3 (stmt_length s (length c2) t end next) in
    let at_turn : turn ≡ turn_at = omega arith in
    let at_body : length c2 ≡ body_at = omega arith in
    let at_next : length c3 ≡ next_at = omega arith in
    let is_next_at : next ≡ next_at = omega arith in
    let at_end : end ≡ end_at = omega arith in
    glued5 c0 c1 c2 c3 c4 c5 _ _ _ _ _
    e1
    (e2 ∙ ap (λ n. c1 ++ test_code c n t end) after1 ∙ ap (λ n. c1 ++ test_code c turn_at t n) at_end)
    (e3 ∙ ap (λ n. c2 ++ stmt_code s n t end next) at_body ∙ ap (λ n. c2 ++ stmt_code s body_at t n next) at_end ∙ ap (λ n. c2 ++ stmt_code s body_at t end_at n) is_next_at)
    (e4 ∙ ap (λ n. c3 ++ step_code step n t) at_next)
    (e5 ∙ ap (λ n. c4 ++ (Op.Jump n ∷ [])) at_turn)
