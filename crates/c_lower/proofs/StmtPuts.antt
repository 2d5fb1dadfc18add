-- The sizes of what jumps pass over are taken from the end of a list while a statement's code is put.
use Rattle.c_lower.proofs.Common.{◌≡◌, ◌+◌, ℕ, List, [], ◌∷◌, ◌++◌, length, sym, ap, ◌∙◌, append_assoc, Option, ExprTree, SimpleTree, StmtTree, StmtTrees, If, IfElse, While, For, Then, Op, expr_size, simples_code, step_size, step_code, test_size, test_code, stmt_size, stmt_code, stmts_code, stmt_sizes, stmts_sizes}
use Rattle.c_lower.proofs.StmtGlue.{condition_code, stmts_turn, if_glued, if_else_glued, while_glued, for_glued}

-- a statement's code is put at the end of c1, and its sizes are taken from the end of s1
abbrev pub Put : (c1 c2 : List Op) (s1 s2 : List ℕ) (s : StmtTree) (t leave skip : ℕ) → Type 0
Put c1 c2 s1 s2 s t leave skip = (rest : List ℕ) → s1 ≡ rest ++ stmt_sizes s → (c2 ≡ c1 ++ stmt_code s (length c1) t leave skip) × (s2 ≡ rest)

-- the last size is taken
abbrev pub Taken : (s1 s2 : List ℕ) (size : ℕ) → Type 0
Taken s1 s2 size = (rest : List ℕ) → (n : ℕ) → s1 ≡ rest ++ (n ∷ []) → (size ≡ n) × (s2 ≡ rest)

-- a statement's sizes come before its own
pub own : (s1 s2 : List ℕ) (size : ℕ) (rest inside : List ℕ) (n : ℕ) → Taken s1 s2 size → s1 ≡ rest ++ (inside ++ (n ∷ [])) → (size ≡ n) × (s2 ≡ rest ++ inside)
own s1 s2 size rest inside n taken e = taken (rest ++ inside) n (e ∙ sym (append_assoc rest inside (n ∷ [])))

pub if_put : (c0 c1 c2 : List Op) (s0 s1 s2 : List ℕ) (c : ExprTree) (s : StmtTree) (t leave skip to size : ℕ) → Taken s0 s1 size → to ≡ length c0 + expr_size c + size + 1 → c1 ≡ c0 ++ condition_code c (length c0) t to → Put c1 c2 s1 s2 s t leave skip → Put c0 c2 s0 s2 (If c s) t leave skip
if_put c0 c1 c2 s0 s1 s2 c s t leave skip to size taken is_to e1 put rest h =
    let top = own s0 s1 size rest (stmt_sizes s) (stmt_size s) taken h in
    let then = put rest top.1 in
    (if_glued c0 c1 c2 c s t leave skip to (is_to ∙ ap (λ n. length c0 + expr_size c + n + 1) top.0) e1 then.0, then.1)

pub if_else_put : (c0 c1 c2 c3 c4 : List Op) (s0 s1 s2 s3 s4 : List ℕ) (c : ExprTree) (s r : StmtTree) (t leave skip to first second : ℕ) → Taken s0 s1 first → to ≡ length c0 + expr_size c + first + 2 → c1 ≡ c0 ++ condition_code c (length c0) t to → Put c1 c2 s1 s2 s t leave skip → Taken s2 s3 second → c3 ≡ c2 ++ (Op.Jump (length c2 + second + 1) ∷ []) → Put c3 c4 s3 s4 r t leave skip → Put c0 c4 s0 s4 (IfElse c s r) t leave skip
if_else_put c0 c1 c2 c3 c4 s0 s1 s2 s3 s4 c s r t leave skip to first second taken1 is_to e1 put1 taken2 e3 put2 rest h =
    let later : List ℕ = stmt_sizes r ++ (stmt_size r ∷ []) in
    let top = own s0 s1 first (rest ++ later) (stmt_sizes s) (stmt_size s) taken1 (h ∙ sym (append_assoc rest later (stmt_sizes s ++ (stmt_size s ∷ [])))) in
    let then = put1 (rest ++ later) top.1 in
    let next = own s2 s3 second rest (stmt_sizes r) (stmt_size r) taken2 then.1 in
    let otherwise = put2 rest next.1 in
    (if_else_glued c0 c1 c2 c3 c4 c s r t leave skip to (is_to ∙ ap (λ n. length c0 + expr_size c + n + 2) top.0) e1 then.0 (e3 ∙ ap (λ n. c2 ++ (Op.Jump (length c2 + n + 1) ∷ [])) next.0) otherwise.0, otherwise.1)

pub while_put : (c0 c1 c2 c3 : List Op) (s0 s1 s2 : List ℕ) (c : ExprTree) (s : StmtTree) (t leave skip turn to size : ℕ) → turn ≡ length c0 + 0 + 0 → Taken s0 s1 size → to ≡ length c0 + expr_size c + size + 2 → c1 ≡ c0 ++ condition_code c (length c0) t to → Put c1 c2 s1 s2 s t to turn → c3 ≡ c2 ++ (Op.Jump turn ∷ []) → Put c0 c3 s0 s2 (While c s) t leave skip
while_put c0 c1 c2 c3 s0 s1 s2 c s t leave skip turn to size is_turn taken is_to e1 put e3 rest h =
    let top = own s0 s1 size rest (stmt_sizes s) (stmt_size s) taken h in
    let body = put rest top.1 in
    (while_glued c0 c1 c2 c3 c s t leave skip turn to is_turn (is_to ∙ ap (λ n. length c0 + expr_size c + n + 2) top.0) e1 body.0 e3, body.1)

pub for_put : (c0 c1 c2 c3 c4 c5 : List Op) (s0 s1 s2 : List ℕ) (init : List SimpleTree) (c : Option ExprTree) (step : Option SimpleTree) (s : StmtTree) (t leave skip turn next end size : ℕ) → c1 ≡ c0 ++ simples_code init (length c0) t → turn ≡ length c1 + 0 + 0 → Taken s0 s1 size → next ≡ length c1 + test_size c + size → end ≡ next + step_size step + 1 → c2 ≡ c1 ++ test_code c (length c1) t end → Put c2 c3 s1 s2 s t end next → c4 ≡ c3 ++ step_code step (length c3) t → c5 ≡ c4 ++ (Op.Jump turn ∷ []) → Put c0 c5 s0 s2 (For init c step s) t leave skip
for_put c0 c1 c2 c3 c4 c5 s0 s1 s2 init c step s t leave skip turn next end size e1 is_turn taken is_next is_end e2 put e4 e5 rest h =
    let top = own s0 s1 size rest (stmt_sizes s) (stmt_size s) taken h in
    let body = put rest top.1 in
    (for_glued c0 c1 c2 c3 c4 c5 init c step s t leave skip turn next end e1 is_turn (is_next ∙ ap (λ n. length c1 + test_size c + n) top.0) is_end e2 body.0 e4 e5, body.1)

-- statements are put up to some place, at which `left` are still to come
abbrev pub PutUpTo : (c1 all : List Op) (s0 s1 : List ℕ) (whole left : StmtTrees) (t leave skip : ℕ) → Type 0
PutUpTo c1 all s0 s1 whole left t leave skip = (rest : List ℕ) → s0 ≡ rest ++ stmts_sizes whole → (c1 ++ stmts_code left (length c1) t leave skip ≡ all) × (s1 ≡ rest ++ stmts_sizes left)

pub one_more_put : (c1 c2 all : List Op) (s0 s1 s2 : List ℕ) (whole ss : StmtTrees) (s : StmtTree) (t leave skip : ℕ) → PutUpTo c1 all s0 s1 whole (Then s ss) t leave skip → Put c1 c2 s1 s2 s t leave skip → PutUpTo c2 all s0 s2 whole ss t leave skip
one_more_put c1 c2 all s0 s1 s2 whole ss s t leave skip before put rest h =
    let now = before rest h in
    let one = put (rest ++ stmts_sizes ss) (now.1 ∙ sym (append_assoc rest (stmts_sizes ss) (stmt_sizes s))) in
    (stmts_turn c1 c2 all s ss t leave skip now.0 one.0, one.1)
