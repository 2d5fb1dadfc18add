-- The operations of an expression: three-address code that evaluates in temporaries as on a stack (Aho, Lam, Sethi,
-- Ullman, "Compilers", sections 6.4 and 6.6).
use Rattle.std.specs.Prelude.{ℕ, ◌+◌, List, [], ◌∷◌, ◌++◌}
use Rattle.c_tree.specs.Trees.{ExprTree, Number, Local, Global, LocalElement, GlobalElement, Unary, Parenthesized, Binary, LogicalAnd, LogicalOr, Conditional}
use Rattle.flat_code.specs.declared.operations.Op.{Op}
use Rattle.c_lower.specs.Operations.{operator_of, unary_code, unary_size}

-- the number of operations of an expression
abbrev pub expr_size : ExprTree → ℕ
expr_size (Number v) = 1
expr_size (Local x) = 1
expr_size (Global g) = 1
expr_size (LocalElement a i) = expr_size i + 1
expr_size (GlobalElement a i) = expr_size i + 1
expr_size (Unary op e) = expr_size e + unary_size op
expr_size (Parenthesized e) = expr_size e
expr_size (Binary op l r) = expr_size l + expr_size r + 1
expr_size (LogicalAnd l r) = expr_size l + expr_size r + 5
expr_size (LogicalOr l r) = expr_size l + expr_size r + 6
expr_size (Conditional c a b) = expr_size c + expr_size a + expr_size b + 2

-- The operations that compute an expression's value in variable k, which is a temporary, and use the temporaries from
-- it on. The first of them is operation p of its function. A jump names an operation by its number.
abbrev pub expr_code : ExprTree → (p k : ℕ) → List Op
expr_code (Number v) p k = Op.Const k v ∷ []
expr_code (Local x) p k = Op.Copy k x ∷ []
expr_code (Global g) p k = Op.LoadGlobal k g ∷ []
expr_code (LocalElement a i) p k = expr_code i p k ++ (Op.LoadLocal k a k ∷ [])
expr_code (GlobalElement a i) p k = expr_code i p k ++ (Op.LoadArray k a k ∷ [])
expr_code (Unary op e) p k = expr_code e p k ++ unary_code op k
expr_code (Parenthesized e) p k = expr_code e p k
expr_code (Binary op l r) p k =
    let right = p + expr_size l in
    expr_code l p k ++ expr_code r right (k + 1) ++ (Op.Bin (operator_of op) k k (k + 1) ∷ [])
expr_code (LogicalAnd l r) p k =
    let right = p + expr_size l + 1 in
    let otherwise = right + expr_size r + 3 in
    expr_code l p k
    ++ (Op.JumpZero k otherwise ∷ [])
    ++ expr_code r right k
    ++ (Op.JumpZero k otherwise ∷ Op.Const k 1 ∷ Op.Jump (otherwise + 1) ∷ Op.Const k 0 ∷ [])
expr_code (LogicalOr l r) p k =
    let right = p + expr_size l + 2 in
    let one = right + expr_size r + 1 in
    expr_code l p k
    ++ (Op.JumpZero k right ∷ Op.Jump one ∷ [])
    ++ expr_code r right k
    ++ (Op.JumpZero k (one + 2) ∷ Op.Const k 1 ∷ Op.Jump (one + 3) ∷ Op.Const k 0 ∷ [])
expr_code (Conditional c a b) p k =
    let first = p + expr_size c + 1 in
    let second = first + expr_size a + 1 in
    expr_code c p k
    ++ (Op.JumpZero k second ∷ [])
    ++ expr_code a first k
    ++ (Op.Jump (second + expr_size b) ∷ [])
    ++ expr_code b second k
