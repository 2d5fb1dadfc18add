-- The code of an expression has no site, and resets no variable.
use Rattle.c_lower.proofs.Common.{◌≡◌, ◌+◌, ℕ, Bool, true, false, List, [], ◌∷◌, ◌++◌, refl, None, AllByRecursion, UnaryOperator, ExprTree, LocalElement, GlobalElement, Unary, Parenthesized, Binary, LogicalAnd, LogicalOr, Conditional, Op, site_of, unary_code, expr_size, expr_code, arguments_code, All-append}

abbrev pub is_reset : Op → Bool
is_reset (Op.Zero a) = true
is_reset _ = false

abbrev pub IsPlain : Op → Type 0
IsPlain op = (site_of op ≡ None) × (is_reset op ≡ false)

abbrev pub ArePlain : List Op → Type 0
ArePlain ops = AllByRecursion IsPlain ops

both : (xs ys : List Op) → ArePlain xs → ArePlain ys → ArePlain (xs ++ ys)
both xs ys a b = All-append IsPlain xs ys a b

unary_plain : (op : UnaryOperator) (k : ℕ) → ArePlain (unary_code op k)
unary_plain UnaryOperator.Plus k = tt
unary_plain _ k = ((refl, refl), tt)

pub expr_plain : (e : ExprTree) (p k : ℕ) → ArePlain (expr_code e p k)
expr_plain (LocalElement a i) p k = both (expr_code i p k) _ (expr_plain i p k) ((refl, refl), tt)
expr_plain (GlobalElement a i) p k = both (expr_code i p k) _ (expr_plain i p k) ((refl, refl), tt)
expr_plain (Unary op e) p k = both (expr_code e p k) _ (expr_plain e p k) (unary_plain op k)
expr_plain (Parenthesized e) p k = expr_plain e p k
expr_plain (Binary op l r) p k =
    let right = p + expr_size l in
    both (expr_code l p k ++ expr_code r right (k + 1)) _ (both (expr_code l p k) _ (expr_plain l p k) (expr_plain r right (k + 1))) ((refl, refl), tt)
expr_plain (LogicalAnd l r) p k =
    let right = p + expr_size l + 1 in
    let otherwise = right + expr_size r + 3 in
    both (expr_code l p k ++ (Op.JumpZero k otherwise ∷ []) ++ expr_code r right k) _
    (both (expr_code l p k ++ (Op.JumpZero k otherwise ∷ [])) _ (both (expr_code l p k) _ (expr_plain l p k) ((refl, refl), tt)) (expr_plain r right k)) ((refl, refl), ((refl, refl), ((refl, refl), ((refl, refl), tt))))
expr_plain (LogicalOr l r) p k =
    let right = p + expr_size l + 2 in
    let one = right + expr_size r + 1 in
    both (expr_code l p k ++ (Op.JumpZero k right ∷ Op.Jump one ∷ []) ++ expr_code r right k) _
    (both (expr_code l p k ++ (Op.JumpZero k right ∷ Op.Jump one ∷ [])) _ (both (expr_code l p k) _ (expr_plain l p k) ((refl, refl), ((refl, refl), tt))) (expr_plain r right k)) ((refl, refl), ((refl, refl), ((refl, refl), ((refl, refl), tt))))
expr_plain (Conditional c a b) p k =
    let first = p + expr_size c + 1 in
    let second = first + expr_size a + 1 in
    both (expr_code c p k ++ (Op.JumpZero k second ∷ []) ++ expr_code a first k ++ (Op.Jump (second + expr_size b) ∷ [])) _
    (both (expr_code c p k ++ (Op.JumpZero k second ∷ []) ++ expr_code a first k) _
    (both (expr_code c p k ++ (Op.JumpZero k second ∷ [])) _ (both (expr_code c p k) _ (expr_plain c p k) ((refl, refl), tt)) (expr_plain a first k)) ((refl, refl), tt))
    (expr_plain b second k)
expr_plain _ p k = ((refl, refl), tt)

pub arguments_plain : (es : List ExprTree) (p k : ℕ) → ArePlain (arguments_code es p k)
arguments_plain [] p k = tt
arguments_plain (e ∷ es) p k = both (expr_code e p k) _ (expr_plain e p k) (arguments_plain es (p + expr_size e) (k + 1))
