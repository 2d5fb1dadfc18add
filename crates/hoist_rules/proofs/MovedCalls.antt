-- More than one statement replaces a statement exactly if statements go before it.
use Rattle.hoist_rules.proofs.Common.{ℕ, ◌≡◌, ◌<◌, ◌≤◌, ◌+◌, ◌-◌, drop, take, refl, sym, ap, ◌∙◌, Bool, true, false, ◌||◌, List, [], ◌∷◌, ◌++◌, length, arith, take_all, nat_lt, if◌then◌else◌, Infix, raw_expr_trees, raw_joined, as_body, RawExpr, calls_among, RawExprTree, RawExprTrees, RawElement, RawUnary, RawParenthesized, RawBinary, RawLogicalAnd, RawLogicalOr, RawConditional, RawCall, RawTableCall, NoExprs, And, RawStmtTree, RawDo, RawIf, RawIfElse, RawReturn, holds_call, hold_call, is_named, is_spawn, names_in, part_after, part_named, left_of, before, arguments_before, in_block, value_before, simple_before, returned_before, hoisted, table_before, are_many, are_some}
use Rattle.c_tree.specs.declared.raw_statements.RawStmt.{the_lemmas as stmt_lemmas}
use Rattle.c_tree.specs.declared.raw_expressions.RawExpr.{the_lemmas as expr_lemmas}
use Rattle.hoist_rules.proofs.ArgumentTurns.{some_hold}

some_later : (xs ys : List RawStmtTree) → are_some ys ≡ true → are_some (xs ++ ys) ≡ true
some_later [] ys h = h
some_later (x ∷ xs) ys h = refl

some_if : (b : Bool) (xs : List RawStmtTree) → are_some xs ≡ true → are_some (if b then xs else []) ≡ b
some_if true xs h = h
some_if false xs h = refl

some_both : (xs ys : List RawStmtTree) → are_some (xs ++ ys) ≡ (are_some xs || are_some ys)
some_both [] ys = refl
some_both (x ∷ xs) ys = refl

some_parts : (xs ys : List RawStmtTree) (a b : Bool) → are_some xs ≡ a → are_some ys ≡ b → are_some (xs ++ ys) ≡ (a || b)
some_parts xs ys a b g h = some_both xs ys ∙ (λ i. g i || h i)

or_assoc : (a b c : Bool) → ((a || b) || c) ≡ (a || (b || c))
or_assoc true b c = refl
or_assoc false b c = refl

-- a part that gets a name goes before; it gets one only if a later part goes before
some_named : (b : Bool) (k : ℕ) (left : RawExprTree) → are_some (part_named b k left) ≡ b
some_named true k left = refl
some_named false k left = refl

later_named : (later : Bool) (k : ℕ) (e left : RawExprTree) (ys : List RawStmtTree)
    → are_some ys ≡ later → are_some (part_named (is_named later e) k left ++ ys) ≡ later
later_named true k e left ys h = some_later (part_named (is_named true e) k left) ys h
later_named false k e left ys h = h

middle_part : (later : Bool) (xs ys : List RawStmtTree) (k : ℕ) (e left : RawExprTree) (a : Bool) → are_some xs ≡ a → are_some ys ≡ later
    → are_some (xs ++ part_named (is_named later e) k left ++ ys) ≡ (a || later)
middle_part later [] ys k e left a g h = later_named later k e left ys h ∙ ap (λ b. b || later) g
middle_part later (x ∷ xs) ys k e left a g h = ap (λ b. b || later) g

-- ---- expressions

pub some_before : (k : ℕ) (e : RawExprTree) → are_some (before k e) ≡ holds_call e
some_before k (RawElement n i) = some_before k i
some_before k (RawUnary op e) = some_before k e
some_before k (RawParenthesized e) = some_before k e
some_before k (RawBinary op l r) =
    middle_part (holds_call r) (before k l) _ (k + names_in l) l (left_of k l) _ (some_before k l) (some_before (part_after k (holds_call r) l) r)
some_before k (RawLogicalAnd l r) = some_parts (before k l) _ _ _ (some_before k l) (some_if (holds_call r) _ refl)
some_before k (RawLogicalOr l r) = some_parts (before k l) _ _ _ (some_before k l) (some_if (holds_call r) _ refl)
some_before k (RawConditional c a b) = some_parts (before k c) _ _ _ (some_before k c) (some_if (holds_call a || holds_call b) _ refl)
some_before k (RawCall n es) = some_later (arguments_before (is_spawn n) k es) _ refl
some_before k (RawTableCall n i e) = some_later (table_before k i e) _ refl
some_before k _ = refl

some_arguments : (k : ℕ) (es : RawExprTrees) → are_some (arguments_before false k es) ≡ hold_call es
some_arguments k NoExprs = refl
some_arguments k (And e es) =
    middle_part (hold_call es) (before k e) _ (k + names_in e) e (left_of k e) _ (some_before k e) (some_arguments (part_after k (hold_call es) e) es)

pub some_table : (k : ℕ) (i e : RawExprTree) → are_some (table_before k i e) ≡ (holds_call i || holds_call e)
some_table k i e =
    middle_part (holds_call e) (before k i) _ (k + names_in i) i (left_of k i) _ (some_before k i) (some_before (part_after k (holds_call e) i) e)

-- an index, which may get a name, and a value
pub some_element : (k n : ℕ) (i left : RawExprTree) (b : Bool) (ys : List RawStmtTree)
    → are_some (before k i ++ part_named b n left ++ ys) ≡ (holds_call i || (b || are_some ys))
some_element k n i left b ys =
    some_both (before k i ++ part_named b n left) ys ∙ (ap (λ c. c || are_some ys) (some_parts (before k i) _ _ _ (some_before k i) (some_named b n left))
    ∙ or_assoc (holds_call i) b (are_some ys))

-- a chain of operators isn't a call
pub joined_moves : (l : RawExprTree) (op : Infix) (r : RawExprTree) (k : ℕ) → holds_call (raw_joined l op r) ≡ are_some (value_before k (raw_joined l op r))
joined_moves l (Infix.Binary op) r k = sym (some_before k (RawBinary op l r))
joined_moves l Infix.LogicalAnd r k = sym (some_before k (RawLogicalAnd l r))
joined_moves l Infix.LogicalOr r k = sym (some_before k (RawLogicalOr l r))

-- ---- arguments as they are

all_moved : (k : ℕ) (es : RawExprTrees) → nat_lt 0 (calls_among es) ≡ are_some (arguments_before false k es)
all_moved k es = some_hold es ∙ sym (some_arguments k es)

all_others : (e : RawExpr) (es : List RawExpr) → take (length (e ∷ es) - 1) es ≡ es
all_others e es = take_all (length (e ∷ es) - 1) es (omega arith)

pub moved_rest : (stays : Bool) (es : List RawExpr) (calls k : ℕ) → stays ≡ true → 0 < length es
    → calls ≡ calls_among (raw_expr_trees (take (length es - 1) (drop 1 es))) → nat_lt 0 calls ≡ are_some (arguments_before stays k (raw_expr_trees es))
moved_rest true [] calls k h n c = absurd (omega (arith, n))
moved_rest true (e ∷ es) calls k h n c = ap (nat_lt 0) (c ∙ ap (λ xs. calls_among (raw_expr_trees xs)) (all_others e es)) ∙ all_moved k (raw_expr_trees es)
moved_rest false es calls k h n c = cc

pub moved_all : (stays : Bool) (k : ℕ) (es : RawExprTrees) → stays ≡ false → nat_lt 0 (calls_among es) ≡ are_some (arguments_before stays k es)
moved_all true k es h = cc
moved_all false k es h = all_moved k es

pub moved_none : (stays : Bool) (k : ℕ) (es : List RawExpr) → length es ≤ 0
    → nat_lt 0 (calls_among (raw_expr_trees es)) ≡ are_some (arguments_before stays k (raw_expr_trees es))
moved_none stays k (e ∷ es) h = absurd (omega (arith, h))
moved_none _ k [] h = refl

-- ---- statements

-- a statement, and what goes before it
pub one_more : (bs : List RawStmtTree) (x : RawStmtTree) → are_many (bs ++ x ∷ []) ≡ are_some bs
one_more [] x = refl
one_more (b ∷ bs) x = some_later bs (x ∷ []) refl

some_hoisted : (k : ℕ) (s : RawStmtTree) → are_some (hoisted k s) ≡ true
some_hoisted k (RawDo s) = some_later (simple_before k s) _ refl
some_hoisted k (RawIf c s) = some_later (before k c) _ refl
some_hoisted k (RawIfElse c s r) = some_later (before k c) _ refl
some_hoisted k (RawReturn at v) = some_later (returned_before k v) _ refl
some_hoisted k _ = refl

single_of : (ss : List RawStmtTree) → are_some ss ≡ true → are_many ss ≡ false → ss ≡ as_body ss ∷ []
single_of [] g h = cc
single_of (s ∷ []) g h = refl
single_of (s ∷ t ∷ ss) g h = absurd (cc)

pub single : (s : RawStmtTree) (k : ℕ) → are_many (hoisted k s) ≡ false → hoisted k s ≡ as_body (hoisted k s) ∷ []
single s k h = single_of (hoisted k s) (some_hoisted k s) h

pub many : (ss : List RawStmtTree) → are_many ss ≡ true → as_body ss ≡ in_block ss
many [] h = cc
many (s ∷ []) h = cc
many (s ∷ t ∷ ss) h = refl

-- for the functions that test this, with the equations of the views of expressions and statements
pub ruleset moving = (some_before, some_table, some_element, one_more, expr_lemmas, stmt_lemmas)
