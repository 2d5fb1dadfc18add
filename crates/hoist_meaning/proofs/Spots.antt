-- Where the rewritten tree stands after what goes before an expression: the new names at the top level of those statements are in scope,
-- each under the next number of a variable, and each new name has taken one, those in branches included.
use Rattle.hoist_meaning.proofs.Common.{ℕ, ◌+◌, ◌≤◌, ◌≡◌, refl, sym, ap, subst, ◌∙◌, Bool, true, false, ◌||◌, List, [], ◌∷◌, ◌++◌, length, length-append, arith, if◌then◌else◌, RawExprTree, RawExprTrees, RawElement, RawUnary, RawParenthesized, RawBinary, RawLogicalAnd, RawLogicalOr, RawConditional, RawCall, RawTableCall, NoExprs, And, RawStmtTree, RawIfElse, capped, Meaning, bound, Spot, inside, left, stmt_after, new_name, used, declared, declared_as, set_to, holds_call, hold_call, is_named, is_spawn, one_if, names_in, arguments_names, part_after, part_named, left_of, is_true, is_false, in_block, decided, before, arguments_before, call_left, table_call_left, or_left, or_right, no_names}
use Rattle.hoist_meaning.proofs.Bindings.{Agreement, New, in_tree, IsAgreement, new_bound}
use Rattle.hoist_meaning.proofs.Items.{after, after_both}

-- a part that is given the name k, as variable v
abbrev pub with_part : Bool → ℕ → ℕ → Agreement → Agreement
with_part true k v a = New k v a
with_part false k v a = a

-- the names in scope after what goes before an expression whose new names have numbers from k on, and are variables from v on
abbrev mutual
  pub with_names : ℕ → ℕ → RawExprTree → Agreement → Agreement
  with_names k v (RawElement n i) a = with_names k v i a
  with_names k v (RawUnary op e) a = with_names k v e a
  with_names k v (RawParenthesized e) a = with_names k v e a
  with_names k v (RawBinary op l r) a =
      with_names (part_after k (holds_call r) l) (part_after v (holds_call r) l) r (with_part (is_named (holds_call r) l) (k + names_in l) (v + names_in l) (with_names k v l a))
  with_names k v (RawLogicalAnd l r) a = with_part (holds_call r) (k + names_in l) (v + names_in l) (with_names k v l a)
  with_names k v (RawLogicalOr l r) a = with_part (holds_call r) (k + names_in l) (v + names_in l) (with_names k v l a)
  with_names k v (RawConditional c x y) a = with_part (holds_call x || holds_call y) (k + names_in c) (v + names_in c) (with_names k v c a)
  with_names k v (RawCall n es) a = New (k + arguments_names (is_spawn n) es) (v + arguments_names (is_spawn n) es) (with_argument_names (is_spawn n) k v es a)
  with_names k v (RawTableCall n i e) a =
      New (part_after k (holds_call e) i + names_in e) (part_after v (holds_call e) i + names_in e)
      (with_names (part_after k (holds_call e) i) (part_after v (holds_call e) i) e (with_part (is_named (holds_call e) i) (k + names_in i) (v + names_in i) (with_names k v i a)))
  with_names k v _ a = a

  pub with_argument_names : Bool → ℕ → ℕ → RawExprTrees → Agreement → Agreement
  with_argument_names stays k v NoExprs a = a
  with_argument_names true k v (And e es) a = with_argument_names false k v es a
  with_argument_names false k v (And e es) a =
      with_argument_names false (part_after k (hold_call es) e) (part_after v (hold_call es) e) es (with_part (is_named (hold_call es) e) (k + names_in e) (v + names_in e) (with_names k v e a))

-- a place of the tree with these names in scope, where v variables were declared so far
pub record StandsAt (a : Agreement) (v : ℕ) (s : Spot) : Type 0 where
  pub agrees : IsAgreement a
  pub names : s.names ≡ in_tree a
  pub count : length s.sizes ≡ v

pub below_limit : (n v : ℕ) → n ≡ v → v ≤ 65536 → capped n ≡ v
below_limit n v e h = omega (arith, e, h)

declared_at : (a : Agreement) (k v : ℕ) (s : Spot) → StandsAt a v s → v ≤ 65536 → bound s.names (new_name k).text (Meaning.Local (capped (length s.sizes)) false) ≡ in_tree (New k v a)
declared_at a k v s h small =
    (λ i. bound (h.names i) (new_name k).text (Meaning.Local (below_limit (length s.sizes) v h.count small i) false)) ∙ new_bound k v a h.agrees

one_more : (sizes : List ℕ) (v : ℕ) → length sizes ≡ v → length (sizes ++ 1 ∷ []) ≡ v + 1
one_more sizes v e = let many = length-append sizes (1 ∷ []) in omega (arith, many, e)

-- after `int h = e;` and after `int h;` of a new name
pub declared_stands : (a : Agreement) (k v : ℕ) (e : RawExprTree) (s : Spot) → StandsAt a v s → v ≤ 65536 → StandsAt (New k v a) (v + 1) (after s (declared_as k e ∷ []))
declared_stands a k v e s h small = record { agrees = h.agrees; names = declared_at a k v s h small; count = one_more s.sizes v h.count }

pub zeroed_stands : (a : Agreement) (k v : ℕ) (s : Spot) → StandsAt a v s → v ≤ 65536 → StandsAt (New k v a) (v + 1) (after s (declared k ∷ []))
zeroed_stands a k v s h small = record { agrees = h.agrees; names = declared_at a k v s h small; count = one_more s.sizes v h.count }

pub as_many : (a : Agreement) (v w : ℕ) (s : Spot) → v ≡ w → StandsAt a v s → StandsAt a w s
as_many a v w s e h = subst (λ n. StandsAt a n s) e h

-- after a part that is named or not
pub part_stands : (b : Bool) (a : Agreement) (k v : ℕ) (x : RawExprTree) (s : Spot) → StandsAt a v s → v + one_if b ≤ 65536 → StandsAt (with_part b k v a) (v + one_if b) (after s (part_named b k x))
part_stands true a k v x s h small = declared_stands a k v x s h (omega (arith, small))
part_stands false a k v x s h small = as_many a v (v + 0) s (omega arith) h

pub after_joined : (a : Agreement) (v : ℕ) (s : Spot) (ss ts : List RawStmtTree) → StandsAt a v (after (after s ss) ts) → StandsAt a v (after s (ss ++ ts))
after_joined a v s ss ts h = subst (λ t. StandsAt a v t) (sym (after_both s ss ts)) h

pub in_scope : (a : Agreement) (v : ℕ) (s : Spot) → StandsAt a v s → StandsAt a v (inside s)
in_scope a v s h = record { agrees = h.agrees; names = h.names; count = h.count }

-- `{ ss h = x; }`: its names leave scope again, and their variables stay
pub branch_count : (v h : ℕ) (x : RawExprTree) (s : Spot) (ss : List RawStmtTree) → length (after (inside (inside s)) ss).sizes ≡ v → length (stmt_after (inside s) (in_block (ss ++ set_to h x ∷ []))).sizes ≡ v
branch_count v h x s ss e = ap (λ (t : Spot). length t.sizes) (after_both (inside (inside s)) ss (set_to h x ∷ [])) ∙ e

-- after an `if` of one branch and of two, from a place where these names are in scope
pub chosen_stands : (a : Agreement) (v w h : ℕ) (c x : RawExprTree) (s : Spot) (ss : List RawStmtTree) → StandsAt a v s → length (after (inside (inside s)) ss).sizes ≡ w → StandsAt a w (left s (stmt_after (inside s) (in_block (ss ++ set_to h x ∷ []))))
chosen_stands a v w h c x s ss stand e = record { agrees = stand.agrees; names = stand.names; count = branch_count w h x s ss e }

-- after what goes before an expression, and before arguments
abbrev pub Leaves : Agreement → ℕ → ℕ → RawExprTree → Spot → Type 0
Leaves a k v e s = StandsAt (with_names k v e a) (v + names_in e) (after s (before k e))

-- a part, and then more
pub part_leaves : (later : Bool) (a b : Agreement) (k v w : ℕ) (e : RawExprTree) (s : Spot) (ss : List RawStmtTree) → v + names_in e + one_if (is_named later e) ≤ 65536 → Leaves a k v e s →
    ((t : Spot) → StandsAt (with_part (is_named later e) (k + names_in e) (v + names_in e) (with_names k v e a)) (part_after v later e) t → StandsAt b w (after t ss)) →
    StandsAt b w (after s (before k e ++ part_named (is_named later e) (k + names_in e) (left_of k e) ++ ss))
part_leaves later a b k v w e s ss small first rest =
    let named = part_named (is_named later e) (k + names_in e) (left_of k e) in
    let here = part_stands (is_named later e) (with_names k v e a) (k + names_in e) (v + names_in e) (left_of k e) (after s (before k e)) first small in
    after_joined b w s (before k e ++ named) ss (subst (λ t. StandsAt b w (after t ss)) (sym (after_both s (before k e) named)) (rest (after (after s (before k e)) named) here))

-- `&&` and `||`
logical_leaves : (b : Bool) (a : Agreement) (k v : ℕ) (l r c : RawExprTree) (s : Spot) → holds_call r ≡ b → v + (names_in l + one_if b + names_in r) ≤ 65536 → Leaves a k v l s →
    ((t : Spot) → StandsAt (New (k + names_in l) (v + names_in l) (with_names k v l a)) (v + names_in l + 1) t → v + names_in l + 1 + names_in r ≤ 65536 → Leaves (New (k + names_in l) (v + names_in l) (with_names k v l a)) (k + names_in l + 1) (v + names_in l + 1) r t) →
    StandsAt (with_part b (k + names_in l) (v + names_in l) (with_names k v l a)) (v + (names_in l + one_if b + names_in r))
    (after s (before k l ++ (if b then decided (k + names_in l) (left_of k l) c (before (k + names_in l + 1) r) (left_of (k + names_in l + 1) r) else [])))
logical_leaves true a k v l r c s e small first rest =
    let n = k + names_in l in
    let m = v + names_in l in
    let here = after s (before k l) in
    let named = declared_as n (is_true (left_of k l)) in
    let declared_here = declared_stands (with_names k v l a) n m (is_true (left_of k l)) here first (omega (arith, small)) in
    let there = stmt_after here named in
    let inner = rest (inside (inside there)) (in_scope (New n m (with_names k v l a)) (m + 1) (inside there) (in_scope (New n m (with_names k v l a)) (m + 1) there declared_here)) (omega (arith, small)) in
    let whole = chosen_stands (New n m (with_names k v l a)) (m + 1) (m + 1 + names_in r) n c (is_true (left_of (n + 1) r)) there (before (n + 1) r) declared_here inner.count in
    after_joined (New n m (with_names k v l a)) (v + (names_in l + 1 + names_in r)) s (before k l) (decided n (left_of k l) c (before (n + 1) r) (left_of (n + 1) r))
    (as_many (New n m (with_names k v l a)) (m + 1 + names_in r) (v + (names_in l + 1 + names_in r)) (after here (decided n (left_of k l) c (before (n + 1) r) (left_of (n + 1) r))) (omega arith) whole)
logical_leaves false a k v l r c s e small first rest =
    let none = no_names r e in
    after_joined (with_names k v l a) (v + (names_in l + 0 + names_in r)) s (before k l) []
    (as_many (with_names k v l a) (v + names_in l) (v + (names_in l + 0 + names_in r)) (after s (before k l)) (omega (arith, none)) first)

-- `?:`, whose parts are in branches where one of them holds a call
conditional_leaves : (b : Bool) (a : Agreement) (k v : ℕ) (c x y : RawExprTree) (s : Spot) → (holds_call x || holds_call y) ≡ b → v + (names_in c + one_if b + names_in x + names_in y) ≤ 65536 → Leaves a k v c s →
    ((t : Spot) → StandsAt (New (k + names_in c) (v + names_in c) (with_names k v c a)) (v + names_in c + 1) t → v + names_in c + 1 + names_in x ≤ 65536 → Leaves (New (k + names_in c) (v + names_in c) (with_names k v c a)) (k + names_in c + 1) (v + names_in c + 1) x t) →
    ((t : Spot) → StandsAt (New (k + names_in c) (v + names_in c) (with_names k v c a)) (v + names_in c + 1 + names_in x) t → v + names_in c + 1 + names_in x + names_in y ≤ 65536 → Leaves (New (k + names_in c) (v + names_in c) (with_names k v c a)) (k + names_in c + 1 + names_in x) (v + names_in c + 1 + names_in x) y t) →
    StandsAt (with_part b (k + names_in c) (v + names_in c) (with_names k v c a)) (v + (names_in c + one_if b + names_in x + names_in y))
    (after s (before k c ++ (if b then
    declared (k + names_in c)
    ∷ RawIfElse (left_of k c)
    (in_block (before (k + names_in c + 1) x ++ set_to (k + names_in c) (left_of (k + names_in c + 1) x) ∷ []))
    (in_block (before (k + names_in c + 1 + names_in x) y ++ set_to (k + names_in c) (left_of (k + names_in c + 1 + names_in x) y) ∷ []))
    ∷ []
    else [])))
conditional_leaves true a k v c x y s e small first rest_x rest_y =
    let n = k + names_in c in
    let m = v + names_in c in
    let o = k + names_in c + 1 + names_in x in
    let b = New n m (with_names k v c a) in
    let here = after s (before k c) in
    let there = stmt_after here (declared n) in
    let declared_here = zeroed_stands (with_names k v c a) n m here first (omega (arith, small)) in
    let inner_x = rest_x (inside (inside there)) (in_scope b (m + 1) (inside there) (in_scope b (m + 1) there declared_here)) (omega (arith, small)) in
    let middle = left there (stmt_after (inside there) (in_block (before (n + 1) x ++ set_to n (left_of (n + 1) x) ∷ []))) in
    let at_middle = chosen_stands b (m + 1) (m + 1 + names_in x) n c (left_of (n + 1) x) there (before (n + 1) x) declared_here inner_x.count in
    let inner_y = rest_y (inside (inside middle)) (in_scope b (m + 1 + names_in x) (inside middle) (in_scope b (m + 1 + names_in x) middle at_middle)) (omega (arith, small)) in
    let ss : List RawStmtTree = declared n ∷ RawIfElse (left_of k c) (in_block (before (n + 1) x ++ set_to n (left_of (n + 1) x) ∷ [])) (in_block (before o y ++ set_to n (left_of o y) ∷ [])) ∷ [] in
    let whole : StandsAt b (m + 1 + names_in x + names_in y) (after here ss) =
    record { agrees = declared_here.agrees; names = declared_here.names; count = branch_count (m + 1 + names_in x + names_in y) n (left_of o y) middle (before o y) inner_y.count } in
    after_joined b (v + (names_in c + 1 + names_in x + names_in y)) s (before k c) ss (as_many b (m + 1 + names_in x + names_in y) (v + (names_in c + 1 + names_in x + names_in y)) (after here ss) (omega arith) whole)
conditional_leaves false a k v c x y s e small first rest_x rest_y =
    let none_x = no_names x (or_left (holds_call x) (holds_call y) e) in
    let none_y = no_names y (or_right (holds_call x) (holds_call y) e) in
    after_joined (with_names k v c a) (v + (names_in c + 0 + names_in x + names_in y)) s (before k c) []
    (as_many (with_names k v c a) (v + names_in c) (v + (names_in c + 0 + names_in x + names_in y)) (after s (before k c)) (omega (arith, none_x, none_y)) first)

mutual
  pub before_stands : (a : Agreement) (k v : ℕ) (e : RawExprTree) (s : Spot) → StandsAt a v s → v + names_in e ≤ 65536 → Leaves a k v e s
  before_stands a k v (RawElement n i) s h small = before_stands a k v i s h small
  before_stands a k v (RawUnary op e) s h small = before_stands a k v e s h small
  before_stands a k v (RawParenthesized e) s h small = before_stands a k v e s h small
  before_stands a k v (RawBinary op l r) s h small =
      let b = with_names k v (RawBinary op l r) a in
      let inner = with_part (is_named (holds_call r) l) (k + names_in l) (v + names_in l) (with_names k v l a) in
      let first = before_stands a k v l s h (omega (arith, small)) in
      part_leaves (holds_call r) a b k v (v + names_in (RawBinary op l r)) l s (before (part_after k (holds_call r) l) r) (omega (arith, small)) first
      (λ t here. as_many b (part_after v (holds_call r) l + names_in r) (v + names_in (RawBinary op l r)) (after t (before (part_after k (holds_call r) l) r)) (omega arith)
      (before_stands inner (part_after k (holds_call r) l) (part_after v (holds_call r) l) r t here (omega (arith, small))))
  before_stands a k v (RawLogicalAnd l r) s h small =
      let b = New (k + names_in l) (v + names_in l) (with_names k v l a) in
      logical_leaves (holds_call r) a k v l r (used (k + names_in l)) s refl small (before_stands a k v l s h (omega (arith, small))) (λ t here fits. before_stands b (k + names_in l + 1) (v + names_in l + 1) r t here fits)
  before_stands a k v (RawLogicalOr l r) s h small =
      let b = New (k + names_in l) (v + names_in l) (with_names k v l a) in
      logical_leaves (holds_call r) a k v l r (is_false (used (k + names_in l))) s refl small (before_stands a k v l s h (omega (arith, small))) (λ t here fits. before_stands b (k + names_in l + 1) (v + names_in l + 1) r t here fits)
  before_stands a k v (RawConditional c x y) s h small =
      let b = New (k + names_in c) (v + names_in c) (with_names k v c a) in
      conditional_leaves (holds_call x || holds_call y) a k v c x y s refl small (before_stands a k v c s h (omega (arith, small)))
      (λ t here fits. before_stands b (k + names_in c + 1) (v + names_in c + 1) x t here fits) (λ t here fits. before_stands b (k + names_in c + 1 + names_in x) (v + names_in c + 1 + names_in x) y t here fits)
  before_stands a k v (RawCall n es) s h small =
      let stays = is_spawn n in
      let m = arguments_names stays es in
      let b = with_argument_names stays k v es a in
      let here = arguments_stand a k v stays es s h (omega (arith, small)) in
      let named = declared_stands b (k + m) (v + m) (call_left k n es) (after s (arguments_before stays k es)) here (omega (arith, small)) in
      after_joined (New (k + m) (v + m) b) (v + (m + 1)) s (arguments_before stays k es) (declared_as (k + m) (call_left k n es) ∷ [])
      (as_many (New (k + m) (v + m) b) (v + m + 1) (v + (m + 1)) (after (after s (arguments_before stays k es)) (declared_as (k + m) (call_left k n es) ∷ [])) (omega arith) named)
  before_stands a k v (RawTableCall n i e) s h small =
      let k1 = part_after k (holds_call e) i in
      let v1 = part_after v (holds_call e) i in
      let inner = with_part (is_named (holds_call e) i) (k + names_in i) (v + names_in i) (with_names k v i a) in
      let b = with_names k1 v1 e inner in
      let ss = before k i ++ part_named (is_named (holds_call e) i) (k + names_in i) (left_of k i) ++ before k1 e in
      let call = declared_as (k1 + names_in e) (table_call_left k n i e) in
      let here = part_leaves (holds_call e) a b k v (v1 + names_in e) i s (before k1 e) (omega (arith, small)) (before_stands a k v i s h (omega (arith, small))) (λ t stand. before_stands inner k1 v1 e t stand (omega (arith, small))) in
      let named = declared_stands b (k1 + names_in e) (v1 + names_in e) (table_call_left k n i e) (after s ss) here (omega (arith, small)) in
      after_joined (New (k1 + names_in e) (v1 + names_in e) b) (v + names_in (RawTableCall n i e)) s ss (call ∷ [])
      (as_many (New (k1 + names_in e) (v1 + names_in e) b) (v1 + names_in e + 1) (v + names_in (RawTableCall n i e)) (after (after s ss) (call ∷ [])) (omega arith) named)
  before_stands a k v _ s h small = as_many a v (v + 0) s (omega arith) h

  pub arguments_stand : (a : Agreement) (k v : ℕ) (stays : Bool) (es : RawExprTrees) (s : Spot) → StandsAt a v s → v + arguments_names stays es ≤ 65536 → StandsAt (with_argument_names stays k v es a) (v + arguments_names stays es) (after s (arguments_before stays k es))
  arguments_stand a k v stays NoExprs s h small = as_many a v (v + 0) s (omega arith) h
  arguments_stand a k v true (And e es) s h small = arguments_stand a k v false es s h small
  arguments_stand a k v false (And e es) s h small =
      let k1 = part_after k (hold_call es) e in
      let v1 = part_after v (hold_call es) e in
      let inner = with_part (is_named (hold_call es) e) (k + names_in e) (v + names_in e) (with_names k v e a) in
      let b = with_argument_names false k1 v1 es inner in
      part_leaves (hold_call es) a b k v (v + arguments_names false (And e es)) e s (arguments_before false k1 es) (omega (arith, small)) (before_stands a k v e s h (omega (arith, small)))
      (λ t here. as_many b (v1 + arguments_names false es) (v + arguments_names false (And e es)) (after t (arguments_before false k1 es)) (omega arith) (arguments_stand inner k1 v1 false es t here (omega (arith, small))))
