-- The calls of a rewritten tree are those of the text, in another order: any count of places that adds up over lists, as `lesser` and
-- `no_greater` of a place, is the same of both. A first argument of `spawn` in which a call stands would lose it; no source that breaks
-- no rule has one.
use Rattle.hoist_meaning.proofs.Common.{ℕ, ◌+◌, ◌≡◌, refl, sym, ap, ◌∙◌, Bool, true, false, ◌||◌, List, [], ◌∷◌, ◌++◌, append_assoc, append-nil, arith, if◌then◌else◌, NameTree, RawExprTree, RawExprTrees, RawElement, RawUnary, RawParenthesized, RawBinary, RawLogicalAnd, RawLogicalOr, RawConditional, RawCall, RawTableCall, NoExprs, And, RawStmtTree, RawIfElse, raw_in_order, as_body, HasNoCall, HaveNoCall, is_call, expr_places, exprs_places, stmt_places, stmts_places, used, declared, declared_as, set_to, holds_call, hold_call, is_named, is_spawn, names_in, arguments_names, part_after, part_or, part_named, left_of, arguments_left, call_left, table_call_left, is_true, is_false, in_block, decided, before, arguments_before, IsPlain, ArePlain, or_left, or_right, not_held, left_whole, arguments_whole}

-- ---- places

pub no_places : (e : RawExprTree) → HasNoCall e → expr_places is_call e ≡ []
no_places (RawElement n i) h = no_places i h
no_places (RawUnary op e) h = no_places e h
no_places (RawParenthesized e) h = no_places e h
no_places (RawBinary op l r) h = rw (no_places l h.0, no_places r h.1) refl
no_places (RawLogicalAnd l r) h = rw (no_places l h.0, no_places r h.1) refl
no_places (RawLogicalOr l r) h = rw (no_places l h.0, no_places r h.1) refl
no_places (RawConditional c a b) h = rw (no_places c h.0, no_places a h.1, no_places b h.2) refl
no_places (RawCall n es) h = absurd h
no_places (RawTableCall n i e) h = absurd h
no_places _ h = refl

pub none_of_them : (es : RawExprTrees) → HaveNoCall es → exprs_places is_call es ≡ []
none_of_them NoExprs h = refl
none_of_them (And e es) h = rw (no_places e h.0, none_of_them es h.1) refl

stmts_split : (ss ts : List RawStmtTree) → stmts_places is_call (raw_in_order (ss ++ ts)) ≡ stmts_places is_call (raw_in_order ss) ++ stmts_places is_call (raw_in_order ts)
stmts_split [] ts = refl
stmts_split (s ∷ ss) ts =
    ap (λ x. stmt_places is_call s ++ x) (stmts_split ss ts) ∙ sym (append_assoc (stmt_places is_call s) (stmts_places is_call (raw_in_order ss)) (stmts_places is_call (raw_in_order ts)))

-- what the rewriting adds has no place of a call, but the calls
named_places : (n : ℕ) (e : RawExprTree) → HasNoCall e → stmts_places is_call (raw_in_order (declared_as n e ∷ [])) ≡ []
named_places n e h = rw (no_places e h) refl

set_places : (n : ℕ) (e : RawExprTree) → HasNoCall e → stmts_places is_call (raw_in_order (set_to n e ∷ [])) ≡ []
set_places n e h = rw (no_places e h) refl

decided_places : (n : ℕ) (l c : RawExprTree) (ss : List RawStmtTree) (r : RawExprTree) → HasNoCall l → HasNoCall c → HasNoCall r → stmts_places is_call (raw_in_order (decided n l c ss r)) ≡ stmts_places is_call (raw_in_order ss)
decided_places n l c ss r hl hc hr =
    let all = stmts_split ss (set_to n (is_true r) ∷ []) ∙ ap (λ x. stmts_places is_call (raw_in_order ss) ++ x) (set_places n (is_true r) (hr, tt)) ∙ append-nil (stmts_places is_call (raw_in_order ss)) in
    rw (no_places l hl, no_places c hc) (append-nil (stmts_places is_call (raw_in_order (ss ++ set_to n (is_true r) ∷ []))) ∙ all)

branch_places : (n : ℕ) (e : RawExprTree) (ss : List RawStmtTree) → HasNoCall e → stmts_places is_call (raw_in_order (ss ++ set_to n e ∷ [])) ≡ stmts_places is_call (raw_in_order ss)
branch_places n e ss h = stmts_split ss (set_to n e ∷ []) ∙ ap (λ x. stmts_places is_call (raw_in_order ss) ++ x) (set_places n e h) ∙ append-nil (stmts_places is_call (raw_in_order ss))

call_places : (m k : ℕ) (n : NameTree) (es : RawExprTrees) → stmts_places is_call (raw_in_order (declared_as m (call_left k n es) ∷ [])) ≡ n.at ∷ []
call_places m k n es = rw (none_of_them (arguments_left (is_spawn n) k es) (arguments_whole (is_spawn n) k es)) refl

pub part_places : (b : Bool) (n : ℕ) (e : RawExprTree) → HasNoCall e → expr_places is_call (part_or b n e) ≡ []
part_places true n e h = refl
part_places false n e h = no_places e h

table_places : (m k : ℕ) (n : NameTree) (i e : RawExprTree) → stmts_places is_call (raw_in_order (declared_as m (table_call_left k n i e) ∷ [])) ≡ n.at ∷ []
table_places m k n i e =
    rw (part_places (is_named (holds_call e) i) (k + names_in i) (left_of k i) (left_whole k i), no_places (left_of (part_after k (holds_call e) i) e) (left_whole (part_after k (holds_call e) i) e)) refl

-- ---- counts

abbrev pub expr_count : (List ℕ → ℕ) → RawExprTree → ℕ
expr_count c e = c (expr_places is_call e)

abbrev pub stmts_count : (List ℕ → ℕ) → List RawStmtTree → ℕ
stmts_count c ss = c (stmts_places is_call (raw_in_order ss))

module _ (c : List ℕ → ℕ) (none : c [] ≡ 0) (both : (xs ys : List ℕ) → c (xs ++ ys) ≡ c xs + c ys) where
  pub both_count : (ss ts : List RawStmtTree) → stmts_count c (ss ++ ts) ≡ stmts_count c ss + stmts_count c ts
  both_count ss ts = ap c (stmts_split ss ts) ∙ both (stmts_places is_call (raw_in_order ss)) (stmts_places is_call (raw_in_order ts))

  named_count : (b : Bool) (n : ℕ) (e : RawExprTree) → HasNoCall e → stmts_count c (part_named b n e) ≡ 0
  named_count true n e h = ap c (named_places n e h) ∙ none
  named_count false n e h = none

  -- a part, which may be named, and then more
  pub part_count : (k : ℕ) (later : Bool) (e : RawExprTree) (ss : List RawStmtTree) → stmts_count c (before k e ++ part_named (is_named later e) (k + names_in e) (left_of k e) ++ ss) ≡ stmts_count c (before k e) + stmts_count c ss
  part_count k later e ss =
      let named = part_named (is_named later e) (k + names_in e) (left_of k e) in
      let first = both_count (before k e ++ named) ss in
      let second = both_count (before k e) named in
      let zero = named_count (is_named later e) (k + names_in e) (left_of k e) (left_whole k e) in
      omega (arith, first, second, zero)

  if_count : (b : Bool) (ss : List RawStmtTree) (n : ℕ) → (b ≡ true → stmts_count c ss ≡ n) → (b ≡ false → 0 ≡ n) → stmts_count c (if b then ss else []) ≡ n
  if_count true ss n h g = h refl
  if_count false ss n h g = none ∙ g refl

  silent_count : (e : RawExprTree) → holds_call e ≡ false → 0 ≡ expr_count c e
  silent_count e h = sym (ap c (no_places e (not_held e h)) ∙ none)

  -- `&&` and `||`, over what holds of their operands
  logical_count : (k : ℕ) (l r d : RawExprTree) → HasNoCall d → stmts_count c (before k l) ≡ expr_count c l → stmts_count c (before (k + names_in l + 1) r) ≡ expr_count c r →
      stmts_count c (before k l ++ (if holds_call r then decided (k + names_in l) (left_of k l) d (before (k + names_in l + 1) r) (left_of (k + names_in l + 1) r) else [])) ≡ c (expr_places is_call l ++ expr_places is_call r)
  logical_count k l r d hd first last =
      let n = k + names_in l in
      let ss = decided n (left_of k l) d (before (n + 1) r) (left_of (n + 1) r) in
      let all = both_count (before k l) (if holds_call r then ss else []) in
      let second : stmts_count c (if holds_call r then ss else []) ≡ expr_count c r =
      if_count (holds_call r) ss (expr_count c r)
      (λ e. ap c (decided_places n (left_of k l) d (before (n + 1) r) (left_of (n + 1) r) (left_whole k l) hd (left_whole (n + 1) r)) ∙ last)
      (λ e. silent_count r e) in
      let there = both (expr_places is_call l) (expr_places is_call r) in
      omega (arith, all, first, second, there)

  mutual
    -- what goes before an expression has its calls
    pub before_count : (k : ℕ) (e : RawExprTree) → IsPlain e → stmts_count c (before k e) ≡ expr_count c e
    before_count k (RawElement n i) h = before_count k i h
    before_count k (RawUnary op e) h = before_count k e h
    before_count k (RawParenthesized e) h = before_count k e h
    before_count k (RawBinary op l r) h =
        let all = part_count k (holds_call r) l (before (part_after k (holds_call r) l) r) in
        let first = before_count k l h.0 in
        let second = before_count (part_after k (holds_call r) l) r h.1 in
        let there = both (expr_places is_call l) (expr_places is_call r) in
        omega (arith, all, first, second, there)
    before_count k (RawLogicalAnd l r) h = logical_count k l r (used (k + names_in l)) tt (before_count k l h.0) (before_count (k + names_in l + 1) r h.1)
    before_count k (RawLogicalOr l r) h = logical_count k l r (is_false (used (k + names_in l))) tt (before_count k l h.0) (before_count (k + names_in l + 1) r h.1)
    before_count k (RawConditional d a b) h =
        let n = k + names_in d in
        let o = k + names_in d + 1 + names_in a in
        let first_block = in_block (before (n + 1) a ++ set_to n (left_of (n + 1) a) ∷ []) in
        let second_block = in_block (before o b ++ set_to n (left_of o b) ∷ []) in
        let ss : List RawStmtTree = declared n ∷ RawIfElse (left_of k d) first_block second_block ∷ [] in
        let first = before_count k d h.0 in
        let chosen : stmts_count c (if holds_call a || holds_call b then ss else []) ≡ expr_count c a + expr_count c b =
        if_count (holds_call a || holds_call b) ss (expr_count c a + expr_count c b)
        (λ e.
        let xs = stmts_places is_call (raw_in_order (before (n + 1) a)) in
        let ys = stmts_places is_call (raw_in_order (before o b)) in
        let places : stmts_places is_call (raw_in_order ss) ≡ xs ++ ys =
        rw (no_places (left_of k d) (left_whole k d), branch_places n (left_of (n + 1) a) (before (n + 1) a) (left_whole (n + 1) a), branch_places n (left_of o b) (before o b) (left_whole o b)) (append-nil (xs ++ ys)) in
        let two = ap c places ∙ both xs ys in
        let x = before_count (n + 1) a h.1 in
        let y = before_count o b h.2 in
        omega (arith, two, x, y))
        (λ e. let x = silent_count a (or_left (holds_call a) (holds_call b) e) in let y = silent_count b (or_right (holds_call a) (holds_call b) e) in omega (arith, x, y)) in
        let all = both_count (before k d) (if holds_call a || holds_call b then ss else []) in
        let there = both (expr_places is_call d) (expr_places is_call a ++ expr_places is_call b) in
        let rest = both (expr_places is_call a) (expr_places is_call b) in
        omega (arith, all, first, chosen, there, rest)
    before_count k (RawCall n es) h =
        let m = k + arguments_names (is_spawn n) es in
        let all = both_count (arguments_before (is_spawn n) k es) (declared_as m (call_left k n es) ∷ []) in
        let first = arguments_count k (is_spawn n) es h in
        let second = ap c (call_places m k n es) in
        let there = both (n.at ∷ []) (exprs_places is_call es) in
        omega (arith, all, first, second, there)
    before_count k (RawTableCall n i e) h =
        let m = part_after k (holds_call e) i + names_in e in
        let all = both_count (before k i ++ part_named (is_named (holds_call e) i) (k + names_in i) (left_of k i) ++ before (part_after k (holds_call e) i) e) (declared_as m (table_call_left k n i e) ∷ []) in
        let parts = part_count k (holds_call e) i (before (part_after k (holds_call e) i) e) in
        let first = before_count k i h.0 in
        let second = before_count (part_after k (holds_call e) i) e h.1 in
        let last = ap c (table_places m k n i e) in
        let there = both (n.at ∷ []) (expr_places is_call i ++ expr_places is_call e) in
        let rest = both (expr_places is_call i) (expr_places is_call e) in
        omega (arith, all, parts, first, second, last, there, rest)
    before_count k _ h = refl

    pub arguments_count : (k : ℕ) (stays : Bool) (es : RawExprTrees) → ArePlain stays es → stmts_count c (arguments_before stays k es) ≡ c (exprs_places is_call es)
    arguments_count k stays NoExprs h = refl
    arguments_count k true (And e es) h =
        let rest = arguments_count k false es h.1 in
        let zero = silent_count e h.0 in
        let there = both (expr_places is_call e) (exprs_places is_call es) in
        omega (arith, rest, zero, there)
    arguments_count k false (And e es) h =
        let all = part_count k (hold_call es) e (arguments_before false (part_after k (hold_call es) e) es) in
        let first = before_count k e h.0 in
        let rest = arguments_count (part_after k (hold_call es) e) false es h.1 in
        let there = both (expr_places is_call e) (exprs_places is_call es) in
        omega (arith, all, first, rest, there)

  -- statements as a body
  pub body_count : (ss : List RawStmtTree) → c (stmt_places is_call (as_body ss)) ≡ stmts_count c ss
  body_count (s ∷ []) = ap c (sym (append-nil (stmt_places is_call s)))
  body_count _ = refl
