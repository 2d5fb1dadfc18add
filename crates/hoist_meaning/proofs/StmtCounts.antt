-- The calls of a rewritten source are those of the text: statements and items.
use Rattle.hoist_meaning.proofs.Common.{ℕ, ◌+◌, ◌≡◌, refl, ap, ◌∙◌, Bool, true, false, List, [], ◌∷◌, ◌++◌, append-nil, Option, Some, None, arith, if◌then◌else◌, NameTree, RawExprTree, RawExprTrees, RawCall, RawTableCall, RawSimpleTree, RawDeclareWith, RawSet, RawSetElement, RawCalling, RawTableCalling, RawStmtTree, RawStmtTrees, RawDo, RawBlock, RawIf, RawIfElse, RawWhile, RawFor, RawBreak, RawReturn, NoRawStmts, RawThen, RawItemTree, RawFunctionItem, raw_in_order, as_body, HasNoCall, is_call, Declared, expr_places, exprs_places, simple_places, simples_places, optional_places, step_places, stmt_places, stmts_places, names_places, item_places, items_places, holds_call, holds_nested, is_named, is_spawn, names_in, part_after, part_or, left_of, arguments_left, call_left, table_call_left, is_false, in_block, before, value_left, value_before, simple_left, simple_before, returned_left, returned_before, while_calling, stmt_names, hoisted, all_hoisted, item_hoisted, items_hoisted, left_whole, arguments_whole, IsPlain, IsSimplePlain, IsOptionPlain, IsStmtPlain, AreStmtsPlain, IsItemPlain, AreItemsPlain}
use Rattle.hoist_meaning.proofs.CallCounts.{no_places, none_of_them, part_places, stmts_count, both_count, part_count, before_count, arguments_count, body_count}

-- ---- places of what is left

call_left_places : (k : ℕ) (n : NameTree) (es : RawExprTrees) → expr_places is_call (call_left k n es) ≡ n.at ∷ []
call_left_places k n es = rw (none_of_them (arguments_left (is_spawn n) k es) (arguments_whole (is_spawn n) k es)) refl

table_left_places : (k : ℕ) (n : NameTree) (i e : RawExprTree) → expr_places is_call (table_call_left k n i e) ≡ n.at ∷ []
table_left_places k n i e =
    rw (part_places (is_named (holds_call e) i) (k + names_in i) (left_of k i) (left_whole k i), no_places (left_of (part_after k (holds_call e) i) e) (left_whole (part_after k (holds_call e) i) e)) refl

module _ (c : List ℕ → ℕ) (none : c [] ≡ 0) (both : (xs ys : List ℕ) → c (xs ++ ys) ≡ c xs + c ys) where
  no_count : (e : RawExprTree) → HasNoCall e → c (expr_places is_call e) ≡ 0
  no_count e h = ap c (no_places e h) ∙ none

  -- of a condition that is left
  quiet : (e : RawExprTree) (xs : List ℕ) → HasNoCall e → c (expr_places is_call e ++ xs) ≡ c xs
  quiet e xs h = ap (λ ps. c (ps ++ xs)) (no_places e h)

  one_count : (s : RawStmtTree) → stmts_count c (s ∷ []) ≡ c (stmt_places is_call s)
  one_count s = ap c (append-nil (stmt_places is_call s))

  value_count : (k : ℕ) (v : RawExprTree) → IsPlain v → stmts_count c (value_before k v) + c (expr_places is_call (value_left k v)) ≡ c (expr_places is_call v)
  value_count k (RawCall n es) h =
      let first = arguments_count c none both k (is_spawn n) es h in
      let left = ap c (call_left_places k n es) in
      let there = both (n.at ∷ []) (exprs_places is_call es) in
      omega (arith, first, left, there)
  value_count k (RawTableCall n i e) h =
      let parts = part_count c none both k (holds_call e) i (before (part_after k (holds_call e) i) e) in
      let first = before_count c none both k i h.0 in
      let second = before_count c none both (part_after k (holds_call e) i) e h.1 in
      let left = ap c (table_left_places k n i e) in
      let there = both (n.at ∷ []) (expr_places is_call i ++ expr_places is_call e) in
      let rest = both (expr_places is_call i) (expr_places is_call e) in
      omega (arith, parts, first, second, left, there, rest)
  value_count k v h = let first = before_count c none both k v h in let left = no_count (left_of k v) (left_whole k v) in omega (arith, first, left)

  simple_count : (k : ℕ) (s : RawSimpleTree) → IsSimplePlain s → stmts_count c (simple_before k s) + c (simple_places is_call (simple_left k s)) ≡ c (simple_places is_call s)
  simple_count k (RawDeclareWith n v) h = value_count k v h
  simple_count k (RawSet n v) h = value_count k v h
  simple_count k (RawSetElement n i v) h =
      let m = part_after k (holds_nested v) i in
      let index = part_or (is_named (holds_nested v) i) (k + names_in i) (left_of k i) in
      let parts = part_count c none both k (holds_nested v) i (value_before m v) in
      let first = before_count c none both k i h.0 in
      let second = value_count m v h.1 in
      let left : c (expr_places is_call index ++ expr_places is_call (value_left m v)) ≡ c (expr_places is_call (value_left m v)) =
      ap (λ ps. c (ps ++ expr_places is_call (value_left m v))) (part_places (is_named (holds_nested v) i) (k + names_in i) (left_of k i) (left_whole k i)) in
      let there = both (expr_places is_call i) (expr_places is_call v) in
      omega (arith, parts, first, second, left, there)
  simple_count k (RawCalling n es) h = value_count k (RawCall n es) h
  simple_count k (RawTableCalling n i e) h = value_count k (RawTableCall n i e) h
  simple_count k _ h = omega (arith, none)

  returned_count : (k : ℕ) (v : Option RawExprTree) → IsOptionPlain v → stmts_count c (returned_before k v) + c (optional_places is_call (returned_left k v)) ≡ c (optional_places is_call v)
  returned_count k None h = omega (arith, none)
  returned_count k (Some v) h = value_count k v h

  -- the turn of a loop whose condition is tested in it
  turn_count : (k : ℕ) (d : RawExprTree) (s : RawStmtTree) → IsPlain d → c (stmt_places is_call (while_calling k d s)) ≡ c (expr_places is_call d) + c (stmt_places is_call s)
  turn_count k d s h =
      let ends = RawIf (is_false (left_of k d)) (RawBreak 0) in
      let all = both_count c none both (before k d) (ends ∷ s ∷ []) in
      let first = before_count c none both k d h in
      let test : stmts_places is_call (raw_in_order (ends ∷ s ∷ [])) ≡ stmt_places is_call s = rw (no_places (left_of k d) (left_whole k d)) (append-nil (stmt_places is_call s)) in
      let last = ap c test in
      omega (arith, all, first, last)

  while_count : (b : Bool) (k : ℕ) (d : RawExprTree) (s t : RawStmtTree) (n : ℕ) → IsPlain d → c (stmt_places is_call s) ≡ n → c (stmt_places is_call t) ≡ n →
      c (stmt_places is_call (if b then while_calling k d s else RawWhile d t)) ≡ c (expr_places is_call d) + n
  while_count true k d s t n h hs ht = let turn = turn_count k d s h in omega (arith, turn, hs)
  while_count false k d s t n h hs ht = let there = both (expr_places is_call d) (stmt_places is_call t) in omega (arith, there, ht)

  mutual
    hoisted_count : (k : ℕ) (s : RawStmtTree) → IsStmtPlain s → stmts_count c (hoisted k s) ≡ c (stmt_places is_call s)
    hoisted_count k (RawDo s) h =
        let all = both_count c none both (simple_before k s) (RawDo (simple_left k s) ∷ []) in
        let last = one_count (RawDo (simple_left k s)) in
        let parts = simple_count k s h in
        omega (arith, all, last, parts)
    hoisted_count k (RawBlock ss) h = one_count (in_block (all_hoisted k ss)) ∙ all_count k ss h
    hoisted_count k (RawIf d s) h =
        let body = as_body (hoisted (k + names_in d) s) in
        let all = both_count c none both (before k d) (RawIf (left_of k d) body ∷ []) in
        let first = before_count c none both k d h.0 in
        let last = one_count (RawIf (left_of k d) body) in
        let test = quiet (left_of k d) (stmt_places is_call body) (left_whole k d) in
        let inner = body_count c none both (hoisted (k + names_in d) s) in
        let rest = hoisted_count (k + names_in d) s h.1 in
        let there = both (expr_places is_call d) (stmt_places is_call s) in
        omega (arith, all, first, last, test, inner, rest, there)
    hoisted_count k (RawIfElse d s r) h =
        let m = k + names_in d + stmt_names s in
        let body = as_body (hoisted (k + names_in d) s) in
        let otherwise = as_body (hoisted m r) in
        let all = both_count c none both (before k d) (RawIfElse (left_of k d) body otherwise ∷ []) in
        let first = before_count c none both k d h.0 in
        let last = one_count (RawIfElse (left_of k d) body otherwise) in
        let test = quiet (left_of k d) (stmt_places is_call body ++ stmt_places is_call otherwise) (left_whole k d) in
        let two = both (stmt_places is_call body) (stmt_places is_call otherwise) in
        let inner = body_count c none both (hoisted (k + names_in d) s) in
        let other = body_count c none both (hoisted m r) in
        let rest = hoisted_count (k + names_in d) s h.1 in
        let more = hoisted_count m r h.2 in
        let there = both (expr_places is_call d) (stmt_places is_call s ++ stmt_places is_call r) in
        let sides = both (stmt_places is_call s) (stmt_places is_call r) in
        omega (arith, all, first, last, test, two, inner, other, rest, more, there, sides)
    hoisted_count k (RawWhile d s) h =
        let calling = as_body (hoisted (k + names_in d) s) in
        let plain = as_body (hoisted k s) in
        let one = one_count (if holds_call d then while_calling k d calling else RawWhile d plain) in
        let loop = while_count (holds_call d) k d calling plain (c (stmt_places is_call s)) h.0 (body_count c none both (hoisted (k + names_in d) s) ∙ hoisted_count (k + names_in d) s h.1) (body_count c none both (hoisted k s) ∙ hoisted_count k s h.1) in
        let there = both (expr_places is_call d) (stmt_places is_call s) in
        omega (arith, one, loop, there)
    hoisted_count k (RawFor init d step s) h =
        let body = as_body (hoisted k s) in
        let one = one_count (RawFor init d step body) in
        let inner = body_count c none both (hoisted k s) in
        let rest = hoisted_count k s h in
        let a = both (simples_places is_call init) (optional_places is_call d ++ (step_places is_call step ++ stmt_places is_call body)) in
        let b = both (optional_places is_call d) (step_places is_call step ++ stmt_places is_call body) in
        let e = both (step_places is_call step) (stmt_places is_call body) in
        let x = both (simples_places is_call init) (optional_places is_call d ++ (step_places is_call step ++ stmt_places is_call s)) in
        let y = both (optional_places is_call d) (step_places is_call step ++ stmt_places is_call s) in
        let z = both (step_places is_call step) (stmt_places is_call s) in
        omega (arith, one, inner, rest, a, b, e, x, y, z)
    hoisted_count k (RawReturn at v) h =
        let all = both_count c none both (returned_before k v) (RawReturn at (returned_left k v) ∷ []) in
        let last = one_count (RawReturn at (returned_left k v)) in
        let parts = returned_count k v h in
        omega (arith, all, last, parts)
    hoisted_count k _ h = refl

    all_count : (k : ℕ) (ss : RawStmtTrees) → AreStmtsPlain ss → stmts_count c (all_hoisted k ss) ≡ c (stmts_places is_call ss)
    all_count k NoRawStmts h = refl
    all_count k (RawThen s ss) h =
        let all = both_count c none both (hoisted k s) (all_hoisted (k + stmt_names s) ss) in
        let first = hoisted_count k s h.0 in
        let rest = all_count (k + stmt_names s) ss h.1 in
        let there = both (stmt_places is_call s) (stmts_places is_call ss) in
        omega (arith, all, first, rest, there)

  item_count : (i : RawItemTree) → IsItemPlain i → c (item_places is_call (item_hoisted i)) ≡ c (item_places is_call i)
  item_count (RawFunctionItem gives n params body) h =
      let all = all_count 0 body h in
      let one = both (names_places is_call Declared params) (stmts_places is_call (raw_in_order (all_hoisted 0 body))) in
      let there = both (names_places is_call Declared params) (stmts_places is_call body) in
      omega (arith, all, one, there)
  item_count _ h = refl

  -- as many calls have places of a kind in the rewritten tree as in the text
  pub items_count : (is : List RawItemTree) → AreItemsPlain is → c (items_places is_call (items_hoisted is)) ≡ c (items_places is_call is)
  items_count [] h = refl
  items_count (i ∷ is) h =
      let first = item_count i h.0 in
      let rest = items_count is h.1 in
      let one = both (item_places is_call (item_hoisted i)) (items_places is_call (items_hoisted is)) in
      let there = both (item_places is_call i) (items_places is_call is) in
      omega (arith, first, rest, one, there)
