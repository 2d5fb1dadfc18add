-- The rewriting takes no more temporaries than the source, or two: `x != 0` takes two. So a bound of at least two stays one.
use Rattle.hoist_parts.proofs.Common.{ℕ, ◌+◌, ◌≤◌, Bool, true, false, ◌||◌, List, [], ◌∷◌, ◌++◌, Option, Some, None, if◌then◌else◌, arith, NameTree, RawExprTree, RawExprTrees, RawNumber, RawElement, RawUnary, RawParenthesized, RawBinary, RawLogicalAnd, RawLogicalOr, RawConditional, RawCall, RawTableCall, NoExprs, And, RawSimpleTree, RawDeclareWith, RawSet, RawSetElement, RawCalling, RawTableCalling, RawStmtTree, RawStmtTrees, RawDo, RawBlock, RawIf, RawIfElse, RawWhile, RawFor, RawBreak, RawReturn, NoRawStmts, RawThen, RawItemTree, RawFunctionItem, raw_in_order, as_body, used, declared, declared_as, set_to, holds_call, hold_call, holds_nested, is_named, is_spawn, names_in, arguments_names, part_after, part_or, part_named, left_of, arguments_left, call_left, table_call_left, is_true, is_false, in_block, decided, before, arguments_before, value_left, value_before, table_before, simple_left, simple_before, returned_left, returned_before, while_calling, stmt_names, hoisted, all_hoisted, item_hoisted, items_hoisted}
use Rattle.c_tree.specs.RawTemporaries.{raw_temporaries, raw_arguments_temporaries, raw_simple_temporaries, raw_optional_temporaries, raw_stmt_temporaries, raw_stmts_temporaries, raw_item_temporaries, AreWithinTemporaries}

-- ---- what is left of an expression

some_temporaries : (e : RawExprTree) → 1 ≤ raw_temporaries e
some_temporaries (RawElement n i) = some_temporaries i
some_temporaries (RawUnary op e) = some_temporaries e
some_temporaries (RawParenthesized e) = some_temporaries e
some_temporaries (RawLogicalAnd l r) = omega (arith, some_temporaries l)
some_temporaries (RawLogicalOr l r) = omega (arith, some_temporaries l)
some_temporaries (RawConditional c a b) = omega (arith, some_temporaries c)
some_temporaries _ = omega arith

part_small : (b : Bool) (n m : ℕ) (e : RawExprTree) → 1 ≤ m → raw_temporaries e ≤ m → raw_temporaries (part_or b n e) ≤ m
part_small true n m e one h = one
part_small false n m e one h = h

if_small : (b : Bool) (m : ℕ) (x y : RawExprTree) → raw_temporaries x ≤ m → raw_temporaries y ≤ m → raw_temporaries (if b then x else y) ≤ m
if_small true m x y h g = h
if_small false m x y h g = g

pub left_small : (k : ℕ) (e : RawExprTree) → raw_temporaries (left_of k e) ≤ raw_temporaries e
left_small k (RawElement n i) = left_small k i
left_small k (RawUnary op e) = left_small k e
left_small k (RawParenthesized e) = left_small k e
left_small k (RawBinary op l r) =
    let first = part_small (is_named (holds_call r) l) (k + names_in l) (raw_temporaries l) (left_of k l) (some_temporaries l) (left_small k l) in
    let second = left_small (part_after k (holds_call r) l) r in
    omega (arith, first, second)
left_small k (RawLogicalAnd l r) =
    if_small (holds_call r) (raw_temporaries (RawLogicalAnd l r)) (used (k + names_in l)) (RawLogicalAnd (left_of k l) r) (some_temporaries (RawLogicalAnd l r)) (let h = left_small k l in omega (arith, h))
left_small k (RawLogicalOr l r) =
    if_small (holds_call r) (raw_temporaries (RawLogicalOr l r)) (used (k + names_in l)) (RawLogicalOr (left_of k l) r) (some_temporaries (RawLogicalOr l r)) (let h = left_small k l in omega (arith, h))
left_small k (RawConditional c a b) =
    if_small (holds_call a || holds_call b) (raw_temporaries (RawConditional c a b)) (used (k + names_in c)) (RawConditional (left_of k c) a b) (some_temporaries (RawConditional c a b)) (let h = left_small k c in omega (arith, h))
left_small k (RawCall n es) = some_temporaries (RawCall n es)
left_small k (RawTableCall n i e) = some_temporaries (RawTableCall n i e)
left_small k _ = omega arith

spawned_small_at : (b : Bool) (e : RawExprTree) → raw_temporaries (if b then RawNumber 0 else e) ≤ raw_temporaries e
spawned_small_at true e = some_temporaries e
spawned_small_at false e = omega arith

arguments_small : (stays : Bool) (k j : ℕ) (es : RawExprTrees) → raw_arguments_temporaries j (arguments_left stays k es) ≤ raw_arguments_temporaries j es
arguments_small stays k j NoExprs = omega arith
arguments_small true k j (And e es) =
    let first = spawned_small_at (holds_call e) e in
    let rest = arguments_small false k (1 + j) es in
    omega (arith, first, rest)
arguments_small false k j (And e es) =
    let first = part_small (is_named (hold_call es) e) (k + names_in e) (raw_temporaries e) (left_of k e) (some_temporaries e) (left_small k e) in
    let rest = arguments_small false (part_after k (hold_call es) e) (1 + j) es in
    omega (arith, first, rest)

call_small : (k : ℕ) (n : NameTree) (es : RawExprTrees) → raw_temporaries (call_left k n es) ≤ raw_temporaries (RawCall n es)
call_small k n es = let h = arguments_small (is_spawn n) k 0 es in omega (arith, h)

table_small : (k : ℕ) (n : NameTree) (i e : RawExprTree) → raw_temporaries (table_call_left k n i e) ≤ raw_temporaries (RawTableCall n i e)
table_small k n i e =
    let first = part_small (is_named (holds_call e) i) (k + names_in i) (raw_temporaries i) (left_of k i) (some_temporaries i) (left_small k i) in
    let second = left_small (part_after k (holds_call e) i) e in
    omega (arith, first, second)

-- ---- what goes before it: each statement takes at most m

abbrev pub AreSmall : ℕ → List RawStmtTree → Type 0
AreSmall m ss = raw_stmts_temporaries (raw_in_order ss) ≤ m

both_small : (m : ℕ) (ss ts : List RawStmtTree) → AreSmall m ss → AreSmall m ts → AreSmall m (ss ++ ts)
both_small m [] ts h g = g
both_small m (s ∷ ss) ts h g = let rest = both_small m ss ts (omega (arith, h)) g in omega (arith, h, rest)

one_small : (m : ℕ) (s : RawStmtTree) → raw_stmt_temporaries s ≤ m → AreSmall m (s ∷ [])
one_small m s h = omega (arith, h)

none_or_small : (b : Bool) (m : ℕ) (ss : List RawStmtTree) → AreSmall m ss → AreSmall m (if b then ss else [])
none_or_small true m ss h = h
none_or_small false m ss h = omega arith

named_small : (b : Bool) (n m : ℕ) (e : RawExprTree) → raw_temporaries e ≤ m → AreSmall m (part_named b n e)
named_small true n m e h = omega (arith, h)
named_small false n m e h = omega arith

-- `{ ss h = e; }`
branch_small : (n m : ℕ) (ss : List RawStmtTree) (e : RawExprTree) → AreSmall m ss → raw_temporaries e ≤ m → raw_stmt_temporaries (in_block (ss ++ set_to n e ∷ [])) ≤ m
branch_small n m ss e h g = both_small m ss (set_to n e ∷ []) h (one_small m (set_to n e) g)

decided_small : (m n : ℕ) (l c : RawExprTree) (ss : List RawStmtTree) (r : RawExprTree) → 2 ≤ m → raw_temporaries l ≤ m → raw_temporaries c ≤ m → AreSmall m ss → raw_temporaries r ≤ m → AreSmall m (decided n l c ss r)
decided_small m n l c ss r two hl hc hs hr =
    let truth : raw_temporaries (is_true r) ≤ m = omega (arith, two, hr) in
    let block = branch_small n m ss (is_true r) hs truth in
    omega (arith, two, hl, hc, block)

-- a part, of which this holds, and then more
part_before_small : (m k : ℕ) (later : Bool) (e : RawExprTree) (ss : List RawStmtTree) → raw_temporaries e ≤ m → AreSmall m (before k e) → AreSmall m ss → AreSmall m (before k e ++ part_named (is_named later e) (k + names_in e) (left_of k e) ++ ss)
part_before_small m k later e ss h small rest =
    let left = left_small k e in
    both_small m (before k e ++ part_named (is_named later e) (k + names_in e) (left_of k e)) ss
    (both_small m (before k e) (part_named (is_named later e) (k + names_in e) (left_of k e)) small (named_small (is_named later e) (k + names_in e) m (left_of k e) (omega (arith, left, h)))) rest

logical_small : (m k : ℕ) (l r c : RawExprTree) → 2 ≤ m → raw_temporaries c ≤ m → raw_temporaries l ≤ m → raw_temporaries r ≤ m → AreSmall m (before k l) → AreSmall m (before (k + names_in l + 1) r) →
    AreSmall m (before k l ++ (if holds_call r then decided (k + names_in l) (left_of k l) c (before (k + names_in l + 1) r) (left_of (k + names_in l + 1) r) else []))
logical_small m k l r c two hc hl hr first second =
    let n = k + names_in l in
    let left = left_small k l in
    let right = left_small (n + 1) r in
    let ss = decided n (left_of k l) c (before (n + 1) r) (left_of (n + 1) r) in
    both_small m (before k l) (if holds_call r then ss else []) first
    (none_or_small (holds_call r) m ss (decided_small m n (left_of k l) c (before (n + 1) r) (left_of (n + 1) r) two (omega (arith, left, hl)) hc second (omega (arith, right, hr))))

mutual
  pub before_small : (m k : ℕ) (e : RawExprTree) → 2 ≤ m → raw_temporaries e ≤ m → AreSmall m (before k e)
  before_small m k (RawElement n i) two h = before_small m k i two h
  before_small m k (RawUnary op e) two h = before_small m k e two h
  before_small m k (RawParenthesized e) two h = before_small m k e two h
  before_small m k (RawBinary op l r) two h =
      let first : raw_temporaries l ≤ m = omega (arith, h) in
      part_before_small m k (holds_call r) l (before (part_after k (holds_call r) l) r) first (before_small m k l two first) (before_small m (part_after k (holds_call r) l) r two (omega (arith, h)))
  before_small m k (RawLogicalAnd l r) two h =
      let first : raw_temporaries l ≤ m = omega (arith, h) in
      let second : raw_temporaries r ≤ m = omega (arith, h) in
      logical_small m k l r (used (k + names_in l)) two (omega (arith, two)) first second (before_small m k l two first) (before_small m (k + names_in l + 1) r two second)
  before_small m k (RawLogicalOr l r) two h =
      let first : raw_temporaries l ≤ m = omega (arith, h) in
      let second : raw_temporaries r ≤ m = omega (arith, h) in
      logical_small m k l r (is_false (used (k + names_in l))) two (omega (arith, two)) first second (before_small m k l two first) (before_small m (k + names_in l + 1) r two second)
  before_small m k (RawConditional c a b) two h =
      let n = k + names_in c in
      let o = k + names_in c + 1 + names_in a in
      let one : raw_temporaries a ≤ m = omega (arith, h) in
      let other : raw_temporaries b ≤ m = omega (arith, h) in
      let condition : raw_temporaries c ≤ m = omega (arith, h) in
      let left = left_small k c in
      let left_a = left_small (n + 1) a in
      let left_b = left_small o b in
      let first = branch_small n m (before (n + 1) a) (left_of (n + 1) a) (before_small m (n + 1) a two one) (omega (arith, left_a, one)) in
      let second = branch_small n m (before o b) (left_of o b) (before_small m o b two other) (omega (arith, left_b, other)) in
      let first_block = in_block (before (n + 1) a ++ set_to n (left_of (n + 1) a) ∷ []) in
      let second_block = in_block (before o b ++ set_to n (left_of o b) ∷ []) in
      let ss : List RawStmtTree = declared n ∷ RawIfElse (left_of k c) first_block second_block ∷ [] in
      both_small m (before k c) (if holds_call a || holds_call b then ss else []) (before_small m k c two condition)
      (none_or_small (holds_call a || holds_call b) m ss (omega (arith, condition, left, first, second)))
  before_small m k (RawCall n es) two h =
      let left = call_small k n es in
      both_small m (arguments_before (is_spawn n) k es) (declared_as (k + arguments_names (is_spawn n) es) (call_left k n es) ∷ [])
      (arguments_before_small m k 0 (is_spawn n) es two (omega (arith, h)))
      (one_small m (declared_as (k + arguments_names (is_spawn n) es) (call_left k n es)) (omega (arith, left, h)))
  before_small m k (RawTableCall n i e) two h =
      let index : raw_temporaries i ≤ m = omega (arith, h) in
      let left = table_small k n i e in
      both_small m (table_before k i e) (declared_as (part_after k (holds_call e) i + names_in e) (table_call_left k n i e) ∷ [])
      (part_before_small m k (holds_call e) i (before (part_after k (holds_call e) i) e) index (before_small m k i two index) (before_small m (part_after k (holds_call e) i) e two (omega (arith, h))))
      (one_small m (declared_as (part_after k (holds_call e) i + names_in e) (table_call_left k n i e)) (omega (arith, left, h)))
  before_small m k _ two h = omega arith

  arguments_before_small : (m k j : ℕ) (stays : Bool) (es : RawExprTrees) → 2 ≤ m → raw_arguments_temporaries j es ≤ m → AreSmall m (arguments_before stays k es)
  arguments_before_small m k j stays NoExprs two h = omega arith
  arguments_before_small m k j true (And e es) two h = arguments_before_small m k (1 + j) false es two (omega (arith, h))
  arguments_before_small m k j false (And e es) two h =
      let first : raw_temporaries e ≤ m = omega (arith, h) in
      part_before_small m k (hold_call es) e (arguments_before false (part_after k (hold_call es) e) es) first (before_small m k e two first)
      (arguments_before_small m (part_after k (hold_call es) e) (1 + j) false es two (omega (arith, h)))

-- ---- statements

value_small : (k : ℕ) (v : RawExprTree) → raw_temporaries (value_left k v) ≤ raw_temporaries v
value_small k (RawCall n es) = call_small k n es
value_small k (RawTableCall n i e) = table_small k n i e
value_small k v = left_small k v

value_before_small : (m k : ℕ) (v : RawExprTree) → 2 ≤ m → raw_temporaries v ≤ m → AreSmall m (value_before k v)
value_before_small m k (RawCall n es) two h = arguments_before_small m k 0 (is_spawn n) es two (omega (arith, h))
value_before_small m k (RawTableCall n i e) two h =
    let index : raw_temporaries i ≤ m = omega (arith, h) in
    part_before_small m k (holds_call e) i (before (part_after k (holds_call e) i) e) index (before_small m k i two index) (before_small m (part_after k (holds_call e) i) e two (omega (arith, h)))
value_before_small m k v two h = before_small m k v two h

simple_small : (m k : ℕ) (s : RawSimpleTree) → raw_simple_temporaries s ≤ m → raw_simple_temporaries (simple_left k s) ≤ m
simple_small m k (RawDeclareWith n v) h = let left = value_small k v in omega (arith, left, h)
simple_small m k (RawSet n v) h = let left = value_small k v in omega (arith, left, h)
simple_small m k (RawSetElement n i v) h =
    let first = part_small (is_named (holds_nested v) i) (k + names_in i) (raw_temporaries i) (left_of k i) (some_temporaries i) (left_small k i) in
    let second = value_small (part_after k (holds_nested v) i) v in
    omega (arith, first, second, h)
simple_small m k (RawCalling n es) h = let left = arguments_small (is_spawn n) k 0 es in omega (arith, left, h)
simple_small m k (RawTableCalling n i e) h = let left = table_small k n i e in omega (arith, left, h)
simple_small m k _ h = h

simple_before_small : (m k : ℕ) (s : RawSimpleTree) → 2 ≤ m → raw_simple_temporaries s ≤ m → AreSmall m (simple_before k s)
simple_before_small m k (RawDeclareWith n v) two h = value_before_small m k v two h
simple_before_small m k (RawSet n v) two h = value_before_small m k v two h
simple_before_small m k (RawSetElement n i v) two h =
    let index : raw_temporaries i ≤ m = omega (arith, h) in
    part_before_small m k (holds_nested v) i (value_before (part_after k (holds_nested v) i) v) index (before_small m k i two index) (value_before_small m (part_after k (holds_nested v) i) v two (omega (arith, h)))
simple_before_small m k (RawCalling n es) two h = arguments_before_small m k 0 (is_spawn n) es two h
simple_before_small m k (RawTableCalling n i e) two h =
    let index : raw_temporaries i ≤ m = omega (arith, h) in
    part_before_small m k (holds_call e) i (before (part_after k (holds_call e) i) e) index (before_small m k i two index) (before_small m (part_after k (holds_call e) i) e two (omega (arith, h)))
simple_before_small m k _ two h = omega arith

body_small : (m : ℕ) (ss : List RawStmtTree) → AreSmall m ss → raw_stmt_temporaries (as_body ss) ≤ m
body_small m [] h = omega arith
body_small m (s ∷ []) h = omega (arith, h)
body_small m (s ∷ t ∷ ss) h = h

if_stmt_small : (b : Bool) (m : ℕ) (s t : RawStmtTree) → raw_stmt_temporaries s ≤ m → raw_stmt_temporaries t ≤ m → raw_stmt_temporaries (if b then s else t) ≤ m
if_stmt_small true m s t h g = h
if_stmt_small false m s t h g = g

while_small : (m k : ℕ) (c : RawExprTree) (s : RawStmtTree) → 2 ≤ m → raw_temporaries c ≤ m → raw_stmt_temporaries s ≤ m → raw_stmt_temporaries (while_calling k c s) ≤ m
while_small m k c s two hc hs =
    let left = left_small k c in
    let ends : AreSmall m (RawIf (is_false (left_of k c)) (RawBreak 0) ∷ s ∷ []) = omega (arith, left, hc, hs) in
    let turn = both_small m (before k c) (RawIf (is_false (left_of k c)) (RawBreak 0) ∷ s ∷ []) (before_small m k c two hc) ends in
    omega (arith, two, turn)

returned_small : (m k : ℕ) (v : Option RawExprTree) → raw_optional_temporaries v ≤ m → raw_optional_temporaries (returned_left k v) ≤ m
returned_small m k None h = h
returned_small m k (Some v) h = let left = value_small k v in omega (arith, left, h)

returned_before_small : (m k : ℕ) (v : Option RawExprTree) → 2 ≤ m → raw_optional_temporaries v ≤ m → AreSmall m (returned_before k v)
returned_before_small m k None two h = omega arith
returned_before_small m k (Some v) two h = value_before_small m k v two h

mutual
  hoisted_small : (m k : ℕ) (s : RawStmtTree) → 2 ≤ m → raw_stmt_temporaries s ≤ m → AreSmall m (hoisted k s)
  hoisted_small m k (RawDo s) two h = both_small m (simple_before k s) (RawDo (simple_left k s) ∷ []) (simple_before_small m k s two h) (one_small m (RawDo (simple_left k s)) (simple_small m k s h))
  hoisted_small m k (RawBlock ss) two h = one_small m (in_block (all_hoisted k ss)) (all_small m k ss two h)
  hoisted_small m k (RawIf c s) two h =
      let condition : raw_temporaries c ≤ m = omega (arith, h) in
      let left = left_small k c in
      let first_body = body_small m (hoisted (k + names_in c) s) (hoisted_small m (k + names_in c) s two (omega (arith, h))) in
      both_small m (before k c) (RawIf (left_of k c) (as_body (hoisted (k + names_in c) s)) ∷ []) (before_small m k c two condition)
      (one_small m (RawIf (left_of k c) (as_body (hoisted (k + names_in c) s))) (omega (arith, left, condition, first_body)))
  hoisted_small m k (RawIfElse c s r) two h =
      let condition : raw_temporaries c ≤ m = omega (arith, h) in
      let left = left_small k c in
      let n = k + names_in c + stmt_names s in
      let first_body = body_small m (hoisted (k + names_in c) s) (hoisted_small m (k + names_in c) s two (omega (arith, h))) in
      let other_body = body_small m (hoisted n r) (hoisted_small m n r two (omega (arith, h))) in
      both_small m (before k c) (RawIfElse (left_of k c) (as_body (hoisted (k + names_in c) s)) (as_body (hoisted n r)) ∷ []) (before_small m k c two condition)
      (one_small m (RawIfElse (left_of k c) (as_body (hoisted (k + names_in c) s)) (as_body (hoisted n r))) (omega (arith, left, condition, first_body, other_body)))
  hoisted_small m k (RawWhile c s) two h =
      let condition : raw_temporaries c ≤ m = omega (arith, h) in
      let inner : raw_stmt_temporaries s ≤ m = omega (arith, h) in
      let calling = as_body (hoisted (k + names_in c) s) in
      let plain = as_body (hoisted k s) in
      let body = body_small m (hoisted k s) (hoisted_small m k s two inner) in
      one_small m (if holds_call c then while_calling k c calling else RawWhile c plain)
      (if_stmt_small (holds_call c) m (while_calling k c calling) (RawWhile c plain)
      (while_small m k c calling two condition (body_small m (hoisted (k + names_in c) s) (hoisted_small m (k + names_in c) s two inner)))
      (omega (arith, condition, body)))
  hoisted_small m k (RawFor init c step s) two h =
      let body = body_small m (hoisted k s) (hoisted_small m k s two (omega (arith, h))) in
      one_small m (RawFor init c step (as_body (hoisted k s))) (omega (arith, h, body))
  hoisted_small m k (RawReturn at v) two h =
      both_small m (returned_before k v) (RawReturn at (returned_left k v) ∷ []) (returned_before_small m k v two h) (one_small m (RawReturn at (returned_left k v)) (returned_small m k v h))
  hoisted_small m k _ two h = omega arith

  pub all_small : (m k : ℕ) (ss : RawStmtTrees) → 2 ≤ m → raw_stmts_temporaries ss ≤ m → AreSmall m (all_hoisted k ss)
  all_small m k NoRawStmts two h = omega arith
  all_small m k (RawThen s ss) two h =
      both_small m (hoisted k s) (all_hoisted (k + stmt_names s) ss) (hoisted_small m k s two (omega (arith, h))) (all_small m (k + stmt_names s) ss two (omega (arith, h)))

item_small : (i : RawItemTree) → raw_item_temporaries i ≤ 65536 → raw_item_temporaries (item_hoisted i) ≤ 65536
item_small (RawFunctionItem gives n params body) h = all_small 65536 0 body (omega arith) h
item_small _ h = h

pub items_small : (is : List RawItemTree) → AreWithinTemporaries is → AreWithinTemporaries (items_hoisted is)
items_small [] h = tt
items_small (i ∷ is) h = (item_small i h.0, items_small is h.1)
