-- The variables of a function: each statement adds some after those before it, and what goes before an expression adds one of one word for
-- each new name.
use Rattle.hoist_meaning.proofs.Common.{ℕ, zero, suc, ◌≡◌, ◌+◌, ◌<◌, ◌≤◌, refl, sym, ap, subst, ◌∙◌, Bool, true, false, ◌||◌, List, [], ◌∷◌, ◌++◌, append_assoc, append-nil, length, length-append, Option, Some, None, arith, if◌then◌else◌, slice_index, RawExprTree, RawExprTrees, RawNumber, RawName, RawElement, RawUnary, RawParenthesized, RawBinary, RawLogicalAnd, RawLogicalOr, RawConditional, RawCall, RawTableCall, NoExprs, And, RawSimpleTree, RawDeclareScalar, RawDeclareArray, RawDeclareWith, RawStmtTree, RawStmtTrees, RawDo, RawBlock, RawIf, RawIfElse, RawWhile, RawFor, RawReturn, NoRawStmts, RawThen, Spot, simple_after, simples_after, inside, left, step_after, stmt_after, stmts_after, returned_after, used, declared, declared_as, set_to, holds_call, hold_call, holds_nested, is_named, is_spawn, one_if, names_in, arguments_names, part_after, part_named, left_of, call_left, table_call_left, is_true, is_false, in_block, decided, before, arguments_before, value_names, value_before, table_before, or_left, or_right, no_names}
use Rattle.hoist_meaning.proofs.Items.{after, after_both}
use Rattle.hoist_meaning.proofs.Premises.{after_part, in_branch, after_left, after_condition, after_branch}
use Rattle.hoist_meaning.proofs.TableEnds.{three_after}

-- ---- lists of sizes

-- the one is a beginning of the other
pub record Grows (sizes later : List ℕ) : Type 0 where
  pub more : List ℕ
  pub is : later ≡ sizes ++ more

pub grows_none : (sizes : List ℕ) → Grows sizes sizes
grows_none sizes = record { more = []; is = sym (append-nil sizes) }

pub grows_on : (xs ys zs : List ℕ) → Grows xs ys → Grows ys zs → Grows xs zs
grows_on xs ys zs h g = record { more = h.more ++ g.more; is = g.is ∙ ap (λ s. s ++ g.more) h.is ∙ append_assoc xs h.more g.more }

abbrev pub AreOnes : List ℕ → Type 0
AreOnes [] = Unit {0}
AreOnes (n ∷ ns) = (n ≡ 1) × AreOnes ns

both_ones : (xs ys : List ℕ) → AreOnes xs → AreOnes ys → AreOnes (xs ++ ys)
both_ones [] ys h g = g
both_ones (x ∷ xs) ys h g = (h.0, both_ones xs ys h.1 g)

-- n variables of one word come after
pub record Adds (n : ℕ) (sizes later : List ℕ) : Type 0 where
  pub more : List ℕ
  pub is : later ≡ sizes ++ more
  pub many : length more ≡ n
  pub ones : AreOnes more

pub adds_none : (xs : List ℕ) → Adds 0 xs xs
adds_none xs = record { more = []; is = sym (append-nil xs); many = refl; ones = tt }

pub adds_on : (m n : ℕ) (xs ys zs : List ℕ) → Adds m xs ys → Adds n ys zs → Adds (m + n) xs zs
adds_on m n xs ys zs h g = record {
  more = h.more ++ g.more;
  is = g.is ∙ ap (λ s. s ++ g.more) h.is ∙ append_assoc xs h.more g.more;
  many = (let all = length-append h.more g.more in let one = h.many in let two = g.many in omega (arith, all, one, two));
  ones = both_ones h.more g.more h.ones g.ones;
}

pub adds_as : (m n : ℕ) (xs ys : List ℕ) → m ≡ n → Adds m xs ys → Adds n xs ys
adds_as m n xs ys e h = subst (λ k. Adds k xs ys) e h

one_there : (more rest : List ℕ) (y : ℕ) → AreOnes more → y < length more → slice_index (more ++ rest) y ≡ 1
one_there [] rest y h less = absurd (omega (arith, less))
one_there (n ∷ more) rest zero h less = h.0
one_there (n ∷ more) rest (suc y) h less = one_there more rest y h.1 (omega (arith, less))

middle_one : (xs more rest : List ℕ) (y : ℕ) → AreOnes more → length xs ≤ y → y < length xs + length more → slice_index (xs ++ (more ++ rest)) y ≡ 1
middle_one [] more rest y h low less = one_there more rest y h (omega (arith, less))
middle_one (x ∷ xs) more rest zero h low less = absurd (omega (arith, low))
middle_one (x ∷ xs) more rest (suc y) h low less = middle_one xs more rest y h (omega (arith, low)) (omega (arith, less))

-- so they have one word in the function
pub added_wide : (n : ℕ) (sizes later all : List ℕ) → Adds n sizes later → Grows later all → (v y : ℕ) → length sizes ≡ v → v ≤ y → y < v + n → slice_index all y ≡ 1
added_wide n sizes later all h g v y count low high =
    let many = h.many in
    let is : all ≡ sizes ++ (h.more ++ g.more) = g.is ∙ ap (λ s. s ++ g.more) h.is ∙ append_assoc sizes h.more g.more in
    ap (λ s. slice_index s y) is ∙ middle_one sizes h.more g.more y h.ones (omega (arith, count, low)) (omega (arith, count, high, many))

-- ---- what goes before an expression

part_names_add : (b : Bool) (h : ℕ) (e : RawExprTree) (s : Spot) → Adds (one_if b) s.sizes (after s (part_named b h e)).sizes
part_names_add true h e s = record { more = 1 ∷ []; is = refl; many = refl; ones = (refl, tt) }
part_names_add false h e s = adds_none s.sizes

both_add : (m n : ℕ) (s : Spot) (xs ys : List RawStmtTree) → Adds m s.sizes (after s xs).sizes → Adds n (after s xs).sizes (after (after s xs) ys).sizes → Adds (m + n) s.sizes (after s (xs ++ ys)).sizes
both_add m n s xs ys h g = subst (λ (t : Spot). Adds (m + n) s.sizes t.sizes) (sym (after_both s xs ys)) (adds_on m n s.sizes (after s xs).sizes (after (after s xs) ys).sizes h g)

part_add : (later : Bool) (k n : ℕ) (e : RawExprTree) (s : Spot) (ss : List RawStmtTree) → Adds (names_in e) s.sizes (after s (before k e)).sizes → Adds n (after_part s k later e).sizes (after (after_part s k later e) ss).sizes →
    Adds (names_in e + one_if (is_named later e) + n) s.sizes (after s (before k e ++ part_named (is_named later e) (k + names_in e) (left_of k e) ++ ss)).sizes
part_add later k n e s ss h g =
    let named = part_named (is_named later e) (k + names_in e) (left_of k e) in
    let t = after s (before k e) in
    subst (λ (u : Spot). Adds (names_in e + one_if (is_named later e) + n) s.sizes u.sizes) (sym (three_after s (before k e) named ss))
    (adds_on (names_in e + one_if (is_named later e)) n s.sizes (after t named).sizes (after (after t named) ss).sizes
    (adds_on (names_in e) (one_if (is_named later e)) s.sizes t.sizes (after t named).sizes h (part_names_add (is_named later e) (k + names_in e) (left_of k e) t)) g)

-- a branch, after which the new name is set
branch_adds : (n h : ℕ) (x : RawExprTree) (s : Spot) (ss : List RawStmtTree) → Adds n s.sizes (after s ss).sizes → Adds n s.sizes (after s (ss ++ set_to h x ∷ [])).sizes
branch_adds n h x s ss g = subst (λ (t : Spot). Adds n s.sizes t.sizes) (sym (after_both s ss (set_to h x ∷ []))) g

logical_adds : (b : Bool) (k : ℕ) (l r c : RawExprTree) (s : Spot) → holds_call r ≡ b → Adds (names_in l) s.sizes (after s (before k l)).sizes →
    Adds (names_in r) (in_branch (after_left s k l)).sizes (after (in_branch (after_left s k l)) (before (k + names_in l + 1) r)).sizes →
    Adds (names_in l + one_if b + names_in r) s.sizes (after s (before k l ++ (if b then decided (k + names_in l) (left_of k l) c (before (k + names_in l + 1) r) (left_of (k + names_in l + 1) r) else []))).sizes
logical_adds true k l r c s e h g =
    let n = k + names_in l in
    let t = after s (before k l) in
    let u = in_branch (after_left s k l) in
    let ss = before (n + 1) r in
    adds_as (names_in l + (1 + names_in r)) (names_in l + 1 + names_in r) s.sizes (after s (before k l ++ decided n (left_of k l) c ss (left_of (n + 1) r))).sizes (omega arith)
    (both_add (names_in l) (1 + names_in r) s (before k l) (decided n (left_of k l) c ss (left_of (n + 1) r)) h
    (adds_on 1 (names_in r) t.sizes u.sizes (after u (ss ++ set_to n (is_true (left_of (n + 1) r)) ∷ [])).sizes (part_names_add true n (is_true (left_of k l)) t) (branch_adds (names_in r) n (is_true (left_of (n + 1) r)) u ss g)))
logical_adds false k l r c s e h g =
    let none = no_names r e in
    adds_as (names_in l + 0) (names_in l + 0 + names_in r) s.sizes (after s (before k l ++ [])).sizes (omega (arith, none)) (both_add (names_in l) 0 s (before k l) [] h (adds_none (after s (before k l)).sizes))

conditional_adds : (b : Bool) (k : ℕ) (c x y : RawExprTree) (s : Spot) → (holds_call x || holds_call y) ≡ b → Adds (names_in c) s.sizes (after s (before k c)).sizes →
    ((t : Spot) → Adds (names_in x) t.sizes (after t (before (k + names_in c + 1) x)).sizes) → ((t : Spot) → Adds (names_in y) t.sizes (after t (before (k + names_in c + 1 + names_in x) y)).sizes) →
    Adds (names_in c + one_if b + names_in x + names_in y) s.sizes
    (after s (before k c ++ (if b then
    declared (k + names_in c)
    ∷ RawIfElse (left_of k c)
    (in_block (before (k + names_in c + 1) x ++ set_to (k + names_in c) (left_of (k + names_in c + 1) x) ∷ []))
    (in_block (before (k + names_in c + 1 + names_in x) y ++ set_to (k + names_in c) (left_of (k + names_in c + 1 + names_in x) y) ∷ []))
    ∷ []
    else []))).sizes
conditional_adds true k c x y s e h gx gy =
    let n = k + names_in c in
    let m = n + 1 + names_in x in
    let t = after s (before k c) in
    let t1 = after_condition s k c in
    let first = before (n + 1) x ++ set_to n (left_of (n + 1) x) ∷ [] in
    let second = before m y ++ set_to n (left_of m y) ∷ [] in
    let middle = after_branch t1 first in
    let both = declared n ∷ RawIfElse (left_of k c) (in_block first) (in_block second) ∷ [] in
    adds_as (names_in c + (1 + names_in x + names_in y)) (names_in c + 1 + names_in x + names_in y) s.sizes (after s (before k c ++ both)).sizes (omega arith)
    (both_add (names_in c) (1 + names_in x + names_in y) s (before k c) both h
    (adds_on (1 + names_in x) (names_in y) t.sizes middle.sizes (after (in_branch middle) second).sizes
    (adds_on 1 (names_in x) t.sizes t1.sizes middle.sizes (record { more = 1 ∷ []; is = refl; many = refl; ones = (refl, tt) }) (branch_adds (names_in x) n (left_of (n + 1) x) (in_branch t1) (before (n + 1) x) (gx (in_branch t1))))
    (branch_adds (names_in y) n (left_of m y) (in_branch middle) (before m y) (gy (in_branch middle)))))
conditional_adds false k c x y s e h gx gy =
    let nx = no_names x (or_left (holds_call x) (holds_call y) e) in
    let ny = no_names y (or_right (holds_call x) (holds_call y) e) in
    adds_as (names_in c + 0) (names_in c + 0 + names_in x + names_in y) s.sizes (after s (before k c ++ [])).sizes (omega (arith, nx, ny)) (both_add (names_in c) 0 s (before k c) [] h (adds_none (after s (before k c)).sizes))

mutual
  pub before_adds : (k : ℕ) (e : RawExprTree) (s : Spot) → Adds (names_in e) s.sizes (after s (before k e)).sizes
  before_adds k (RawElement n i) s = before_adds k i s
  before_adds k (RawUnary op e) s = before_adds k e s
  before_adds k (RawParenthesized e) s = before_adds k e s
  before_adds k (RawBinary op l r) s =
      part_add (holds_call r) k (names_in r) l s (before (part_after k (holds_call r) l) r) (before_adds k l s) (before_adds (part_after k (holds_call r) l) r (after_part s k (holds_call r) l))
  before_adds k (RawLogicalAnd l r) s = logical_adds (holds_call r) k l r (used (k + names_in l)) s refl (before_adds k l s) (before_adds (k + names_in l + 1) r (in_branch (after_left s k l)))
  before_adds k (RawLogicalOr l r) s = logical_adds (holds_call r) k l r (is_false (used (k + names_in l))) s refl (before_adds k l s) (before_adds (k + names_in l + 1) r (in_branch (after_left s k l)))
  before_adds k (RawConditional c x y) s =
      conditional_adds (holds_call x || holds_call y) k c x y s refl (before_adds k c s) (λ t. before_adds (k + names_in c + 1) x t) (λ t. before_adds (k + names_in c + 1 + names_in x) y t)
  before_adds k (RawCall n es) s =
      both_add (arguments_names (is_spawn n) es) 1 s (arguments_before (is_spawn n) k es) (declared_as (k + arguments_names (is_spawn n) es) (call_left k n es) ∷ []) (arguments_add (is_spawn n) k es s)
      (part_names_add true (k + arguments_names (is_spawn n) es) (call_left k n es) (after s (arguments_before (is_spawn n) k es)))
  before_adds k (RawTableCall n i e) s =
      let k1 = part_after k (holds_call e) i in
      both_add (names_in i + one_if (is_named (holds_call e) i) + names_in e) 1 s (table_before k i e) (declared_as (k1 + names_in e) (table_call_left k n i e) ∷ [])
      (part_add (holds_call e) k (names_in e) i s (before k1 e) (before_adds k i s) (before_adds k1 e (after_part s k (holds_call e) i))) (part_names_add true (k1 + names_in e) (table_call_left k n i e) (after s (table_before k i e)))
  before_adds k _ s = adds_none s.sizes

  pub arguments_add : (stays : Bool) (k : ℕ) (es : RawExprTrees) (s : Spot) → Adds (arguments_names stays es) s.sizes (after s (arguments_before stays k es)).sizes
  arguments_add stays k NoExprs s = adds_none s.sizes
  arguments_add true k (And e es) s = arguments_add false k es s
  arguments_add false k (And e es) s =
      part_add (hold_call es) k (arguments_names false es) e s (arguments_before false (part_after k (hold_call es) e) es) (before_adds k e s) (arguments_add false (part_after k (hold_call es) e) es (after_part s k (hold_call es) e))

-- a right side
pub value_adds : (k : ℕ) (e : RawExprTree) (s : Spot) → Adds (value_names e) s.sizes (after s (value_before k e)).sizes
value_adds k (RawCall n es) s = arguments_add (is_spawn n) k es s
value_adds k (RawTableCall n i e) s =
    let k1 = part_after k (holds_call e) i in
    adds_as (names_in i + one_if (is_named (holds_call e) i) + names_in e) (value_names (RawTableCall n i e)) s.sizes (after s (table_before k i e)).sizes (omega arith)
    (part_add (holds_call e) k (names_in e) i s (before k1 e) (before_adds k i s) (before_adds k1 e (after_part s k (holds_call e) i)))
value_adds k (RawNumber v) s = before_adds k (RawNumber v) s
value_adds k (RawName n) s = before_adds k (RawName n) s
value_adds k (RawElement n i) s = before_adds k (RawElement n i) s
value_adds k (RawUnary op e) s = before_adds k (RawUnary op e) s
value_adds k (RawParenthesized e) s = before_adds k (RawParenthesized e) s
value_adds k (RawBinary op l r) s = before_adds k (RawBinary op l r) s
value_adds k (RawLogicalAnd l r) s = before_adds k (RawLogicalAnd l r) s
value_adds k (RawLogicalOr l r) s = before_adds k (RawLogicalOr l r) s
value_adds k (RawConditional c x y) s = before_adds k (RawConditional c x y) s

-- an element that is set
pub element_adds : (k : ℕ) (i e : RawExprTree) (s : Spot) →
    Adds (part_after 0 (holds_nested e) i + value_names e) s.sizes (after s (before k i ++ part_named (is_named (holds_nested e) i) (k + names_in i) (left_of k i) ++ value_before (part_after k (holds_nested e) i) e)).sizes
element_adds k i e s =
    let k1 = part_after k (holds_nested e) i in
    adds_as (names_in i + one_if (is_named (holds_nested e) i) + value_names e) (part_after 0 (holds_nested e) i + value_names e) s.sizes
    (after s (before k i ++ part_named (is_named (holds_nested e) i) (k + names_in i) (left_of k i) ++ value_before k1 e)).sizes (omega arith)
    (part_add (holds_nested e) k (value_names e) i s (value_before k1 e) (before_adds k i s) (value_adds k1 e (after_part s k (holds_nested e) i)))

-- ---- any statement

simple_grows : (s : Spot) (p : RawSimpleTree) → Grows s.sizes (simple_after s p).sizes
simple_grows s (RawDeclareScalar n) = record { more = 1 ∷ []; is = refl }
simple_grows s (RawDeclareArray n size) = record { more = size ∷ []; is = refl }
simple_grows s (RawDeclareWith n v) = record { more = 1 ∷ []; is = refl }
simple_grows s _ = grows_none s.sizes

simples_grow : (s : Spot) (ps : List RawSimpleTree) → Grows s.sizes (simples_after s ps).sizes
simples_grow s [] = grows_none s.sizes
simples_grow s (p ∷ ps) = grows_on s.sizes (simple_after s p).sizes (simples_after (simple_after s p) ps).sizes (simple_grows s p) (simples_grow (simple_after s p) ps)

step_grows : (s : Spot) (p : Option RawSimpleTree) → Grows s.sizes (step_after s p).sizes
step_grows s None = grows_none s.sizes
step_grows s (Some p) = simple_grows s p

returned_grows : (s : Spot) (v : Option RawExprTree) → Grows s.sizes (returned_after s v).sizes
returned_grows s None = grows_none s.sizes
returned_grows s (Some v) = grows_none s.sizes

mutual
  pub stmt_grows : (s : Spot) (p : RawStmtTree) → Grows s.sizes (stmt_after s p).sizes
  stmt_grows s (RawDo p) = simple_grows s p
  stmt_grows s (RawBlock ps) = stmts_grow (inside s) ps
  stmt_grows s (RawIf c p) = stmt_grows (inside s) p
  stmt_grows s (RawIfElse c p r) = grows_on s.sizes (stmt_after (inside s) p).sizes (stmt_after (inside (left s (stmt_after (inside s) p))) r).sizes (stmt_grows (inside s) p) (stmt_grows (inside (left s (stmt_after (inside s) p))) r)
  stmt_grows s (RawWhile c p) = stmt_grows (inside s) p
  stmt_grows s (RawFor init c step p) =
      let one = simples_after (inside s) init in
      let two = step_after one step in
      grows_on s.sizes two.sizes (stmt_after (inside two) p).sizes (grows_on s.sizes one.sizes two.sizes (simples_grow (inside s) init) (step_grows one step)) (stmt_grows (inside two) p)
  stmt_grows s (RawReturn at v) = returned_grows s v
  stmt_grows s _ = grows_none s.sizes

  pub stmts_grow : (s : Spot) (ps : RawStmtTrees) → Grows s.sizes (stmts_after s ps).sizes
  stmts_grow s NoRawStmts = grows_none s.sizes
  stmts_grow s (RawThen p ps) = grows_on s.sizes (stmt_after s p).sizes (stmts_after (stmt_after s p) ps).sizes (stmt_grows s p) (stmts_grow (stmt_after s p) ps)
