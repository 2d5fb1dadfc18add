-- After the rewriting every call is whole.
use Rattle.std.specs.Prelude.{if◌then◌else◌}
use Rattle.hoist_parts.proofs.Common.{ℕ, ◌≡◌, ◌+◌, refl, Bool, true, false, ◌||◌, List, [], ◌∷◌, ◌++◌, Option, Some, None, RawExprTree, RawExprTrees, RawNumber, RawName, RawElement, RawUnary, RawParenthesized, RawBinary, RawLogicalAnd, RawLogicalOr, RawConditional, RawCall, RawTableCall, NoExprs, And, RawSimpleTree, RawDeclareWith, RawSet, RawSetElement, RawCalling, RawTableCalling, RawStmtTree, RawStmtTrees, RawDo, RawBlock, RawIf, RawIfElse, RawWhile, RawFor, RawBreak, RawReturn, NoRawStmts, RawThen, RawItemTree, RawFunctionItem, raw_in_order, as_body, HasNoCall, HaveNoCall, IsValueWhole, IsSimpleWhole, IsReturnWhole, IsStmtWhole, AreStmtsWhole, IsItemWhole, AreCallsWhole, used, declared, declared_as, set_to, holds_call, hold_call, holds_nested, is_named, is_spawn, names_in, arguments_names, part_after, part_or, part_named, left_of, arguments_left, call_left, table_call_left, is_true, is_false, in_block, decided, before, arguments_before, value_left, value_before, table_before, simple_left, simple_before, returned_before, returned_left, stmt_names, while_calling, hoisted, all_hoisted, item_hoisted, items_hoisted}
use Rattle.c_tree.specs.WholeForParts.{IsForWhole, AreForsWhole, IsItemForWhole, AreForPartsWhole}
use Rattle.hoist_parts.proofs.NoCalls.{or_left, or_right}

-- statements as a list, each with whole calls
abbrev pub AllWhole : List RawStmtTree → Type 0
AllWhole [] = Unit {0}
AllWhole (s ∷ ss) = IsStmtWhole s × AllWhole ss

pub both_whole : (ss ts : List RawStmtTree) → AllWhole ss → AllWhole ts → AllWhole (ss ++ ts)
both_whole [] ts h k = k
both_whole (s ∷ ss) ts h k = (h.0, both_whole ss ts h.1 k)

pub in_order_whole : (ss : List RawStmtTree) → AllWhole ss → AreStmtsWhole (raw_in_order ss)
in_order_whole [] h = tt
in_order_whole (s ∷ ss) h = (h.0, in_order_whole ss h.1)

pub not_held : (e : RawExprTree) → holds_call e ≡ false → HasNoCall e
not_held (RawElement n i) h = not_held i h
not_held (RawUnary op e) h = not_held e h
not_held (RawParenthesized e) h = not_held e h
not_held (RawBinary op l r) h = (not_held l (or_left (holds_call l) (holds_call r) h), not_held r (or_right (holds_call l) (holds_call r) h))
not_held (RawLogicalAnd l r) h = (not_held l (or_left (holds_call l) (holds_call r) h), not_held r (or_right (holds_call l) (holds_call r) h))
not_held (RawLogicalOr l r) h = (not_held l (or_left (holds_call l) (holds_call r) h), not_held r (or_right (holds_call l) (holds_call r) h))
not_held (RawConditional c a b) h =
    let hab = or_right (holds_call c) (holds_call a || holds_call b) h in
    (not_held c (or_left (holds_call c) (holds_call a || holds_call b) h), not_held a (or_left (holds_call a) (holds_call b) hab), not_held b (or_right (holds_call a) (holds_call b) hab))
not_held (RawCall n es) h = cc
not_held (RawTableCall n i e) h = cc
not_held _ h = tt

no_call_value : (v : RawExprTree) → HasNoCall v → IsValueWhole v
no_call_value (RawNumber v) h = tt
no_call_value (RawName n) h = tt
no_call_value (RawCall n es) h = absurd h
no_call_value (RawTableCall n i e) h = absurd h
no_call_value _ h = h

part_whole : (named : Bool) (k : ℕ) (e : RawExprTree) → HasNoCall e → HasNoCall (part_or named k e)
part_whole true k e h = tt
part_whole false k e h = h

-- what is left where a later part decides
if_whole : (b : Bool) (n : ℕ) (e : RawExprTree) → (b ≡ false → HasNoCall e) → HasNoCall (if b then used n else e)
if_whole true n e h = tt
if_whole false n e h = h refl

pub left_whole : (k : ℕ) (e : RawExprTree) → HasNoCall (left_of k e)
left_whole k (RawElement n i) = left_whole k i
left_whole k (RawUnary op e) = left_whole k e
left_whole k (RawParenthesized e) = left_whole k e
left_whole k (RawBinary op l r) = (part_whole (is_named (holds_call r) l) (k + names_in l) (left_of k l) (left_whole k l), left_whole (part_after k (holds_call r) l) r)
left_whole k (RawLogicalAnd l r) = if_whole (holds_call r) (k + names_in l) (RawLogicalAnd (left_of k l) r) (λ e. (left_whole k l, not_held r e))
left_whole k (RawLogicalOr l r) = if_whole (holds_call r) (k + names_in l) (RawLogicalOr (left_of k l) r) (λ e. (left_whole k l, not_held r e))
left_whole k (RawConditional c a b) =
    if_whole (holds_call a || holds_call b) (k + names_in c) (RawConditional (left_of k c) a b)
    (λ e. (left_whole k c, not_held a (or_left (holds_call a) (holds_call b) e), not_held b (or_right (holds_call a) (holds_call b) e)))
left_whole k _ = tt

spawned_whole_at : (b : Bool) (e : RawExprTree) → holds_call e ≡ b → HasNoCall (if b then RawNumber 0 else e)
spawned_whole_at true e h = tt
spawned_whole_at false e h = not_held e h

pub arguments_whole : (stays : Bool) (k : ℕ) (es : RawExprTrees) → HaveNoCall (arguments_left stays k es)
arguments_whole stays k NoExprs = tt
arguments_whole true k (And e es) = (spawned_whole_at (holds_call e) e refl, arguments_whole false k es)
arguments_whole false k (And e es) = (part_whole (is_named (hold_call es) e) (k + names_in e) (left_of k e) (left_whole k e), arguments_whole false (part_after k (hold_call es) e) es)

named_whole : (named : Bool) (k : ℕ) (e : RawExprTree) → HasNoCall e → AllWhole (part_named named k e)
named_whole true k e h = (no_call_value e h, tt)
named_whole false k e h = tt

decided_whole : (k : ℕ) (l c : RawExprTree) (ss : List RawStmtTree) (r : RawExprTree) → HasNoCall l → HasNoCall c → AllWhole ss → HasNoCall r → AllWhole (decided k l c ss r)
decided_whole k l c ss r hl hc hs hr = ((hl, tt), ((hc, in_order_whole (ss ++ set_to k (is_true r) ∷ []) (both_whole ss (set_to k (is_true r) ∷ []) hs ((hr, tt), tt))), tt))

-- statements that are there only where a later part holds a call
none_or : (b : Bool) (ss : List RawStmtTree) → AllWhole ss → AllWhole (if b then ss else [])
none_or true ss h = h
none_or false ss h = tt

branch_whole : (k n : ℕ) (ss : List RawStmtTree) (e : RawExprTree) → AllWhole ss → HasNoCall e → IsStmtWhole (in_block (ss ++ set_to n e ∷ []))
branch_whole k n ss e hs he = in_order_whole (ss ++ set_to n e ∷ []) (both_whole ss (set_to n e ∷ []) hs (no_call_value e he, tt))

mutual
  pub before_whole : (k : ℕ) (e : RawExprTree) → AllWhole (before k e)
  before_whole k (RawElement n i) = before_whole k i
  before_whole k (RawUnary op e) = before_whole k e
  before_whole k (RawParenthesized e) = before_whole k e
  before_whole k (RawBinary op l r) =
      both_whole (before k l ++ part_named (is_named (holds_call r) l) (k + names_in l) (left_of k l)) (before (part_after k (holds_call r) l) r)
      (both_whole (before k l) (part_named (is_named (holds_call r) l) (k + names_in l) (left_of k l)) (before_whole k l) (named_whole (is_named (holds_call r) l) (k + names_in l) (left_of k l) (left_whole k l)))
      (before_whole (part_after k (holds_call r) l) r)
  before_whole k (RawLogicalAnd l r) =
      let ss = decided (k + names_in l) (left_of k l) (used (k + names_in l)) (before (k + names_in l + 1) r) (left_of (k + names_in l + 1) r) in
      both_whole (before k l) (if holds_call r then ss else []) (before_whole k l)
      (none_or (holds_call r) ss (decided_whole (k + names_in l) (left_of k l) (used (k + names_in l)) (before (k + names_in l + 1) r) (left_of (k + names_in l + 1) r) (left_whole k l) tt (before_whole (k + names_in l + 1) r) (left_whole (k + names_in l + 1) r)))
  before_whole k (RawLogicalOr l r) =
      let ss = decided (k + names_in l) (left_of k l) (is_false (used (k + names_in l))) (before (k + names_in l + 1) r) (left_of (k + names_in l + 1) r) in
      both_whole (before k l) (if holds_call r then ss else []) (before_whole k l)
      (none_or (holds_call r) ss (decided_whole (k + names_in l) (left_of k l) (is_false (used (k + names_in l))) (before (k + names_in l + 1) r) (left_of (k + names_in l + 1) r) (left_whole k l) tt (before_whole (k + names_in l + 1) r) (left_whole (k + names_in l + 1) r)))
  before_whole k (RawConditional c a b) =
      let n = k + names_in c in
      let m = k + names_in c + 1 + names_in a in
      let ss : List RawStmtTree =
      declared n ∷ RawIfElse (left_of k c) (in_block (before (n + 1) a ++ set_to n (left_of (n + 1) a) ∷ [])) (in_block (before m b ++ set_to n (left_of m b) ∷ [])) ∷ [] in
      both_whole (before k c) (if holds_call a || holds_call b then ss else []) (before_whole k c)
      (none_or (holds_call a || holds_call b) ss
      (tt, ((left_whole k c, branch_whole k n (before (n + 1) a) (left_of (n + 1) a) (before_whole (n + 1) a) (left_whole (n + 1) a), branch_whole k n (before m b) (left_of m b) (before_whole m b) (left_whole m b)), tt)))
  before_whole k (RawCall n es) =
      both_whole (arguments_before (is_spawn n) k es) (declared_as (k + arguments_names (is_spawn n) es) (call_left k n es) ∷ []) (arguments_before_whole (is_spawn n) k es) (arguments_whole (is_spawn n) k es, tt)
  before_whole k (RawTableCall n i e) =
      both_whole (table_before k i e) (declared_as (part_after k (holds_call e) i + names_in e) (table_call_left k n i e) ∷ [])
      (both_whole (before k i ++ part_named (is_named (holds_call e) i) (k + names_in i) (left_of k i)) (before (part_after k (holds_call e) i) e)
      (both_whole (before k i) (part_named (is_named (holds_call e) i) (k + names_in i) (left_of k i)) (before_whole k i) (named_whole (is_named (holds_call e) i) (k + names_in i) (left_of k i) (left_whole k i)))
      (before_whole (part_after k (holds_call e) i) e))
      ((part_whole (is_named (holds_call e) i) (k + names_in i) (left_of k i) (left_whole k i), left_whole (part_after k (holds_call e) i) e), tt)
  before_whole k _ = tt

  pub arguments_before_whole : (stays : Bool) (k : ℕ) (es : RawExprTrees) → AllWhole (arguments_before stays k es)
  arguments_before_whole stays k NoExprs = tt
  arguments_before_whole true k (And e es) = arguments_before_whole false k es
  arguments_before_whole false k (And e es) =
      both_whole (before k e ++ part_named (is_named (hold_call es) e) (k + names_in e) (left_of k e)) (arguments_before false (part_after k (hold_call es) e) es)
      (both_whole (before k e) (part_named (is_named (hold_call es) e) (k + names_in e) (left_of k e)) (before_whole k e) (named_whole (is_named (hold_call es) e) (k + names_in e) (left_of k e) (left_whole k e)))
      (arguments_before_whole false (part_after k (hold_call es) e) es)

-- a part and then more
part_before_whole : (later : Bool) (k : ℕ) (i : RawExprTree) (ss : List RawStmtTree) → AllWhole ss → AllWhole (before k i ++ part_named (is_named later i) (k + names_in i) (left_of k i) ++ ss)
part_before_whole later k i ss h =
    both_whole (before k i ++ part_named (is_named later i) (k + names_in i) (left_of k i)) ss
    (both_whole (before k i) (part_named (is_named later i) (k + names_in i) (left_of k i)) (before_whole k i) (named_whole (is_named later i) (k + names_in i) (left_of k i) (left_whole k i))) h

index_whole : (later : Bool) (k : ℕ) (i : RawExprTree) → HasNoCall (part_or (is_named later i) (k + names_in i) (left_of k i))
index_whole later k i = part_whole (is_named later i) (k + names_in i) (left_of k i) (left_whole k i)

pub value_whole : (k : ℕ) (v : RawExprTree) → IsValueWhole (value_left k v)
value_whole k (RawCall n es) = arguments_whole (is_spawn n) k es
value_whole k (RawTableCall n i e) = (index_whole (holds_call e) k i, left_whole (part_after k (holds_call e) i) e)
value_whole k v = no_call_value (left_of k v) (left_whole k v)

pub value_before_whole : (k : ℕ) (v : RawExprTree) → AllWhole (value_before k v)
value_before_whole k (RawCall n es) = arguments_before_whole (is_spawn n) k es
value_before_whole k (RawTableCall n i e) = part_before_whole (holds_call e) k i (before (part_after k (holds_call e) i) e) (before_whole (part_after k (holds_call e) i) e)
value_before_whole k v = before_whole k v

simple_whole : (k : ℕ) (s : RawSimpleTree) → IsSimpleWhole (simple_left k s)
simple_whole k (RawDeclareWith n v) = value_whole k v
simple_whole k (RawSet n v) = value_whole k v
simple_whole k (RawSetElement n i v) = (index_whole (holds_nested v) k i, value_whole (part_after k (holds_nested v) i) v)
simple_whole k (RawCalling n es) = arguments_whole (is_spawn n) k es
simple_whole k (RawTableCalling n i e) = (index_whole (holds_call e) k i, left_whole (part_after k (holds_call e) i) e)
simple_whole k _ = tt

simple_before_whole : (k : ℕ) (s : RawSimpleTree) → AllWhole (simple_before k s)
simple_before_whole k (RawDeclareWith n v) = value_before_whole k v
simple_before_whole k (RawSet n v) = value_before_whole k v
simple_before_whole k (RawSetElement n i v) = part_before_whole (holds_nested v) k i (value_before (part_after k (holds_nested v) i) v) (value_before_whole (part_after k (holds_nested v) i) v)
simple_before_whole k (RawCalling n es) = arguments_before_whole (is_spawn n) k es
simple_before_whole k (RawTableCalling n i e) = part_before_whole (holds_call e) k i (before (part_after k (holds_call e) i) e) (before_whole (part_after k (holds_call e) i) e)
simple_before_whole k _ = tt

pub body_whole : (ss : List RawStmtTree) → AllWhole ss → IsStmtWhole (as_body ss)
body_whole [] h = tt
body_whole (s ∷ []) h = h.0
body_whole (s ∷ t ∷ ss) h = in_order_whole (s ∷ t ∷ ss) h

while_whole : (b : Bool) (k : ℕ) (c : RawExprTree) (s t : RawStmtTree) → holds_call c ≡ b → IsStmtWhole s → IsStmtWhole t → IsStmtWhole (if b then while_calling k c s else RawWhile c t)
while_whole true k c s t e hs ht =
    (tt, in_order_whole (before k c ++ RawIf (is_false (left_of k c)) (RawBreak 0) ∷ s ∷ []) (both_whole (before k c) (RawIf (is_false (left_of k c)) (RawBreak 0) ∷ s ∷ []) (before_whole k c) ((left_whole k c, tt), (hs, tt))))
while_whole false k c s t e hs ht = (not_held c e, ht)

returned_before_whole : (k : ℕ) (v : Option RawExprTree) → AllWhole (returned_before k v)
returned_before_whole k None = tt
returned_before_whole k (Some v) = value_before_whole k v

returned_whole : (k : ℕ) (v : Option RawExprTree) → IsReturnWhole (returned_left k v)
returned_whole k None = tt
returned_whole k (Some v) = value_whole k v

mutual
  pub hoisted_whole : (k : ℕ) (s : RawStmtTree) → IsForWhole s → AllWhole (hoisted k s)
  hoisted_whole k (RawDo s) h = both_whole (simple_before k s) (RawDo (simple_left k s) ∷ []) (simple_before_whole k s) (simple_whole k s, tt)
  hoisted_whole k (RawBlock ss) h = (in_order_whole (all_hoisted k ss) (all_hoisted_whole k ss h), tt)
  hoisted_whole k (RawIf c s) h =
      both_whole (before k c) (RawIf (left_of k c) (as_body (hoisted (k + names_in c) s)) ∷ []) (before_whole k c)
      ((left_whole k c, body_whole (hoisted (k + names_in c) s) (hoisted_whole (k + names_in c) s h)), tt)
  hoisted_whole k (RawIfElse c s r) h =
      both_whole (before k c) (RawIfElse (left_of k c) (as_body (hoisted (k + names_in c) s)) (as_body (hoisted (k + names_in c + stmt_names s) r)) ∷ []) (before_whole k c)
      ((left_whole k c, body_whole (hoisted (k + names_in c) s) (hoisted_whole (k + names_in c) s h.0), body_whole (hoisted (k + names_in c + stmt_names s) r) (hoisted_whole (k + names_in c + stmt_names s) r h.1)), tt)
  hoisted_whole k (RawWhile c s) h =
      (while_whole (holds_call c) k c (as_body (hoisted (k + names_in c) s)) (as_body (hoisted k s)) refl (body_whole (hoisted (k + names_in c) s) (hoisted_whole (k + names_in c) s h)) (body_whole (hoisted k s) (hoisted_whole k s h)), tt)
  hoisted_whole k (RawFor init c step s) h = ((h.0, h.1, h.2, body_whole (hoisted k s) (hoisted_whole k s h.3)), tt)
  hoisted_whole k (RawReturn at v) h = both_whole (returned_before k v) (RawReturn at (returned_left k v) ∷ []) (returned_before_whole k v) (returned_whole k v, tt)
  hoisted_whole k _ h = (tt, tt)

  pub all_hoisted_whole : (k : ℕ) (ss : RawStmtTrees) → AreForsWhole ss → AllWhole (all_hoisted k ss)
  all_hoisted_whole k NoRawStmts h = tt
  all_hoisted_whole k (RawThen s ss) h = both_whole (hoisted k s) (all_hoisted (k + stmt_names s) ss) (hoisted_whole k s h.0) (all_hoisted_whole (k + stmt_names s) ss h.1)

item_hoisted_whole : (i : RawItemTree) → IsItemForWhole i → IsItemWhole (item_hoisted i)
item_hoisted_whole (RawFunctionItem gives n params body) h = in_order_whole (all_hoisted 0 body) (all_hoisted_whole 0 body h)
item_hoisted_whole _ h = tt

pub items_hoisted_whole : (is : List RawItemTree) → AreForPartsWhole is → AreCallsWhole (items_hoisted is)
items_hoisted_whole [] h = tt
items_hoisted_whole (i ∷ is) h = (item_hoisted_whole i h.0, items_hoisted_whole is h.1)
