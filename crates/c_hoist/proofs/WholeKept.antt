-- A source in which each call is whole stays as it is.
use Rattle.c_hoist.proofs.Common.{ℕ, ◌+◌, ◌≡◌, refl, ap, ◌∙◌, List, [], ◌∷◌, Option, Some, None, RawExprTree, RawStmtTree, RawStmtTrees, RawDo, RawBlock, RawIf, RawIfElse, RawWhile, RawFor, RawReturn, NoRawStmts, RawThen, RawItemTree, RawFunctionItem, raw_in_order, IsReturnWhole, IsStmtWhole, AreStmtsWhole, IsItemWhole, AreCallsWhole, stmt_names, returned_before, returned_left, hoisted, all_hoisted, item_hoisted, items_hoisted}
use Rattle.hoist_parts.specs.Expressions.{names_in}
use Rattle.hoist_parts.proofs.NoCalls.{no_left, no_before}
use Rattle.hoist_parts.proofs.Kept.{held_not, value_kept, no_value_before, simple_kept, no_simple_before}

returned_kept : (k : ℕ) (v : Option RawExprTree) → IsReturnWhole v → returned_left k v ≡ v
returned_kept k None h = refl
returned_kept k (Some v) h = ap Some (value_kept k v h)

no_returned_before : (k : ℕ) (v : Option RawExprTree) → IsReturnWhole v → returned_before k v ≡ []
no_returned_before k None h = refl
no_returned_before k (Some v) h = no_value_before k v h

mutual
  stmt_kept : (k : ℕ) (s : RawStmtTree) → IsStmtWhole s → hoisted k s ≡ s ∷ []
  stmt_kept k (RawDo s) h = rw (no_simple_before k s h, simple_kept k s h) refl
  stmt_kept k (RawBlock ss) h = ap (λ x. RawBlock x ∷ []) (stmts_kept k ss h)
  stmt_kept k (RawIf c s) h = rw (no_before k c (held_not c h.0), no_left k c (held_not c h.0), stmt_kept (k + names_in c) s h.1) refl
  stmt_kept k (RawIfElse c s r) h =
      rw (no_before k c (held_not c h.0), no_left k c (held_not c h.0), stmt_kept (k + names_in c) s h.1, stmt_kept (k + names_in c + stmt_names s) r h.2) refl
  stmt_kept k (RawWhile c s) h = rw (held_not c h.0, stmt_kept k s h.1) refl
  stmt_kept k (RawFor init c step s) h = rw (stmt_kept k s h.3) refl
  stmt_kept k (RawReturn at v) h = rw (no_returned_before k v h, returned_kept k v h) refl
  stmt_kept k _ h = refl

  stmts_kept : (k : ℕ) (ss : RawStmtTrees) → AreStmtsWhole ss → raw_in_order (all_hoisted k ss) ≡ ss
  stmts_kept k NoRawStmts h = refl
  stmts_kept k (RawThen s ss) h = rw (stmt_kept k s h.0) (ap (RawThen s) (stmts_kept (k + stmt_names s) ss h.1))

item_kept : (i : RawItemTree) → IsItemWhole i → item_hoisted i ≡ i
item_kept (RawFunctionItem gives n params body) h = ap (RawFunctionItem gives n params) (stmts_kept 0 body h)
item_kept _ h = refl

pub items_kept : (is : List RawItemTree) → AreCallsWhole is → items_hoisted is ≡ is
items_kept [] h = refl
items_kept (i ∷ is) h = ap (λ x. x ∷ items_hoisted is) (item_kept i h.0) ∙ ap (λ x. i ∷ x) (items_kept is h.1)
