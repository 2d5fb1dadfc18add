-- No call in the parentheses of a `for` that isn't whole is there exactly where every one is whole.
use Rattle.c_parse.proofs.Common.{◌≡◌, refl, List, [], ◌∷◌, None, RawStmtTree, RawStmtTrees, RawBlock, RawIf, RawIfElse, RawWhile, RawFor, NoRawStmts, RawThen, RawItemTree, RawFunctionItem, earlier, nested_in_simples, nested_in_condition, nested_in_step, IsForWhole, AreForsWhole, IsItemForWhole, AreForPartsWhole, nested_in_for, nested_in_all_for, nested_in_item_for, nested_in_fors}
use Rattle.c_parse.proofs.NestedWhole.{neither_left, neither_right, neither, simples_whole, simples_none, condition_whole, condition_none, step_whole, step_none}

mutual
  for_whole : (s : RawStmtTree) → nested_in_for s ≡ None → IsForWhole s
  for_whole (RawBlock ss) h = fors_whole ss h
  for_whole (RawIf c s) h = for_whole s h
  for_whole (RawIfElse c s r) h = (for_whole s (neither_left (nested_in_for s) (nested_in_for r) h), for_whole r (neither_right (nested_in_for s) (nested_in_for r) h))
  for_whole (RawWhile c s) h = for_whole s h
  for_whole (RawFor init c step s) h =
      let after_init = neither_right (nested_in_simples init) (earlier (nested_in_condition c) (earlier (nested_in_step step) (nested_in_for s))) h in
      let after_condition = neither_right (nested_in_condition c) (earlier (nested_in_step step) (nested_in_for s)) after_init in (
        simples_whole init (neither_left (nested_in_simples init) (earlier (nested_in_condition c) (earlier (nested_in_step step) (nested_in_for s))) h),
        condition_whole c (neither_left (nested_in_condition c) (earlier (nested_in_step step) (nested_in_for s)) after_init),
        step_whole step (neither_left (nested_in_step step) (nested_in_for s) after_condition),
        for_whole s (neither_right (nested_in_step step) (nested_in_for s) after_condition),
      )
  for_whole _ h = tt

  fors_whole : (ss : RawStmtTrees) → nested_in_all_for ss ≡ None → AreForsWhole ss
  fors_whole NoRawStmts h = tt
  fors_whole (RawThen s ss) h = (for_whole s (neither_left (nested_in_for s) (nested_in_all_for ss) h), fors_whole ss (neither_right (nested_in_for s) (nested_in_all_for ss) h))

mutual
  for_none : (s : RawStmtTree) → IsForWhole s → nested_in_for s ≡ None
  for_none (RawBlock ss) h = fors_none ss h
  for_none (RawIf c s) h = for_none s h
  for_none (RawIfElse c s r) h = neither (for_none s h.0) (for_none r h.1)
  for_none (RawWhile c s) h = for_none s h
  for_none (RawFor init c step s) h = neither (simples_none init h.0) (neither (condition_none c h.1) (neither (step_none step h.2) (for_none s h.3)))
  for_none _ h = refl

  fors_none : (ss : RawStmtTrees) → AreForsWhole ss → nested_in_all_for ss ≡ None
  fors_none NoRawStmts h = refl
  fors_none (RawThen s ss) h = neither (for_none s h.0) (fors_none ss h.1)

item_for_whole : (i : RawItemTree) → nested_in_item_for i ≡ None → IsItemForWhole i
item_for_whole (RawFunctionItem gives n params body) h = fors_whole body h
item_for_whole _ h = tt

item_for_none : (i : RawItemTree) → IsItemForWhole i → nested_in_item_for i ≡ None
item_for_none (RawFunctionItem gives n params body) h = fors_none body h
item_for_none _ h = refl

pub for_parts_whole : (is : List RawItemTree) → nested_in_fors is ≡ None → AreForPartsWhole is
for_parts_whole [] h = tt
for_parts_whole (i ∷ is) h = (item_for_whole i (neither_left (nested_in_item_for i) (nested_in_fors is) h), for_parts_whole is (neither_right (nested_in_item_for i) (nested_in_fors is) h))

pub for_parts_none : (is : List RawItemTree) → AreForPartsWhole is → nested_in_fors is ≡ None
for_parts_none [] h = refl
for_parts_none (i ∷ is) h = neither (item_for_none i h.0) (for_parts_none is h.1)
