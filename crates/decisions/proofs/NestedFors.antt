-- The first call in the parentheses of a `for` that is not whole, which is looked for in the order of the tree, is the first of these by
-- its place.
use Rattle.decisions.proofs.Common.{ℕ, ◌≡◌, refl, sym, ◌∙◌, List, [], ◌∷◌, ◌++◌, Some, StandInOrder, Token, RawStmtTree, RawStmtTrees, RawDo, RawBlock, RawIf, RawIfElse, RawWhile, RawFor, RawReturn, NoRawStmts, RawThen, RawItemTree, RawTableItem, RawPrototypeItem, RawFunctionItem, IsProgram, nested_in_for, nested_in_all_for, nested_in_item_for, nested_in_fors, is_call, simples_nested, step_nested, IsFirstPlace, Declared, expr_places, optional_places, stmt_places, stmts_places, names_places, item_places, items_places, program_rises}
use Rattle.decisions.specs.NestedFors.{for_nested, fors_nested, item_for_nested, items_for_nested}
use Rattle.decisions.proofs.NestedParts.{all_of, none_of, behind, part_rises, first_of, first_is_least}
use Rattle.decisions.proofs.Parts.{IsPart, part_append}
use Rattle.decisions.proofs.NestedInTree.{both, simples_first, condition_first, step_first, simples_part, step_part}

mutual
  for_first : (s : RawStmtTree) → nested_in_for s ≡ first_of (for_nested s)
  for_first (RawBlock ss) = fors_first ss
  for_first (RawIf c s) = for_first s
  for_first (RawIfElse c s r) = both _ _ (for_nested s) (for_nested r) (for_first s) (for_first r)
  for_first (RawWhile c s) = for_first s
  for_first (RawFor init c step s) =
      both _ _ (simples_nested init) (optional_places is_call c ++ (step_nested step ++ for_nested s)) (simples_first init)
      (both _ _ (optional_places is_call c) (step_nested step ++ for_nested s) (condition_first c) (both _ _ (step_nested step) (for_nested s) (step_first step) (for_first s)))
  for_first _ = refl

  fors_first : (ss : RawStmtTrees) → nested_in_all_for ss ≡ first_of (fors_nested ss)
  fors_first NoRawStmts = refl
  fors_first (RawThen s ss) = both _ _ (for_nested s) (fors_nested ss) (for_first s) (fors_first ss)

item_for_first : (i : RawItemTree) → nested_in_item_for i ≡ first_of (item_for_nested i)
item_for_first (RawFunctionItem gives n params body) = fors_first body
item_for_first _ = refl

items_for_first : (is : List RawItemTree) → nested_in_fors is ≡ first_of (items_for_nested is)
items_for_first [] = refl
items_for_first (i ∷ is) = both _ _ (item_for_nested i) (items_for_nested is) (item_for_first i) (items_for_first is)

-- ---- these calls are some of all calls

mutual
  for_part : (s : RawStmtTree) → IsPart (for_nested s) (stmt_places is_call s)
  for_part (RawDo s) = none_of _
  for_part (RawBlock ss) = fors_part ss
  for_part (RawIf c s) = behind (expr_places is_call c) (for_part s)
  for_part (RawIfElse c s r) = behind (expr_places is_call c) (part_append (for_part s) (for_part r))
  for_part (RawWhile c s) = behind (expr_places is_call c) (for_part s)
  for_part (RawFor init c step s) = part_append (simples_part init) (part_append (all_of (optional_places is_call c)) (part_append (step_part step) (for_part s)))
  for_part (RawReturn at v) = none_of _
  for_part _ = all_of []

  fors_part : (ss : RawStmtTrees) → IsPart (fors_nested ss) (stmts_places is_call ss)
  fors_part NoRawStmts = all_of []
  fors_part (RawThen s ss) = part_append (for_part s) (fors_part ss)

item_for_part : (i : RawItemTree) → IsPart (item_for_nested i) (item_places is_call i)
item_for_part (RawTableItem n size members) = none_of _
item_for_part (RawPrototypeItem gives n params) = none_of _
item_for_part (RawFunctionItem gives n params body) = behind (names_places is_call Declared params) (fors_part body)
item_for_part _ = all_of []

items_for_part : (is : List RawItemTree) → IsPart (items_for_nested is) (items_places is_call is)
items_for_part [] = all_of []
items_for_part (i ∷ is) = part_append (item_for_part i) (items_for_part is)

pub first_nested_for : (source : List ℕ) (tokens : List Token) (end : ℕ) (items : List RawItemTree) (at : ℕ) → StandInOrder 0 tokens end → IsProgram source tokens items → nested_in_fors items ≡ Some at → IsFirstPlace (items_for_nested items) at
first_nested_for source tokens end items at stands is found =
    first_is_least (items_for_nested items) 0 end at
    (part_rises (items_for_part items) 0 end (program_rises source tokens end items is_call stands is)) (sym (items_for_first items) ∙ found)
