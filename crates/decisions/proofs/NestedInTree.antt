-- The first call that is not whole, which is looked for in the order of the tree, is the first of these by its place.
use Rattle.decisions.proofs.Common.{ℕ, ◌≡◌, refl, sym, ◌∙◌, ap, List, [], ◌∷◌, ◌++◌, Option, Some, None, StandInOrder, Token, RawExprTree, RawExprTrees, RawElement, RawUnary, RawParenthesized, RawBinary, RawLogicalAnd, RawLogicalOr, RawConditional, RawCall, RawTableCall, NoExprs, And, RawSimpleTree, RawDeclareWith, RawSet, RawSetElement, RawCalling, RawTableCalling, RawStmtTree, RawStmtTrees, RawDo, RawBlock, RawIf, RawIfElse, RawWhile, RawFor, RawReturn, NoRawStmts, RawThen, RawItemTree, RawTableItem, RawPrototypeItem, RawFunctionItem, IsProgram, earlier, first_call, first_call_of, nested_in_value, nested_in_simple, nested_in_simples, nested_in_condition, nested_in_step, nested_in_return, nested_in_stmt, nested_in_stmts, nested_in_item, nested_in_items, is_call, value_nested, simple_nested, simples_nested, step_nested, return_nested, stmt_nested, stmts_nested, item_nested, items_nested, IsFirstPlace, Declared, expr_places, exprs_places, simple_places, simples_places, optional_places, step_places, stmt_places, stmts_places, names_places, item_places, items_places, program_rises}
use Rattle.decisions.proofs.NestedParts.{all_of, none_of, behind, part_rises, first_of, first_is_least}
use Rattle.decisions.proofs.Parts.{IsPart, part_append}

-- ---- the first of the list is what is looked for

earlier_first : (a b : List ℕ) → earlier (first_of a) (first_of b) ≡ first_of (a ++ b)
earlier_first [] b = refl
earlier_first (x ∷ a) b = refl

pub both : (x y : Option ℕ) (a b : List ℕ) → x ≡ first_of a → y ≡ first_of b → earlier x y ≡ first_of (a ++ b)
both x y a b e f = ap (λ (o : Option ℕ). earlier o y) e ∙ ap (λ (o : Option ℕ). earlier (first_of a) o) f ∙ earlier_first a b

mutual
  expr_first : (e : RawExprTree) → first_call e ≡ first_of (expr_places is_call e)
  expr_first (RawElement n i) = expr_first i
  expr_first (RawUnary op e) = expr_first e
  expr_first (RawParenthesized e) = expr_first e
  expr_first (RawBinary op l r) = both _ _ (expr_places is_call l) (expr_places is_call r) (expr_first l) (expr_first r)
  expr_first (RawLogicalAnd l r) = both _ _ (expr_places is_call l) (expr_places is_call r) (expr_first l) (expr_first r)
  expr_first (RawLogicalOr l r) = both _ _ (expr_places is_call l) (expr_places is_call r) (expr_first l) (expr_first r)
  expr_first (RawConditional c a b) =
      both _ _ (expr_places is_call c) (expr_places is_call a ++ expr_places is_call b) (expr_first c) (both _ _ (expr_places is_call a) (expr_places is_call b) (expr_first a) (expr_first b))
  expr_first _ = refl

  exprs_first : (es : RawExprTrees) → first_call_of es ≡ first_of (exprs_places is_call es)
  exprs_first NoExprs = refl
  exprs_first (And e es) = both _ _ (expr_places is_call e) (exprs_places is_call es) (expr_first e) (exprs_first es)

value_first : (v : RawExprTree) → nested_in_value v ≡ first_of (value_nested v)
value_first (RawElement n i) = expr_first i
value_first (RawUnary op e) = expr_first e
value_first (RawParenthesized e) = expr_first e
value_first (RawBinary op l r) = expr_first (RawBinary op l r)
value_first (RawLogicalAnd l r) = expr_first (RawLogicalAnd l r)
value_first (RawLogicalOr l r) = expr_first (RawLogicalOr l r)
value_first (RawConditional c a b) = expr_first (RawConditional c a b)
value_first (RawCall n es) = exprs_first es
value_first (RawTableCall n i e) = both _ _ (expr_places is_call i) (expr_places is_call e) (expr_first i) (expr_first e)
value_first _ = refl

simple_first : (s : RawSimpleTree) → nested_in_simple s ≡ first_of (simple_nested s)
simple_first (RawDeclareWith n v) = value_first v
simple_first (RawSet n v) = value_first v
simple_first (RawSetElement n i v) = both _ _ (expr_places is_call i) (value_nested v) (expr_first i) (value_first v)
simple_first (RawCalling n es) = exprs_first es
simple_first (RawTableCalling n i e) = both _ _ (expr_places is_call i) (expr_places is_call e) (expr_first i) (expr_first e)
simple_first _ = refl

pub simples_first : (ss : List RawSimpleTree) → nested_in_simples ss ≡ first_of (simples_nested ss)
simples_first [] = refl
simples_first (s ∷ ss) = both _ _ (simple_nested s) (simples_nested ss) (simple_first s) (simples_first ss)

pub condition_first : (c : Option RawExprTree) → nested_in_condition c ≡ first_of (optional_places is_call c)
condition_first None = refl
condition_first (Some e) = expr_first e

pub step_first : (s : Option RawSimpleTree) → nested_in_step s ≡ first_of (step_nested s)
step_first None = refl
step_first (Some s) = simple_first s

return_first : (v : Option RawExprTree) → nested_in_return v ≡ first_of (return_nested v)
return_first None = refl
return_first (Some v) = value_first v

mutual
  stmt_first : (s : RawStmtTree) → nested_in_stmt s ≡ first_of (stmt_nested s)
  stmt_first (RawDo s) = simple_first s
  stmt_first (RawBlock ss) = stmts_first ss
  stmt_first (RawIf c s) = both _ _ (expr_places is_call c) (stmt_nested s) (expr_first c) (stmt_first s)
  stmt_first (RawIfElse c s r) =
      both _ _ (expr_places is_call c) (stmt_nested s ++ stmt_nested r) (expr_first c) (both _ _ (stmt_nested s) (stmt_nested r) (stmt_first s) (stmt_first r))
  stmt_first (RawWhile c s) = both _ _ (expr_places is_call c) (stmt_nested s) (expr_first c) (stmt_first s)
  stmt_first (RawFor init c step s) =
      both _ _ (simples_nested init) (optional_places is_call c ++ (step_nested step ++ stmt_nested s)) (simples_first init)
      (both _ _ (optional_places is_call c) (step_nested step ++ stmt_nested s) (condition_first c) (both _ _ (step_nested step) (stmt_nested s) (step_first step) (stmt_first s)))
  stmt_first (RawReturn at v) = return_first v
  stmt_first _ = refl

  stmts_first : (ss : RawStmtTrees) → nested_in_stmts ss ≡ first_of (stmts_nested ss)
  stmts_first NoRawStmts = refl
  stmts_first (RawThen s ss) = both _ _ (stmt_nested s) (stmts_nested ss) (stmt_first s) (stmts_first ss)

item_first : (i : RawItemTree) → nested_in_item i ≡ first_of (item_nested i)
item_first (RawFunctionItem gives n params body) = stmts_first body
item_first _ = refl

items_first : (is : List RawItemTree) → nested_in_items is ≡ first_of (items_nested is)
items_first [] = refl
items_first (i ∷ is) = both _ _ (item_nested i) (items_nested is) (item_first i) (items_first is)

-- ---- these calls are some of all calls

value_part : (v : RawExprTree) → IsPart (value_nested v) (expr_places is_call v)
value_part (RawElement n i) = all_of (expr_places is_call i)
value_part (RawUnary op e) = all_of (expr_places is_call e)
value_part (RawParenthesized e) = all_of (expr_places is_call e)
value_part (RawBinary op l r) = all_of (expr_places is_call (RawBinary op l r))
value_part (RawLogicalAnd l r) = all_of (expr_places is_call (RawLogicalAnd l r))
value_part (RawLogicalOr l r) = all_of (expr_places is_call (RawLogicalOr l r))
value_part (RawConditional c a b) = all_of (expr_places is_call (RawConditional c a b))
value_part (RawCall n es) = behind (n.at ∷ []) (all_of (exprs_places is_call es))
value_part (RawTableCall n i e) = behind (n.at ∷ []) (all_of (expr_places is_call i ++ expr_places is_call e))
value_part _ = all_of _

simple_part : (s : RawSimpleTree) → IsPart (simple_nested s) (simple_places is_call s)
simple_part (RawDeclareWith n v) = value_part v
simple_part (RawSet n v) = value_part v
simple_part (RawSetElement n i v) = part_append (all_of (expr_places is_call i)) (value_part v)
simple_part (RawCalling n es) = behind (n.at ∷ []) (all_of (exprs_places is_call es))
simple_part (RawTableCalling n i e) = behind (n.at ∷ []) (all_of (expr_places is_call i ++ expr_places is_call e))
simple_part _ = all_of []

pub simples_part : (ss : List RawSimpleTree) → IsPart (simples_nested ss) (simples_places is_call ss)
simples_part [] = all_of []
simples_part (s ∷ ss) = part_append (simple_part s) (simples_part ss)

pub step_part : (s : Option RawSimpleTree) → IsPart (step_nested s) (step_places is_call s)
step_part None = all_of []
step_part (Some s) = simple_part s

return_part : (v : Option RawExprTree) → IsPart (return_nested v) (optional_places is_call v)
return_part None = all_of []
return_part (Some v) = value_part v

mutual
  stmt_part : (s : RawStmtTree) → IsPart (stmt_nested s) (stmt_places is_call s)
  stmt_part (RawDo s) = simple_part s
  stmt_part (RawBlock ss) = stmts_part ss
  stmt_part (RawIf c s) = part_append (all_of (expr_places is_call c)) (stmt_part s)
  stmt_part (RawIfElse c s r) = part_append (all_of (expr_places is_call c)) (part_append (stmt_part s) (stmt_part r))
  stmt_part (RawWhile c s) = part_append (all_of (expr_places is_call c)) (stmt_part s)
  stmt_part (RawFor init c step s) = part_append (simples_part init) (part_append (all_of (optional_places is_call c)) (part_append (step_part step) (stmt_part s)))
  stmt_part (RawReturn at v) = return_part v
  stmt_part _ = all_of []

  stmts_part : (ss : RawStmtTrees) → IsPart (stmts_nested ss) (stmts_places is_call ss)
  stmts_part NoRawStmts = all_of []
  stmts_part (RawThen s ss) = part_append (stmt_part s) (stmts_part ss)

item_part : (i : RawItemTree) → IsPart (item_nested i) (item_places is_call i)
item_part (RawTableItem n size members) = none_of _
item_part (RawPrototypeItem gives n params) = none_of _
item_part (RawFunctionItem gives n params body) = behind (names_places is_call Declared params) (stmts_part body)
item_part _ = all_of []

items_part : (is : List RawItemTree) → IsPart (items_nested is) (items_places is_call is)
items_part [] = all_of []
items_part (i ∷ is) = part_append (item_part i) (items_part is)

pub first_nested : (source : List ℕ) (tokens : List Token) (end : ℕ) (items : List RawItemTree) (at : ℕ) → StandInOrder 0 tokens end → IsProgram source tokens items → nested_in_items items ≡ Some at → IsFirstPlace (items_nested items) at
first_nested source tokens end items at stands is found =
    first_is_least (items_nested items) 0 end at
    (part_rises (items_part items) 0 end (program_rises source tokens end items is_call stands is)) (sym (items_first items) ∙ found)
