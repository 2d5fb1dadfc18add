-- The rewriting of statements and of a whole source. A statement in which each call is whole stays the same.
use Rattle.std.specs.Prelude.{ℕ, ◌+◌, List, [], ◌∷◌, ◌++◌, Option, Some, None, if◌then◌else◌}
use Rattle.c_tree.specs.RawTrees.{RawExprTree, RawNumber, RawCall, RawTableCall, RawSimpleTree, RawDeclareScalar, RawDeclareArray, RawDeclareWith, RawSet, RawSetElement, RawCalling, RawTableCalling, RawStmtTree, RawStmtTrees, RawDo, RawEmpty, RawBlock, RawIf, RawIfElse, RawWhile, RawFor, RawBreak, RawContinue, RawReturn, NoRawStmts, RawThen, RawItemTree, RawGlobal, RawGlobalArray, RawTableItem, RawPrototypeItem, RawFunctionItem}
use Rattle.c_tree.specs.RawViews.{raw_in_order, as_body}
use Rattle.hoist_parts.specs.Calls.{holds_call, holds_nested, is_named, is_spawn}
use Rattle.hoist_parts.specs.Expressions.{names_in, arguments_names, part_after, part_or, part_named, left_of, arguments_left, call_left, table_call_left, index_left, argument_left, before, arguments_before, is_false, in_block}

-- ---- a right side or a returned value: itself it may be a call, which is whole

abbrev pub value_names : RawExprTree → ℕ
value_names (RawCall n es) = arguments_names (is_spawn n) es
value_names (RawTableCall n i e) = part_after 0 (holds_call e) i + names_in e
value_names e = names_in e

abbrev pub value_left : ℕ → RawExprTree → RawExprTree
value_left k (RawCall n es) = call_left k n es
value_left k (RawTableCall n i e) = table_call_left k n i e
value_left k e = left_of k e

-- the statements before an index and the argument after it
abbrev pub table_before : ℕ → RawExprTree → RawExprTree → List RawStmtTree
table_before k i e = before k i ++ part_named (is_named (holds_call e) i) (k + names_in i) (left_of k i) ++ before (part_after k (holds_call e) i) e

abbrev pub value_before : ℕ → RawExprTree → List RawStmtTree
value_before k (RawCall n es) = arguments_before (is_spawn n) k es
value_before k (RawTableCall n i e) = table_before k i e
value_before k e = before k e

-- ---- declarations, assignments and calls

abbrev pub simple_names : RawSimpleTree → ℕ
simple_names (RawDeclareScalar n) = 0
simple_names (RawDeclareArray n size) = 0
simple_names (RawDeclareWith n v) = value_names v
simple_names (RawSet n v) = value_names v
simple_names (RawSetElement n i v) = part_after 0 (holds_nested v) i + value_names v
simple_names (RawCalling n es) = arguments_names (is_spawn n) es
simple_names (RawTableCalling n i e) = part_after 0 (holds_call e) i + names_in e

abbrev pub simple_left : ℕ → RawSimpleTree → RawSimpleTree
simple_left k (RawDeclareScalar n) = RawDeclareScalar n
simple_left k (RawDeclareArray n size) = RawDeclareArray n size
simple_left k (RawDeclareWith n v) = RawDeclareWith n (value_left k v)
simple_left k (RawSet n v) = RawSet n (value_left k v)
simple_left k (RawSetElement n i v) = RawSetElement n (part_or (is_named (holds_nested v) i) (k + names_in i) (left_of k i)) (value_left (part_after k (holds_nested v) i) v)
simple_left k (RawCalling n es) = RawCalling n (arguments_left (is_spawn n) k es)
simple_left k (RawTableCalling n i e) = RawTableCalling n (index_left k i e) (argument_left k i e)

abbrev pub simple_before : ℕ → RawSimpleTree → List RawStmtTree
simple_before k (RawDeclareScalar n) = []
simple_before k (RawDeclareArray n size) = []
simple_before k (RawDeclareWith n v) = value_before k v
simple_before k (RawSet n v) = value_before k v
simple_before k (RawSetElement n i v) = before k i ++ part_named (is_named (holds_nested v) i) (k + names_in i) (left_of k i) ++ value_before (part_after k (holds_nested v) i) v
simple_before k (RawCalling n es) = arguments_before (is_spawn n) k es
simple_before k (RawTableCalling n i e) = table_before k i e

-- ---- statements

abbrev pub returned_names : Option RawExprTree → ℕ
returned_names None = 0
returned_names (Some v) = value_names v

-- the number of new names for a statement, including those in the statements in it
abbrev mutual
  pub stmt_names : RawStmtTree → ℕ
  stmt_names (RawDo s) = simple_names s
  stmt_names RawEmpty = 0
  stmt_names (RawBlock ss) = stmts_names ss
  stmt_names (RawIf c s) = names_in c + stmt_names s
  stmt_names (RawIfElse c s r) = names_in c + stmt_names s + stmt_names r
  stmt_names (RawWhile c s) = names_in c + stmt_names s
  stmt_names (RawFor init c step s) = stmt_names s
  stmt_names (RawBreak at) = 0
  stmt_names (RawContinue at) = 0
  stmt_names (RawReturn at v) = returned_names v

  pub stmts_names : RawStmtTrees → ℕ
  stmts_names NoRawStmts = 0
  stmts_names (RawThen s ss) = stmt_names s + stmts_names ss

abbrev pub returned_before : ℕ → Option RawExprTree → List RawStmtTree
returned_before k None = []
returned_before k (Some v) = value_before k v

abbrev pub returned_left : ℕ → Option RawExprTree → Option RawExprTree
returned_left k None = None
returned_left k (Some v) = Some (value_left k v)

-- `P(c) if (!c) break; S`: the new `break` is in a loop, so its place is never reported
abbrev pub turn_of : ℕ → RawExprTree → RawStmtTree → List RawStmtTree
turn_of k c s = before k c ++ RawIf (is_false (left_of k c)) (RawBreak 0) ∷ s ∷ []

-- `while (1) { P(c) if (!c) break; S }`
abbrev pub while_calling : ℕ → RawExprTree → RawStmtTree → RawStmtTree
while_calling k c s = RawWhile (RawNumber 1) (in_block (turn_of k c s))

-- the statements that replace a statement; the parts in the parentheses of a `for` stay the same
abbrev mutual
  pub hoisted : ℕ → RawStmtTree → List RawStmtTree
  hoisted k (RawDo s) = simple_before k s ++ RawDo (simple_left k s) ∷ []
  hoisted k RawEmpty = RawEmpty ∷ []
  hoisted k (RawBlock ss) = in_block (all_hoisted k ss) ∷ []
  hoisted k (RawIf c s) = before k c ++ RawIf (left_of k c) (as_body (hoisted (k + names_in c) s)) ∷ []
  hoisted k (RawIfElse c s r) = before k c ++ RawIfElse (left_of k c) (as_body (hoisted (k + names_in c) s)) (as_body (hoisted (k + names_in c + stmt_names s) r)) ∷ []
  hoisted k (RawWhile c s) = (if holds_call c then while_calling k c (as_body (hoisted (k + names_in c) s)) else RawWhile c (as_body (hoisted k s))) ∷ []
  hoisted k (RawFor init c step s) = RawFor init c step (as_body (hoisted k s)) ∷ []
  hoisted k (RawBreak at) = RawBreak at ∷ []
  hoisted k (RawContinue at) = RawContinue at ∷ []
  hoisted k (RawReturn at v) = returned_before k v ++ RawReturn at (returned_left k v) ∷ []

  pub all_hoisted : ℕ → RawStmtTrees → List RawStmtTree
  all_hoisted k NoRawStmts = []
  all_hoisted k (RawThen s ss) = hoisted k s ++ all_hoisted (k + stmt_names s) ss

-- ---- a source: the new names of each function are numbered from 0

abbrev pub item_hoisted : RawItemTree → RawItemTree
item_hoisted (RawGlobal n start) = RawGlobal n start
item_hoisted (RawGlobalArray n size) = RawGlobalArray n size
item_hoisted (RawTableItem n size members) = RawTableItem n size members
item_hoisted (RawPrototypeItem gives n params) = RawPrototypeItem gives n params
item_hoisted (RawFunctionItem gives n params body) = RawFunctionItem gives n params (raw_in_order (all_hoisted 0 body))

abbrev pub items_hoisted : List RawItemTree → List RawItemTree
items_hoisted [] = []
items_hoisted (i ∷ is) = item_hoisted i ∷ items_hoisted is
