-- The places of the names of the calls that aren't whole, in the order of the tree. A call is whole exactly if it is a
-- statement, a whole right side or a whole returned value.
use Rattle.std.specs.Prelude.{ℕ, Bool, true, false, List, [], ◌∷◌, ◌++◌, ◌≤◌, Option, Some, None, Contains}
use Rattle.std.specs.List.{AllByRecursion}
use Rattle.c_tree.specs.RawTrees.{RawExprTree, RawNumber, RawName, RawElement, RawUnary, RawParenthesized, RawBinary, RawLogicalAnd, RawLogicalOr, RawConditional, RawCall, RawTableCall, RawSimpleTree, RawDeclareScalar, RawDeclareArray, RawDeclareWith, RawSet, RawSetElement, RawCalling, RawTableCalling, RawStmtTree, RawStmtTrees, RawDo, RawEmpty, RawBlock, RawIf, RawIfElse, RawWhile, RawFor, RawBreak, RawContinue, RawReturn, NoRawStmts, RawThen, RawItemTree, RawGlobal, RawGlobalArray, RawTableItem, RawPrototypeItem, RawFunctionItem}
use Rattle.grammar_laws.specs.Places.{Standing, Declared, Used, Called, Keyword, expr_places, exprs_places, optional_places}

-- whether it is the name of a call
abbrev pub is_call : Standing → Bool
is_call Declared = false
is_call Used = false
is_call Called = true
is_call Keyword = false

-- the calls in a right side or a returned value, which itself may be a call
abbrev pub value_nested : RawExprTree → List ℕ
value_nested (RawNumber v) = expr_places is_call (RawNumber v)
value_nested (RawName n) = expr_places is_call (RawName n)
value_nested (RawElement n i) = expr_places is_call (RawElement n i)
value_nested (RawUnary op e) = expr_places is_call (RawUnary op e)
value_nested (RawParenthesized e) = expr_places is_call (RawParenthesized e)
value_nested (RawBinary op l r) = expr_places is_call (RawBinary op l r)
value_nested (RawLogicalAnd l r) = expr_places is_call (RawLogicalAnd l r)
value_nested (RawLogicalOr l r) = expr_places is_call (RawLogicalOr l r)
value_nested (RawConditional c a b) = expr_places is_call (RawConditional c a b)
value_nested (RawCall n es) = exprs_places is_call es
value_nested (RawTableCall n i e) = expr_places is_call i ++ expr_places is_call e

abbrev pub simple_nested : RawSimpleTree → List ℕ
simple_nested (RawDeclareScalar n) = []
simple_nested (RawDeclareArray n size) = []
simple_nested (RawDeclareWith n v) = value_nested v
simple_nested (RawSet n v) = value_nested v
simple_nested (RawSetElement n i v) = expr_places is_call i ++ value_nested v
simple_nested (RawCalling n es) = exprs_places is_call es
simple_nested (RawTableCalling n i e) = expr_places is_call i ++ expr_places is_call e

abbrev pub simples_nested : List RawSimpleTree → List ℕ
simples_nested [] = []
simples_nested (s ∷ ss) = simple_nested s ++ simples_nested ss

abbrev pub step_nested : Option RawSimpleTree → List ℕ
step_nested None = []
step_nested (Some s) = simple_nested s

abbrev pub return_nested : Option RawExprTree → List ℕ
return_nested None = []
return_nested (Some v) = value_nested v

abbrev mutual
  pub stmt_nested : RawStmtTree → List ℕ
  stmt_nested (RawDo s) = simple_nested s
  stmt_nested RawEmpty = []
  stmt_nested (RawBlock ss) = stmts_nested ss
  stmt_nested (RawIf c s) = expr_places is_call c ++ stmt_nested s
  stmt_nested (RawIfElse c s r) = expr_places is_call c ++ (stmt_nested s ++ stmt_nested r)
  stmt_nested (RawWhile c s) = expr_places is_call c ++ stmt_nested s
  stmt_nested (RawFor init c step s) = simples_nested init ++ (optional_places is_call c ++ (step_nested step ++ stmt_nested s))
  stmt_nested (RawBreak at) = []
  stmt_nested (RawContinue at) = []
  stmt_nested (RawReturn at v) = return_nested v

  pub stmts_nested : RawStmtTrees → List ℕ
  stmts_nested NoRawStmts = []
  stmts_nested (RawThen s ss) = stmt_nested s ++ stmts_nested ss

abbrev pub item_nested : RawItemTree → List ℕ
item_nested (RawGlobal n start) = []
item_nested (RawGlobalArray n size) = []
item_nested (RawTableItem n size members) = []
item_nested (RawPrototypeItem gives n params) = []
item_nested (RawFunctionItem gives n params body) = stmts_nested body

abbrev pub items_nested : List RawItemTree → List ℕ
items_nested [] = []
items_nested (i ∷ is) = item_nested i ++ items_nested is

-- the place is one of these, and the least
pub record IsFirstPlace (places : List ℕ) (at : ℕ) : Type 0 where
  pub one : Contains places at
  pub least : AllByRecursion (λ other. at ≤ other) places
