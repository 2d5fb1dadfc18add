-- The places of the names of a tree, and of its `break`, `continue` and `return`, in the order of the tree.
use Rattle.std.specs.Prelude.{ℕ, Bool, List, [], ◌∷◌, ◌++◌, Option, Some, None, if◌then◌else◌}
use Rattle.c_tree.specs.RawTrees.{NameTree, RawExprTree, RawExprTrees, RawNumber, RawName, RawElement, RawUnary, RawParenthesized, RawBinary, RawLogicalAnd, RawLogicalOr, RawConditional, RawCall, RawTableCall, NoExprs, And, RawSimpleTree, RawDeclareScalar, RawDeclareArray, RawDeclareWith, RawSet, RawSetElement, RawCalling, RawTableCalling, RawStmtTree, RawStmtTrees, RawDo, RawEmpty, RawBlock, RawIf, RawIfElse, RawWhile, RawFor, RawBreak, RawContinue, RawReturn, NoRawStmts, RawThen, RawItemTree, RawGlobal, RawGlobalArray, RawTableItem, RawPrototypeItem, RawFunctionItem}

-- the kind of a place: of a name that is declared or defined, of one that is used, of the name of a call, or of
-- a keyword
pub data Standing : Type 0 where
  Declared : Standing
  Used : Standing
  Called : Standing
  Keyword : Standing

-- the place, if places of that kind are listed
abbrev pub placed : (Standing → Bool) → Standing → ℕ → List ℕ
placed meant standing at = if meant standing then at ∷ [] else []

abbrev mutual
  pub expr_places : (Standing → Bool) → RawExprTree → List ℕ
  expr_places meant (RawNumber v) = []
  expr_places meant (RawName n) = placed meant Used n.at
  expr_places meant (RawElement n i) = placed meant Used n.at ++ expr_places meant i
  expr_places meant (RawUnary op e) = expr_places meant e
  expr_places meant (RawParenthesized e) = expr_places meant e
  expr_places meant (RawBinary op l r) = expr_places meant l ++ expr_places meant r
  expr_places meant (RawLogicalAnd l r) = expr_places meant l ++ expr_places meant r
  expr_places meant (RawLogicalOr l r) = expr_places meant l ++ expr_places meant r
  expr_places meant (RawConditional c a b) = expr_places meant c ++ (expr_places meant a ++ expr_places meant b)
  expr_places meant (RawCall n es) = placed meant Called n.at ++ exprs_places meant es
  expr_places meant (RawTableCall n i e) = placed meant Called n.at ++ (expr_places meant i ++ expr_places meant e)

  pub exprs_places : (Standing → Bool) → RawExprTrees → List ℕ
  exprs_places meant NoExprs = []
  exprs_places meant (And e es) = expr_places meant e ++ exprs_places meant es

abbrev pub simple_places : (Standing → Bool) → RawSimpleTree → List ℕ
simple_places meant (RawDeclareScalar n) = placed meant Declared n.at
simple_places meant (RawDeclareArray n size) = placed meant Declared n.at
simple_places meant (RawDeclareWith n v) = placed meant Declared n.at ++ expr_places meant v
simple_places meant (RawSet n v) = placed meant Used n.at ++ expr_places meant v
simple_places meant (RawSetElement n i v) = placed meant Used n.at ++ (expr_places meant i ++ expr_places meant v)
simple_places meant (RawCalling n es) = placed meant Called n.at ++ exprs_places meant es
simple_places meant (RawTableCalling n i e) = placed meant Called n.at ++ (expr_places meant i ++ expr_places meant e)

abbrev pub simples_places : (Standing → Bool) → List RawSimpleTree → List ℕ
simples_places meant [] = []
simples_places meant (s ∷ ss) = simple_places meant s ++ simples_places meant ss

abbrev pub optional_places : (Standing → Bool) → Option RawExprTree → List ℕ
optional_places meant None = []
optional_places meant (Some e) = expr_places meant e

abbrev pub step_places : (Standing → Bool) → Option RawSimpleTree → List ℕ
step_places meant None = []
step_places meant (Some s) = simple_places meant s

abbrev mutual
  pub stmt_places : (Standing → Bool) → RawStmtTree → List ℕ
  stmt_places meant (RawDo s) = simple_places meant s
  stmt_places meant RawEmpty = []
  stmt_places meant (RawBlock ss) = stmts_places meant ss
  stmt_places meant (RawIf c s) = expr_places meant c ++ stmt_places meant s
  stmt_places meant (RawIfElse c s r) = expr_places meant c ++ (stmt_places meant s ++ stmt_places meant r)
  stmt_places meant (RawWhile c s) = expr_places meant c ++ stmt_places meant s
  stmt_places meant (RawFor init c step s) = simples_places meant init ++ (optional_places meant c ++ (step_places meant step ++ stmt_places meant s))
  stmt_places meant (RawBreak at) = placed meant Keyword at
  stmt_places meant (RawContinue at) = placed meant Keyword at
  stmt_places meant (RawReturn at v) = placed meant Keyword at ++ optional_places meant v

  pub stmts_places : (Standing → Bool) → RawStmtTrees → List ℕ
  stmts_places meant NoRawStmts = []
  stmts_places meant (RawThen s ss) = stmt_places meant s ++ stmts_places meant ss

abbrev pub names_places : (Standing → Bool) → Standing → List NameTree → List ℕ
names_places meant standing [] = []
names_places meant standing (n ∷ ns) = placed meant standing n.at ++ names_places meant standing ns

-- a parameter's name, which a prototype may omit
abbrev pub optional_name_places : (Standing → Bool) → Option NameTree → List ℕ
optional_name_places meant None = []
optional_name_places meant (Some n) = placed meant Declared n.at

abbrev pub parameters_places : (Standing → Bool) → List (Option NameTree) → List ℕ
parameters_places meant [] = []
parameters_places meant (p ∷ ps) = optional_name_places meant p ++ parameters_places meant ps

abbrev pub item_places : (Standing → Bool) → RawItemTree → List ℕ
item_places meant (RawGlobal n start) = placed meant Declared n.at
item_places meant (RawGlobalArray n size) = placed meant Declared n.at
item_places meant (RawTableItem n size members) = placed meant Declared n.at ++ names_places meant Used members
item_places meant (RawPrototypeItem gives n params) = placed meant Declared n.at ++ parameters_places meant params
item_places meant (RawFunctionItem gives n params body) = placed meant Declared n.at ++ (names_places meant Declared params ++ stmts_places meant body)

abbrev pub items_places : (Standing → Bool) → List RawItemTree → List ℕ
items_places meant [] = []
items_places meant (i ∷ is) = item_places meant i ++ items_places meant is
