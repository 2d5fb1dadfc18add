-- The first nested call, in the order of the text.
use Rattle.std.specs.Prelude.{ℕ, List, [], ◌∷◌, Option, Some, None}
use Rattle.c_tree.specs.RawTrees.{RawExprTree, RawExprTrees, RawNumber, RawName, RawElement, RawUnary, RawParenthesized, RawBinary, RawLogicalAnd, RawLogicalOr, RawConditional, RawCall, RawTableCall, NoExprs, And, RawSimpleTree, RawDeclareScalar, RawDeclareArray, RawDeclareWith, RawSet, RawSetElement, RawCalling, RawTableCalling, RawStmtTree, RawStmtTrees, RawDo, RawEmpty, RawBlock, RawIf, RawIfElse, RawWhile, RawFor, RawBreak, RawContinue, RawReturn, NoRawStmts, RawThen, RawItemTree, RawGlobal, RawGlobalArray, RawTableItem, RawPrototypeItem, RawFunctionItem}

-- the first of the two that exists
abbrev pub earlier : Option ℕ → Option ℕ → Option ℕ
earlier None other = other
earlier (Some at) other = Some at

-- the place of the name of the first call in an expression
abbrev pub first_call : RawExprTree → Option ℕ
first_call (RawNumber v) = None
first_call (RawName n) = None
first_call (RawElement n i) = first_call i
first_call (RawUnary op e) = first_call e
first_call (RawParenthesized e) = first_call e
first_call (RawBinary op l r) = earlier (first_call l) (first_call r)
first_call (RawLogicalAnd l r) = earlier (first_call l) (first_call r)
first_call (RawLogicalOr l r) = earlier (first_call l) (first_call r)
first_call (RawConditional c a b) = earlier (first_call c) (earlier (first_call a) (first_call b))
first_call (RawCall n es) = Some n.at
first_call (RawTableCall n i e) = Some n.at

abbrev pub first_call_of : RawExprTrees → Option ℕ
first_call_of NoExprs = None
first_call_of (And e es) = earlier (first_call e) (first_call_of es)

-- the first nested call in a right side or a returned value, which itself may be a call
abbrev pub nested_in_value : RawExprTree → Option ℕ
nested_in_value (RawNumber v) = None
nested_in_value (RawName n) = None
nested_in_value (RawElement n i) = first_call i
nested_in_value (RawUnary op e) = first_call e
nested_in_value (RawParenthesized e) = first_call e
nested_in_value (RawBinary op l r) = earlier (first_call l) (first_call r)
nested_in_value (RawLogicalAnd l r) = earlier (first_call l) (first_call r)
nested_in_value (RawLogicalOr l r) = earlier (first_call l) (first_call r)
nested_in_value (RawConditional c a b) = earlier (first_call c) (earlier (first_call a) (first_call b))
nested_in_value (RawCall n es) = first_call_of es
nested_in_value (RawTableCall n i e) = earlier (first_call i) (first_call e)

abbrev pub nested_in_simple : RawSimpleTree → Option ℕ
nested_in_simple (RawDeclareScalar n) = None
nested_in_simple (RawDeclareArray n size) = None
nested_in_simple (RawDeclareWith n v) = nested_in_value v
nested_in_simple (RawSet n v) = nested_in_value v
nested_in_simple (RawSetElement n i v) = earlier (first_call i) (nested_in_value v)
nested_in_simple (RawCalling n es) = first_call_of es
nested_in_simple (RawTableCalling n i e) = earlier (first_call i) (first_call e)

abbrev pub nested_in_simples : List RawSimpleTree → Option ℕ
nested_in_simples [] = None
nested_in_simples (s ∷ ss) = earlier (nested_in_simple s) (nested_in_simples ss)

abbrev pub nested_in_condition : Option RawExprTree → Option ℕ
nested_in_condition None = None
nested_in_condition (Some e) = first_call e

abbrev pub nested_in_step : Option RawSimpleTree → Option ℕ
nested_in_step None = None
nested_in_step (Some s) = nested_in_simple s

abbrev pub nested_in_return : Option RawExprTree → Option ℕ
nested_in_return None = None
nested_in_return (Some v) = nested_in_value v

abbrev mutual
  pub nested_in_stmt : RawStmtTree → Option ℕ
  nested_in_stmt (RawDo s) = nested_in_simple s
  nested_in_stmt RawEmpty = None
  nested_in_stmt (RawBlock ss) = nested_in_stmts ss
  nested_in_stmt (RawIf c s) = earlier (first_call c) (nested_in_stmt s)
  nested_in_stmt (RawIfElse c s r) = earlier (first_call c) (earlier (nested_in_stmt s) (nested_in_stmt r))
  nested_in_stmt (RawWhile c s) = earlier (first_call c) (nested_in_stmt s)
  nested_in_stmt (RawFor init c step s) = earlier (nested_in_simples init) (earlier (nested_in_condition c) (earlier (nested_in_step step) (nested_in_stmt s)))
  nested_in_stmt (RawBreak at) = None
  nested_in_stmt (RawContinue at) = None
  nested_in_stmt (RawReturn at v) = nested_in_return v

  pub nested_in_stmts : RawStmtTrees → Option ℕ
  nested_in_stmts NoRawStmts = None
  nested_in_stmts (RawThen s ss) = earlier (nested_in_stmt s) (nested_in_stmts ss)

abbrev pub nested_in_item : RawItemTree → Option ℕ
nested_in_item (RawGlobal n start) = None
nested_in_item (RawGlobalArray n size) = None
nested_in_item (RawTableItem n size members) = None
nested_in_item (RawPrototypeItem gives n params) = None
nested_in_item (RawFunctionItem gives n params body) = nested_in_stmts body

-- the place of the name of the first nested call
abbrev pub nested_in_items : List RawItemTree → Option ℕ
nested_in_items [] = None
nested_in_items (i ∷ is) = earlier (nested_in_item i) (nested_in_items is)
