-- The number of temporaries in the flat code of a source, as it is read.
use Rattle.std.specs.Prelude.{ℕ, ◌+◌, ◌≤◌, max, min, List, [], ◌∷◌, Option, Some, None}
use Rattle.c_tree.specs.RawTrees.{RawExprTree, RawExprTrees, RawNumber, RawName, RawElement, RawUnary, RawParenthesized, RawBinary, RawLogicalAnd, RawLogicalOr, RawConditional, RawCall, RawTableCall, NoExprs, And, RawSimpleTree, RawDeclareScalar, RawDeclareArray, RawDeclareWith, RawSet, RawSetElement, RawCalling, RawTableCalling, RawStmtTree, RawStmtTrees, RawDo, RawEmpty, RawBlock, RawIf, RawIfElse, RawWhile, RawFor, RawBreak, RawContinue, RawReturn, NoRawStmts, RawThen, RawItemTree, RawGlobal, RawGlobalArray, RawTableItem, RawPrototypeItem, RawFunctionItem}

-- an expression, counted from the temporary of its value. A call is counted from the same one: its
-- index, its arguments one after another, where those after the sixth count as the sixth, and its result
abbrev mutual
  pub raw_temporaries : RawExprTree → ℕ
  raw_temporaries (RawNumber n) = 1
  raw_temporaries (RawName n) = 1
  raw_temporaries (RawElement n i) = raw_temporaries i
  raw_temporaries (RawUnary op e) = raw_temporaries e
  raw_temporaries (RawParenthesized e) = raw_temporaries e
  raw_temporaries (RawBinary op l r) = max (raw_temporaries l) (1 + raw_temporaries r)
  raw_temporaries (RawLogicalAnd l r) = max (raw_temporaries l) (raw_temporaries r)
  raw_temporaries (RawLogicalOr l r) = max (raw_temporaries l) (raw_temporaries r)
  raw_temporaries (RawConditional c a b) = max (raw_temporaries c) (max (raw_temporaries a) (raw_temporaries b))
  raw_temporaries (RawCall n es) = max 1 (raw_arguments_temporaries 0 es)
  raw_temporaries (RawTableCall n i e) = max (raw_temporaries i) (1 + raw_temporaries e)

  pub raw_arguments_temporaries : ℕ → RawExprTrees → ℕ
  raw_arguments_temporaries k NoExprs = 0
  raw_arguments_temporaries k (And e es) = max (min k 5 + raw_temporaries e) (raw_arguments_temporaries (1 + k) es)

abbrev pub raw_simple_temporaries : RawSimpleTree → ℕ
raw_simple_temporaries (RawDeclareScalar n) = 0
raw_simple_temporaries (RawDeclareArray n size) = 0
raw_simple_temporaries (RawDeclareWith n v) = raw_temporaries v
raw_simple_temporaries (RawSet n v) = raw_temporaries v
raw_simple_temporaries (RawSetElement n i v) = max (raw_temporaries i) (1 + raw_temporaries v)
raw_simple_temporaries (RawCalling n es) = raw_arguments_temporaries 0 es
raw_simple_temporaries (RawTableCalling n i e) = max (raw_temporaries i) (1 + raw_temporaries e)

abbrev pub raw_simples_temporaries : List RawSimpleTree → ℕ
raw_simples_temporaries [] = 0
raw_simples_temporaries (s ∷ ss) = max (raw_simple_temporaries s) (raw_simples_temporaries ss)

-- an absent expression needs none
abbrev pub raw_optional_temporaries : Option RawExprTree → ℕ
raw_optional_temporaries None = 0
raw_optional_temporaries (Some e) = raw_temporaries e

abbrev pub raw_step_temporaries : Option RawSimpleTree → ℕ
raw_step_temporaries None = 0
raw_step_temporaries (Some s) = raw_simple_temporaries s

-- the maximum number for a statement or one in it
abbrev mutual
  pub raw_stmt_temporaries : RawStmtTree → ℕ
  raw_stmt_temporaries (RawDo s) = raw_simple_temporaries s
  raw_stmt_temporaries RawEmpty = 0
  raw_stmt_temporaries (RawBlock ss) = raw_stmts_temporaries ss
  raw_stmt_temporaries (RawIf c s) = max (raw_temporaries c) (raw_stmt_temporaries s)
  raw_stmt_temporaries (RawIfElse c s r) = max (raw_temporaries c) (max (raw_stmt_temporaries s) (raw_stmt_temporaries r))
  raw_stmt_temporaries (RawWhile c s) = max (raw_temporaries c) (raw_stmt_temporaries s)
  raw_stmt_temporaries (RawFor init c step s) = max (raw_simples_temporaries init) (max (raw_optional_temporaries c) (max (raw_step_temporaries step) (raw_stmt_temporaries s)))
  raw_stmt_temporaries (RawBreak at) = 0
  raw_stmt_temporaries (RawContinue at) = 0
  raw_stmt_temporaries (RawReturn at v) = raw_optional_temporaries v

  pub raw_stmts_temporaries : RawStmtTrees → ℕ
  raw_stmts_temporaries NoRawStmts = 0
  raw_stmts_temporaries (RawThen s ss) = max (raw_stmt_temporaries s) (raw_stmts_temporaries ss)

abbrev pub raw_item_temporaries : RawItemTree → ℕ
raw_item_temporaries (RawGlobal n start) = 0
raw_item_temporaries (RawGlobalArray n size) = 0
raw_item_temporaries (RawTableItem n size members) = 0
raw_item_temporaries (RawPrototypeItem gives n params) = 0
raw_item_temporaries (RawFunctionItem gives n params body) = raw_stmts_temporaries body

-- no statement needs more than 65,536 temporaries
abbrev pub AreWithinTemporaries : List RawItemTree → Type 0
AreWithinTemporaries [] = Unit {0}
AreWithinTemporaries (i ∷ is) = (raw_item_temporaries i ≤ 65536) × AreWithinTemporaries is
