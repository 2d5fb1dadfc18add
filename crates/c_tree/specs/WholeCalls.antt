-- Which calls of a source are whole: a call is whole if it is a statement, the whole right side of an
-- assignment or of a declaration, or the whole value of a return.
use Rattle.std.specs.Prelude.{List, [], ◌∷◌, Option, Some, None}
use Rattle.c_tree.specs.RawTrees.{RawExprTree, RawExprTrees, RawNumber, RawName, RawElement, RawUnary, RawParenthesized, RawBinary, RawLogicalAnd, RawLogicalOr, RawConditional, RawCall, RawTableCall, NoExprs, And, RawSimpleTree, RawDeclareScalar, RawDeclareArray, RawDeclareWith, RawSet, RawSetElement, RawCalling, RawTableCalling, RawStmtTree, RawStmtTrees, RawDo, RawEmpty, RawBlock, RawIf, RawIfElse, RawWhile, RawFor, RawBreak, RawContinue, RawReturn, NoRawStmts, RawThen, RawItemTree, RawGlobal, RawGlobalArray, RawTableItem, RawPrototypeItem, RawFunctionItem}

-- the expression contains no call
abbrev pub HasNoCall : RawExprTree → Type 0
HasNoCall (RawNumber v) = Unit {0}
HasNoCall (RawName n) = Unit {0}
HasNoCall (RawElement n i) = HasNoCall i
HasNoCall (RawUnary op e) = HasNoCall e
HasNoCall (RawParenthesized e) = HasNoCall e
HasNoCall (RawBinary op l r) = HasNoCall l × HasNoCall r
HasNoCall (RawLogicalAnd l r) = HasNoCall l × HasNoCall r
HasNoCall (RawLogicalOr l r) = HasNoCall l × HasNoCall r
HasNoCall (RawConditional c a b) = HasNoCall c × HasNoCall a × HasNoCall b
HasNoCall (RawCall n es) = ⊥
HasNoCall (RawTableCall n i e) = ⊥

abbrev pub HaveNoCall : RawExprTrees → Type 0
HaveNoCall NoExprs = Unit {0}
HaveNoCall (And e es) = HasNoCall e × HaveNoCall es

-- a right side or a returned value: it may be a call, but contains no other
abbrev pub IsValueWhole : RawExprTree → Type 0
IsValueWhole (RawNumber v) = Unit {0}
IsValueWhole (RawName n) = Unit {0}
IsValueWhole (RawElement n i) = HasNoCall i
IsValueWhole (RawUnary op e) = HasNoCall e
IsValueWhole (RawParenthesized e) = HasNoCall e
IsValueWhole (RawBinary op l r) = HasNoCall l × HasNoCall r
IsValueWhole (RawLogicalAnd l r) = HasNoCall l × HasNoCall r
IsValueWhole (RawLogicalOr l r) = HasNoCall l × HasNoCall r
IsValueWhole (RawConditional c a b) = HasNoCall c × HasNoCall a × HasNoCall b
IsValueWhole (RawCall n es) = HaveNoCall es
IsValueWhole (RawTableCall n i e) = HasNoCall i × HasNoCall e

abbrev pub IsSimpleWhole : RawSimpleTree → Type 0
IsSimpleWhole (RawDeclareScalar n) = Unit {0}
IsSimpleWhole (RawDeclareArray n size) = Unit {0}
IsSimpleWhole (RawDeclareWith n v) = IsValueWhole v
IsSimpleWhole (RawSet n v) = IsValueWhole v
IsSimpleWhole (RawSetElement n i v) = HasNoCall i × IsValueWhole v
IsSimpleWhole (RawCalling n es) = HaveNoCall es
IsSimpleWhole (RawTableCalling n i e) = HasNoCall i × HasNoCall e

abbrev pub AreSimplesWhole : List RawSimpleTree → Type 0
AreSimplesWhole [] = Unit {0}
AreSimplesWhole (s ∷ ss) = IsSimpleWhole s × AreSimplesWhole ss

abbrev pub IsConditionWhole : Option RawExprTree → Type 0
IsConditionWhole None = Unit {0}
IsConditionWhole (Some e) = HasNoCall e

abbrev pub IsStepWhole : Option RawSimpleTree → Type 0
IsStepWhole None = Unit {0}
IsStepWhole (Some s) = IsSimpleWhole s

abbrev pub IsReturnWhole : Option RawExprTree → Type 0
IsReturnWhole None = Unit {0}
IsReturnWhole (Some v) = IsValueWhole v

abbrev mutual
  pub IsStmtWhole : RawStmtTree → Type 0
  IsStmtWhole (RawDo s) = IsSimpleWhole s
  IsStmtWhole RawEmpty = Unit {0}
  IsStmtWhole (RawBlock ss) = AreStmtsWhole ss
  IsStmtWhole (RawIf c s) = HasNoCall c × IsStmtWhole s
  IsStmtWhole (RawIfElse c s r) = HasNoCall c × IsStmtWhole s × IsStmtWhole r
  IsStmtWhole (RawWhile c s) = HasNoCall c × IsStmtWhole s
  IsStmtWhole (RawFor init c step s) = AreSimplesWhole init × IsConditionWhole c × IsStepWhole step × IsStmtWhole s
  IsStmtWhole (RawBreak at) = Unit {0}
  IsStmtWhole (RawContinue at) = Unit {0}
  IsStmtWhole (RawReturn at v) = IsReturnWhole v

  pub AreStmtsWhole : RawStmtTrees → Type 0
  AreStmtsWhole NoRawStmts = Unit {0}
  AreStmtsWhole (RawThen s ss) = IsStmtWhole s × AreStmtsWhole ss

abbrev pub IsItemWhole : RawItemTree → Type 0
IsItemWhole (RawGlobal n start) = Unit {0}
IsItemWhole (RawGlobalArray n size) = Unit {0}
IsItemWhole (RawTableItem n size members) = Unit {0}
IsItemWhole (RawPrototypeItem gives n params) = Unit {0}
IsItemWhole (RawFunctionItem gives n params body) = AreStmtsWhole body

-- every call of the source is whole
abbrev pub AreCallsWhole : List RawItemTree → Type 0
AreCallsWhole [] = Unit {0}
AreCallsWhole (i ∷ is) = IsItemWhole i × AreCallsWhole is
