-- No call is in the first argument of a `spawn`, which is a function's name.
use Rattle.std.specs.Prelude.{◌≡◌, Bool, true, false, List, [], ◌∷◌, Option, Some, None}
use Rattle.c_tree.specs.RawTrees.{RawExprTree, RawExprTrees, RawNumber, RawName, RawElement, RawUnary, RawParenthesized, RawBinary, RawLogicalAnd, RawLogicalOr, RawConditional, RawCall, RawTableCall, NoExprs, And, RawSimpleTree, RawDeclareScalar, RawDeclareArray, RawDeclareWith, RawSet, RawSetElement, RawCalling, RawTableCalling, RawStmtTree, RawStmtTrees, RawDo, RawEmpty, RawBlock, RawIf, RawIfElse, RawWhile, RawFor, RawBreak, RawContinue, RawReturn, NoRawStmts, RawThen, RawItemTree, RawGlobal, RawGlobalArray, RawTableItem, RawPrototypeItem, RawFunctionItem}
use Rattle.hoist_parts.specs.Calls.{holds_call, is_spawn}

-- for arguments, whether the first is one
abbrev mutual
  pub IsPlain : RawExprTree → Type 0
  IsPlain (RawNumber v) = Unit {0}
  IsPlain (RawName n) = Unit {0}
  IsPlain (RawElement n i) = IsPlain i
  IsPlain (RawUnary op e) = IsPlain e
  IsPlain (RawParenthesized e) = IsPlain e
  IsPlain (RawBinary op l r) = IsPlain l × IsPlain r
  IsPlain (RawLogicalAnd l r) = IsPlain l × IsPlain r
  IsPlain (RawLogicalOr l r) = IsPlain l × IsPlain r
  IsPlain (RawConditional c a b) = IsPlain c × IsPlain a × IsPlain b
  IsPlain (RawCall n es) = ArePlain (is_spawn n) es
  IsPlain (RawTableCall n i e) = IsPlain i × IsPlain e

  pub ArePlain : Bool → RawExprTrees → Type 0
  ArePlain stays NoExprs = Unit {0}
  ArePlain true (And e es) = (holds_call e ≡ false) × ArePlain false es
  ArePlain false (And e es) = IsPlain e × ArePlain false es

-- ---- of statements; the parts in the parentheses of a `for` stay the same

abbrev pub IsSimplePlain : RawSimpleTree → Type 0
IsSimplePlain (RawDeclareScalar n) = Unit {0}
IsSimplePlain (RawDeclareArray n size) = Unit {0}
IsSimplePlain (RawDeclareWith n v) = IsPlain v
IsSimplePlain (RawSet n v) = IsPlain v
IsSimplePlain (RawSetElement n i v) = IsPlain i × IsPlain v
IsSimplePlain (RawCalling n es) = ArePlain (is_spawn n) es
IsSimplePlain (RawTableCalling n i e) = IsPlain i × IsPlain e

abbrev pub IsOptionPlain : Option RawExprTree → Type 0
IsOptionPlain None = Unit {0}
IsOptionPlain (Some e) = IsPlain e

abbrev mutual
  pub IsStmtPlain : RawStmtTree → Type 0
  IsStmtPlain (RawDo s) = IsSimplePlain s
  IsStmtPlain RawEmpty = Unit {0}
  IsStmtPlain (RawBlock ss) = AreStmtsPlain ss
  IsStmtPlain (RawIf c s) = IsPlain c × IsStmtPlain s
  IsStmtPlain (RawIfElse c s r) = IsPlain c × IsStmtPlain s × IsStmtPlain r
  IsStmtPlain (RawWhile c s) = IsPlain c × IsStmtPlain s
  IsStmtPlain (RawFor init c step s) = IsStmtPlain s
  IsStmtPlain (RawBreak at) = Unit {0}
  IsStmtPlain (RawContinue at) = Unit {0}
  IsStmtPlain (RawReturn at v) = IsOptionPlain v

  pub AreStmtsPlain : RawStmtTrees → Type 0
  AreStmtsPlain NoRawStmts = Unit {0}
  AreStmtsPlain (RawThen s ss) = IsStmtPlain s × AreStmtsPlain ss

-- ---- of items

abbrev pub IsItemPlain : RawItemTree → Type 0
IsItemPlain (RawGlobal n start) = Unit {0}
IsItemPlain (RawGlobalArray n size) = Unit {0}
IsItemPlain (RawTableItem n size members) = Unit {0}
IsItemPlain (RawPrototypeItem gives n params) = Unit {0}
IsItemPlain (RawFunctionItem gives n params body) = AreStmtsPlain body

abbrev pub AreItemsPlain : List RawItemTree → Type 0
AreItemsPlain [] = Unit {0}
AreItemsPlain (i ∷ is) = IsItemPlain i × AreItemsPlain is
