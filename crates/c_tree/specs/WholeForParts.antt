-- Whether each call in the three parts in the parentheses of a `for` is whole.
use Rattle.std.specs.Prelude.{List, [], ◌∷◌}
use Rattle.c_tree.specs.RawTrees.{RawStmtTree, RawStmtTrees, RawDo, RawEmpty, RawBlock, RawIf, RawIfElse, RawWhile, RawFor, RawBreak, RawContinue, RawReturn, NoRawStmts, RawThen, RawItemTree, RawGlobal, RawGlobalArray, RawTableItem, RawPrototypeItem, RawFunctionItem}
use Rattle.c_tree.specs.WholeCalls.{AreSimplesWhole, IsConditionWhole, IsStepWhole}

abbrev mutual
  pub IsForWhole : RawStmtTree → Type 0
  IsForWhole (RawDo s) = Unit {0}
  IsForWhole RawEmpty = Unit {0}
  IsForWhole (RawBlock ss) = AreForsWhole ss
  IsForWhole (RawIf c s) = IsForWhole s
  IsForWhole (RawIfElse c s r) = IsForWhole s × IsForWhole r
  IsForWhole (RawWhile c s) = IsForWhole s
  IsForWhole (RawFor init c step s) = AreSimplesWhole init × IsConditionWhole c × IsStepWhole step × IsForWhole s
  IsForWhole (RawBreak at) = Unit {0}
  IsForWhole (RawContinue at) = Unit {0}
  IsForWhole (RawReturn at v) = Unit {0}

  pub AreForsWhole : RawStmtTrees → Type 0
  AreForsWhole NoRawStmts = Unit {0}
  AreForsWhole (RawThen s ss) = IsForWhole s × AreForsWhole ss

abbrev pub IsItemForWhole : RawItemTree → Type 0
IsItemForWhole (RawGlobal n start) = Unit {0}
IsItemForWhole (RawGlobalArray n size) = Unit {0}
IsItemForWhole (RawTableItem n size members) = Unit {0}
IsItemForWhole (RawPrototypeItem gives n params) = Unit {0}
IsItemForWhole (RawFunctionItem gives n params body) = AreForsWhole body

-- every call in the parentheses of a `for` is whole
abbrev pub AreForPartsWhole : List RawItemTree → Type 0
AreForPartsWhole [] = Unit {0}
AreForPartsWhole (i ∷ is) = IsItemForWhole i × AreForPartsWhole is
