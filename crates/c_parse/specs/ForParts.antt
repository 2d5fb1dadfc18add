-- The first nested call in the three parts in the parentheses of a `for`, in the order of the text.
use Rattle.std.specs.Prelude.{ℕ, List, [], ◌∷◌, Option, None}
use Rattle.c_tree.specs.RawTrees.{RawStmtTree, RawStmtTrees, RawDo, RawEmpty, RawBlock, RawIf, RawIfElse, RawWhile, RawFor, RawBreak, RawContinue, RawReturn, NoRawStmts, RawThen, RawItemTree, RawGlobal, RawGlobalArray, RawTableItem, RawPrototypeItem, RawFunctionItem}
use Rattle.c_parse.specs.NestedCalls.{earlier, nested_in_simples, nested_in_condition, nested_in_step}

abbrev mutual
  pub nested_in_for : RawStmtTree → Option ℕ
  nested_in_for (RawDo s) = None
  nested_in_for RawEmpty = None
  nested_in_for (RawBlock ss) = nested_in_all_for ss
  nested_in_for (RawIf c s) = nested_in_for s
  nested_in_for (RawIfElse c s r) = earlier (nested_in_for s) (nested_in_for r)
  nested_in_for (RawWhile c s) = nested_in_for s
  nested_in_for (RawFor init c step s) = earlier (nested_in_simples init) (earlier (nested_in_condition c) (earlier (nested_in_step step) (nested_in_for s)))
  nested_in_for (RawBreak at) = None
  nested_in_for (RawContinue at) = None
  nested_in_for (RawReturn at v) = None

  pub nested_in_all_for : RawStmtTrees → Option ℕ
  nested_in_all_for NoRawStmts = None
  nested_in_all_for (RawThen s ss) = earlier (nested_in_for s) (nested_in_all_for ss)

abbrev pub nested_in_item_for : RawItemTree → Option ℕ
nested_in_item_for (RawGlobal n start) = None
nested_in_item_for (RawGlobalArray n size) = None
nested_in_item_for (RawTableItem n size members) = None
nested_in_item_for (RawPrototypeItem gives n params) = None
nested_in_item_for (RawFunctionItem gives n params body) = nested_in_all_for body

-- the place of the name of the first nested call in the parentheses of a `for`
abbrev pub nested_in_fors : List RawItemTree → Option ℕ
nested_in_fors [] = None
nested_in_fors (i ∷ is) = earlier (nested_in_item_for i) (nested_in_fors is)
