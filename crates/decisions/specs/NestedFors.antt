-- The places of the names of the calls in the parentheses of a `for` that aren't whole, in the order of the tree.
use Rattle.std.specs.Prelude.{ℕ, List, [], ◌∷◌, ◌++◌}
use Rattle.c_tree.specs.RawTrees.{RawStmtTree, RawStmtTrees, RawDo, RawEmpty, RawBlock, RawIf, RawIfElse, RawWhile, RawFor, RawBreak, RawContinue, RawReturn, NoRawStmts, RawThen, RawItemTree, RawGlobal, RawGlobalArray, RawTableItem, RawPrototypeItem, RawFunctionItem}
use Rattle.grammar_laws.specs.Nested.{is_call, simples_nested, step_nested}
use Rattle.grammar_laws.specs.Places.{optional_places}

abbrev mutual
  pub for_nested : RawStmtTree → List ℕ
  for_nested (RawDo s) = []
  for_nested RawEmpty = []
  for_nested (RawBlock ss) = fors_nested ss
  for_nested (RawIf c s) = for_nested s
  for_nested (RawIfElse c s r) = for_nested s ++ for_nested r
  for_nested (RawWhile c s) = for_nested s
  for_nested (RawFor init c step s) = simples_nested init ++ (optional_places is_call c ++ (step_nested step ++ for_nested s))
  for_nested (RawBreak at) = []
  for_nested (RawContinue at) = []
  for_nested (RawReturn at v) = []

  pub fors_nested : RawStmtTrees → List ℕ
  fors_nested NoRawStmts = []
  fors_nested (RawThen s ss) = for_nested s ++ fors_nested ss

abbrev pub item_for_nested : RawItemTree → List ℕ
item_for_nested (RawGlobal n start) = []
item_for_nested (RawGlobalArray n size) = []
item_for_nested (RawTableItem n size members) = []
item_for_nested (RawPrototypeItem gives n params) = []
item_for_nested (RawFunctionItem gives n params body) = fors_nested body

abbrev pub items_for_nested : List RawItemTree → List ℕ
items_for_nested [] = []
items_for_nested (i ∷ is) = item_for_nested i ++ items_for_nested is
