-- Where every call of a source is whole, each in the parentheses of a `for` is whole too.
use Rattle.c_tree.proofs.Common.{List, [], ◌∷◌, RawStmtTree, RawStmtTrees, RawBlock, RawIf, RawIfElse, RawWhile, RawFor, NoRawStmts, RawThen, RawItemTree, RawFunctionItem}
use Rattle.c_tree.specs.WholeCalls.{IsStmtWhole, AreStmtsWhole, IsItemWhole, AreCallsWhole}
use Rattle.c_tree.specs.WholeForParts.{IsForWhole, AreForsWhole, IsItemForWhole, AreForPartsWhole}

mutual
  stmt_for : (s : RawStmtTree) → IsStmtWhole s → IsForWhole s
  stmt_for (RawBlock ss) h = stmts_for ss h
  stmt_for (RawIf c s) h = stmt_for s h.1
  stmt_for (RawIfElse c s r) h = (stmt_for s h.1, stmt_for r h.2)
  stmt_for (RawWhile c s) h = stmt_for s h.1
  stmt_for (RawFor init c step s) h = (h.0, h.1, h.2, stmt_for s h.3)
  stmt_for _ h = tt

  stmts_for : (ss : RawStmtTrees) → AreStmtsWhole ss → AreForsWhole ss
  stmts_for NoRawStmts h = tt
  stmts_for (RawThen s ss) h = (stmt_for s h.0, stmts_for ss h.1)

item_for : (i : RawItemTree) → IsItemWhole i → IsItemForWhole i
item_for (RawFunctionItem gives n params body) h = stmts_for body h
item_for _ h = tt

pub parts_whole : (is : List RawItemTree) → AreCallsWhole is → AreForPartsWhole is
parts_whole [] h = tt
parts_whole (i ∷ is) h = (item_for i h.0, parts_whole is h.1)
