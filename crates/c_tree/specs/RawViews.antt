-- The plain trees of the code's types, for a source as it is read.
use Rattle.std.specs.Prelude.{List, [], ◌∷◌, map, option_map}
use Rattle.c_tree.specs.RawTrees.{NameTree, RawExprTree, RawExprTrees, RawNumber, RawName, RawElement, RawUnary, RawParenthesized, RawBinary, RawLogicalAnd, RawLogicalOr, RawConditional, RawCall, RawTableCall, NoExprs, And, RawSimpleTree, RawDeclareScalar, RawDeclareArray, RawDeclareWith, RawSet, RawSetElement, RawCalling, RawTableCalling, RawStmtTree, RawStmtTrees, RawDo, RawEmpty, RawBlock, RawIf, RawIfElse, RawWhile, RawFor, RawBreak, RawContinue, RawReturn, NoRawStmts, RawThen, RawItemTree, RawGlobal, RawGlobalArray, RawTableItem, RawPrototypeItem, RawFunctionItem}
use Rattle.c_tree.specs.declared.operators.Infix.{Infix}
use Rattle.c_tree.specs.declared.raw_expressions.Name.{Name}
use Rattle.c_tree.specs.declared.raw_expressions.RawExpr.{RawExpr}
use Rattle.c_tree.specs.declared.raw_expressions.RawExpr.TheOpen.{RawExpr-F}
use Rattle.c_tree.specs.declared.raw_expressions.RawExpr.TheFolds.{fold-RawExpr}
use Rattle.c_tree.specs.declared.raw_statements.RawSimple.{RawSimple}
use Rattle.c_tree.specs.declared.raw_statements.RawStmt.{RawStmt}
use Rattle.c_tree.specs.declared.raw_statements.RawStmt.TheOpen.{RawStmt-F}
use Rattle.c_tree.specs.declared.raw_statements.RawStmt.TheFolds.{fold-RawStmt}
use Rattle.c_tree.specs.declared.raw_items.RawItem.{RawItem}

abbrev pub name_tree : Name → NameTree
name_tree n = record { at = n.at; text = n.text.items }

-- two operands joined by an operator
abbrev pub raw_joined : RawExprTree → Infix → RawExprTree → RawExprTree
raw_joined l (Infix.Binary op) r = RawBinary op l r
raw_joined l Infix.LogicalAnd r = RawLogicalAnd l r
raw_joined l Infix.LogicalOr r = RawLogicalOr l r

-- a chain of operators, which leans to the left
abbrev pub raw_chained : RawExprTree → List (Infix × RawExprTree) → RawExprTree
raw_chained l [] = l
raw_chained l (p ∷ ps) = raw_chained (raw_joined l p.0 p.1) ps

-- a list of expressions as arguments
abbrev pub raw_arguments : List RawExprTree → RawExprTrees
raw_arguments [] = NoExprs
raw_arguments (e ∷ es) = And e (raw_arguments es)

-- one level of an expression, given the trees of its parts
abbrev pub raw_expr_step : RawExpr-F RawExprTree → RawExprTree
raw_expr_step (RawExpr-F.Number n) = RawNumber n
raw_expr_step (RawExpr-F.Name n) = RawName (name_tree n)
raw_expr_step (RawExpr-F.Element n i) = RawElement (name_tree n) i.value
raw_expr_step (RawExpr-F.Unary op e) = RawUnary op e.value
raw_expr_step (RawExpr-F.Parenthesized e) = RawParenthesized e.value
raw_expr_step (RawExpr-F.Chain first rest) = raw_chained first.value rest.items
raw_expr_step (RawExpr-F.Conditional c a b) = RawConditional c.value a.value b.value
raw_expr_step (RawExpr-F.Call n es) = RawCall (name_tree n) (raw_arguments es.items)
raw_expr_step (RawExpr-F.TableCall n i e) = RawTableCall (name_tree n) i.value e.value

abbrev pub raw_expr_tree : RawExpr → RawExprTree
raw_expr_tree = fold-RawExpr RawExprTree raw_expr_step

abbrev pub raw_expr_trees : List RawExpr → RawExprTrees
raw_expr_trees es = raw_arguments (map raw_expr_tree es)

abbrev pub raw_simple_tree : RawSimple → RawSimpleTree
raw_simple_tree (RawSimple.DeclareScalar n) = RawDeclareScalar (name_tree n)
raw_simple_tree (RawSimple.DeclareArray n size) = RawDeclareArray (name_tree n) size
raw_simple_tree (RawSimple.DeclareWith n v) = RawDeclareWith (name_tree n) (raw_expr_tree v)
raw_simple_tree (RawSimple.Set n v) = RawSet (name_tree n) (raw_expr_tree v)
raw_simple_tree (RawSimple.SetElement n i v) = RawSetElement (name_tree n) (raw_expr_tree i.value) (raw_expr_tree v)
raw_simple_tree (RawSimple.Call n es) = RawCalling (name_tree n) (raw_expr_trees es.items)
raw_simple_tree (RawSimple.TableCall n i e) = RawTableCalling (name_tree n) (raw_expr_tree i.value) (raw_expr_tree e.value)

-- a list of statements as a tree of statements
abbrev pub raw_in_order : List RawStmtTree → RawStmtTrees
raw_in_order [] = NoRawStmts
raw_in_order (s ∷ ss) = RawThen s (raw_in_order ss)

-- statements as a body: a block, unless there is exactly one
abbrev pub as_body : List RawStmtTree → RawStmtTree
as_body [] = RawEmpty
as_body (s ∷ []) = s
as_body (s ∷ t ∷ ss) = RawBlock (raw_in_order (s ∷ t ∷ ss))

-- one level of a statement, given the trees of the statements in it
abbrev pub raw_stmt_step : RawStmt-F RawStmtTree → RawStmtTree
raw_stmt_step (RawStmt-F.Simple s) = RawDo (raw_simple_tree s)
raw_stmt_step RawStmt-F.Empty = RawEmpty
raw_stmt_step (RawStmt-F.Block ss) = RawBlock (raw_in_order ss.items)
raw_stmt_step (RawStmt-F.If c s) = RawIf (raw_expr_tree c) s.value
raw_stmt_step (RawStmt-F.IfElse c s r) = RawIfElse (raw_expr_tree c) s.value r.value
raw_stmt_step (RawStmt-F.While c s) = RawWhile (raw_expr_tree c) s.value
raw_stmt_step (RawStmt-F.For parts s) = RawFor (map raw_simple_tree parts.value.init.items) (option_map raw_expr_tree parts.value.condition) (option_map raw_simple_tree parts.value.step) s.value
raw_stmt_step (RawStmt-F.Break at) = RawBreak at
raw_stmt_step (RawStmt-F.Continue at) = RawContinue at
raw_stmt_step (RawStmt-F.Return at v) = RawReturn at (option_map raw_expr_tree v)

abbrev pub raw_stmt_tree : RawStmt → RawStmtTree
raw_stmt_tree = fold-RawStmt RawStmtTree raw_stmt_step

abbrev pub raw_stmt_trees : List RawStmt → RawStmtTrees
raw_stmt_trees ss = raw_in_order (map raw_stmt_tree ss)

abbrev pub raw_item_tree : RawItem → RawItemTree
raw_item_tree (RawItem.Global n start) = RawGlobal (name_tree n) start
raw_item_tree (RawItem.GlobalArray n size) = RawGlobalArray (name_tree n) size
raw_item_tree (RawItem.Table t) = RawTableItem (name_tree t.name) t.size (map name_tree t.members.items)
raw_item_tree (RawItem.Prototype p) = RawPrototypeItem p.gives (name_tree p.name) (map (option_map name_tree) p.params.items)
raw_item_tree (RawItem.Function f) = RawFunctionItem f.gives (name_tree f.name) (map name_tree f.params.items) (raw_stmt_trees f.body.items)

abbrev pub raw_item_trees : List RawItem → List RawItemTree
raw_item_trees is = map raw_item_tree is
