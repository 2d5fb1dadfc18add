-- The plain trees of the code's types.
use Rattle.std.specs.Prelude.{ℕ, List, [], ◌∷◌, map, option_map}
use Rattle.c_tree.specs.Trees.{ExprTree, Number, Local, Global, LocalElement, GlobalElement, Unary, Parenthesized, Binary, LogicalAnd, LogicalOr, Conditional, CallTree, CallFunction, CallTable, CallSpawn, CallModelled, RightTree, Computed, Called, SimpleTree, DeclareScalar, DeclareArray, DeclareWith, SetLocal, SetGlobal, SetLocalElement, SetGlobalElement, Calling, StmtTree, StmtTrees, Do, Empty, Block, If, IfElse, While, For, Break, Continue, Return, NoStmts, Then, FunctionTree}
use Rattle.c_tree.specs.declared.operators.Infix.{Infix}
use Rattle.c_tree.specs.declared.expressions.Expr.{Expr}
use Rattle.c_tree.specs.declared.expressions.Expr.TheOpen.{Expr-F}
use Rattle.c_tree.specs.declared.expressions.Expr.TheFolds.{fold-Expr}
use Rattle.c_tree.specs.declared.statements.Call.{Call}
use Rattle.c_tree.specs.declared.statements.RightSide.{RightSide}
use Rattle.c_tree.specs.declared.statements.Simple.{Simple}
use Rattle.c_tree.specs.declared.statements.Stmt.{Stmt}
use Rattle.c_tree.specs.declared.statements.Stmt.TheOpen.{Stmt-F}
use Rattle.c_tree.specs.declared.statements.Stmt.TheFolds.{fold-Stmt}
use Rattle.c_tree.specs.declared.facts.Function.{Function}
use Rattle.c_tree.specs.declared.facts.TableFact.{TableFact}

-- two operands joined by an operator
abbrev pub joined : ExprTree → Infix → ExprTree → ExprTree
joined l (Infix.Binary op) r = Binary op l r
joined l Infix.LogicalAnd r = LogicalAnd l r
joined l Infix.LogicalOr r = LogicalOr l r

-- a chain of operators, which leans to the left
abbrev pub chained : ExprTree → List (Infix × ExprTree) → ExprTree
chained l [] = l
chained l (p ∷ ps) = chained (joined l p.0 p.1) ps

-- one level of an expression, given the trees of its parts
abbrev pub expr_step : Expr-F ExprTree → ExprTree
expr_step (Expr-F.Number n) = Number n
expr_step (Expr-F.Local x) = Local x
expr_step (Expr-F.Global g) = Global g
expr_step (Expr-F.LocalElement a i) = LocalElement a i.value
expr_step (Expr-F.GlobalElement a i) = GlobalElement a i.value
expr_step (Expr-F.Unary op e) = Unary op e.value
expr_step (Expr-F.Parenthesized e) = Parenthesized e.value
expr_step (Expr-F.Chain first rest) = chained first.value rest.items
expr_step (Expr-F.Conditional c a b) = Conditional c.value a.value b.value

abbrev pub expr_tree : Expr → ExprTree
expr_tree = fold-Expr ExprTree expr_step

abbrev pub call_tree : Call → CallTree
call_tree (Call.Function s f es) = CallFunction s f (map expr_tree es.items)
call_tree (Call.Table s t i e) = CallTable s t (expr_tree i.value) (expr_tree e.value)
call_tree (Call.Spawn s f e) = CallSpawn s f (expr_tree e.value)
call_tree (Call.Modelled s m es) = CallModelled s m (map expr_tree es.items)

abbrev pub right_tree : RightSide → RightTree
right_tree (RightSide.Expr e) = Computed (expr_tree e)
right_tree (RightSide.Call c) = Called (call_tree c)

abbrev pub simple_tree : Simple → SimpleTree
simple_tree (Simple.DeclareScalar x) = DeclareScalar x
simple_tree (Simple.DeclareArray x n) = DeclareArray x n
simple_tree (Simple.DeclareWith x v) = DeclareWith x (right_tree v)
simple_tree (Simple.SetLocal x v) = SetLocal x (right_tree v)
simple_tree (Simple.SetGlobal g v) = SetGlobal g (right_tree v)
simple_tree (Simple.SetLocalElement a i v) = SetLocalElement a (expr_tree i.value) (right_tree v.value)
simple_tree (Simple.SetGlobalElement a i v) = SetGlobalElement a (expr_tree i.value) (right_tree v.value)
simple_tree (Simple.Call c) = Calling (call_tree c)

-- a list of statements as a tree of statements
abbrev pub in_order : List StmtTree → StmtTrees
in_order [] = NoStmts
in_order (s ∷ ss) = Then s (in_order ss)

-- one level of a statement, given the trees of the statements in it
abbrev pub stmt_step : Stmt-F StmtTree → StmtTree
stmt_step (Stmt-F.Simple s) = Do (simple_tree s)
stmt_step Stmt-F.Empty = Empty
stmt_step (Stmt-F.Block ss) = Block (in_order ss.items)
stmt_step (Stmt-F.If c s) = If (expr_tree c) s.value
stmt_step (Stmt-F.IfElse c s r) = IfElse (expr_tree c) s.value r.value
stmt_step (Stmt-F.While c s) = While (expr_tree c) s.value
stmt_step (Stmt-F.For parts s) = For (map simple_tree parts.value.init.items) (option_map expr_tree parts.value.condition) (option_map simple_tree parts.value.step) s.value
stmt_step Stmt-F.Break = Break
stmt_step Stmt-F.Continue = Continue
stmt_step (Stmt-F.Return v) = Return (option_map right_tree v)

abbrev pub stmt_tree : Stmt → StmtTree
stmt_tree = fold-Stmt StmtTree stmt_step

abbrev pub stmt_trees : List Stmt → StmtTrees
stmt_trees ss = in_order (map stmt_tree ss)

abbrev pub function_tree : Function → FunctionTree
function_tree f = record { name = f.name.items; params = f.params; gives = f.gives; sizes = f.sizes.items; body = stmt_trees f.body.items }

abbrev pub table_row : TableFact → List ℕ
table_row t = t.members.items
