-- The plain trees of a program, as contracts see them: without capacities and addresses.
use Rattle.std.specs.Prelude.{ℕ, Bool, List, Option}
use Rattle.c_tree.specs.declared.operators.BinaryOperator.{BinaryOperator}
use Rattle.c_tree.specs.declared.operators.UnaryOperator.{UnaryOperator}
use Rattle.cap_word.specs.declared.modelled_calls.ModelledCall.{ModelledCall}
use Rattle.c_tree.specs.declared.facts.GlobalFact.{GlobalFact}

-- an expression; operators of one level lean to the left
pub data ExprTree : Type 0 where
  Number : (value : ℕ) → ExprTree
  Local : (x : ℕ) → ExprTree
  Global : (g : ℕ) → ExprTree
  LocalElement : (a : ℕ) (i : ExprTree) → ExprTree
  GlobalElement : (a : ℕ) (i : ExprTree) → ExprTree
  Unary : (op : UnaryOperator) (e : ExprTree) → ExprTree
  Parenthesized : (e : ExprTree) → ExprTree
  Binary : (op : BinaryOperator) (l r : ExprTree) → ExprTree
  LogicalAnd : (l r : ExprTree) → ExprTree
  LogicalOr : (l r : ExprTree) → ExprTree
  Conditional : (c a b : ExprTree) → ExprTree

-- a call, by the number of its site
pub data CallTree : Type 0 where
  CallFunction : (s f : ℕ) (es : List ExprTree) → CallTree
  CallTable : (s t : ℕ) (i e : ExprTree) → CallTree
  CallSpawn : (s f : ℕ) (e : ExprTree) → CallTree
  CallModelled : (s : ℕ) (m : ModelledCall) (es : List ExprTree) → CallTree

-- a right side, or the value of a return
pub data RightTree : Type 0 where
  Computed : (e : ExprTree) → RightTree
  Called : (c : CallTree) → RightTree

-- a declaration of one name, an assignment, or a call
pub data SimpleTree : Type 0 where
  DeclareScalar : (x : ℕ) → SimpleTree
  DeclareArray : (x n : ℕ) → SimpleTree
  DeclareWith : (x : ℕ) (v : RightTree) → SimpleTree
  SetLocal : (x : ℕ) (v : RightTree) → SimpleTree
  SetGlobal : (g : ℕ) (v : RightTree) → SimpleTree
  SetLocalElement : (a : ℕ) (i : ExprTree) (v : RightTree) → SimpleTree
  SetGlobalElement : (a : ℕ) (i : ExprTree) (v : RightTree) → SimpleTree
  Calling : (c : CallTree) → SimpleTree

-- a statement, and statements one after another
mutual
  pub data StmtTree : Type 0 where
    Do : (s : SimpleTree) → StmtTree
    Empty : StmtTree
    Block : (ss : StmtTrees) → StmtTree
    If : (c : ExprTree) (s : StmtTree) → StmtTree
    IfElse : (c : ExprTree) (s r : StmtTree) → StmtTree
    While : (c : ExprTree) (s : StmtTree) → StmtTree
    For : (init : List SimpleTree) (c : Option ExprTree) (step : Option SimpleTree) (s : StmtTree) → StmtTree
    Break : StmtTree
    Continue : StmtTree
    Return : (v : Option RightTree) → StmtTree

  pub data StmtTrees : Type 0 where
    NoStmts : StmtTrees
    Then : (s : StmtTree) (ss : StmtTrees) → StmtTrees

-- a function: name, number of parameters, whether it is an int function, size of each variable in
-- words, body
pub record FunctionTree : Type 0 where
  pub name : List ℕ
  pub params : ℕ
  pub gives : Bool
  pub sizes : List ℕ
  pub body : StmtTrees

-- a program: functions, globals and tables by number, and the number of main
pub record ProgramTree : Type 0 where
  pub functions : List FunctionTree
  pub globals : List GlobalFact
  pub tables : List (List ℕ)
  pub main : ℕ
