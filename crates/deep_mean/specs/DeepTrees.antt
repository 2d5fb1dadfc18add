-- The plain trees of a program as in its text, with numbers in place of names: an expression may have calls anywhere.
use Rattle.std.specs.Prelude.{ℕ, List, Option}
use Rattle.c_tree.specs.declared.operators.BinaryOperator.{BinaryOperator}
use Rattle.c_tree.specs.declared.operators.UnaryOperator.{UnaryOperator}
use Rattle.cap_word.specs.declared.modelled_calls.ModelledCall.{ModelledCall}
use Rattle.c_tree.specs.declared.facts.GlobalFact.{GlobalFact}

-- a callee: a function, a modelled call, or the start of a thread that runs a function
pub data Callee : Type 0 where
  Function : (f : ℕ) → Callee
  Modelled : (m : ModelledCall) → Callee
  Spawned : (f : ℕ) → Callee

-- an expression, and a list of arguments; a call has the number of its site
mutual
  pub data DeepExpr : Type 0 where
    Number : (value : ℕ) → DeepExpr
    Local : (x : ℕ) → DeepExpr
    Global : (g : ℕ) → DeepExpr
    LocalElement : (a : ℕ) (i : DeepExpr) → DeepExpr
    GlobalElement : (a : ℕ) (i : DeepExpr) → DeepExpr
    Unary : (op : UnaryOperator) (e : DeepExpr) → DeepExpr
    Parenthesized : (e : DeepExpr) → DeepExpr
    Binary : (op : BinaryOperator) (l r : DeepExpr) → DeepExpr
    LogicalAnd : (l r : DeepExpr) → DeepExpr
    LogicalOr : (l r : DeepExpr) → DeepExpr
    Conditional : (c a b : DeepExpr) → DeepExpr
    Call : (s : ℕ) (callee : Callee) (es : DeepExprs) → DeepExpr
    TableCall : (s t : ℕ) (i e : DeepExpr) → DeepExpr

  pub data DeepExprs : Type 0 where
    NoExprs : DeepExprs
    And : (e : DeepExpr) (es : DeepExprs) → DeepExprs

-- a declaration of one name, an assignment, or a call
pub data DeepSimple : Type 0 where
  DeclareScalar : (x : ℕ) → DeepSimple
  DeclareArray : (x n : ℕ) → DeepSimple
  DeclareWith : (x : ℕ) (v : DeepExpr) → DeepSimple
  SetLocal : (x : ℕ) (v : DeepExpr) → DeepSimple
  SetGlobal : (g : ℕ) (v : DeepExpr) → DeepSimple
  SetLocalElement : (a : ℕ) (i v : DeepExpr) → DeepSimple
  SetGlobalElement : (a : ℕ) (i v : DeepExpr) → DeepSimple
  Calling : (call : DeepExpr) → DeepSimple

mutual
  pub data DeepStmt : Type 0 where
    Do : (s : DeepSimple) → DeepStmt
    Empty : DeepStmt
    Block : (ss : DeepStmts) → DeepStmt
    If : (c : DeepExpr) (s : DeepStmt) → DeepStmt
    IfElse : (c : DeepExpr) (s r : DeepStmt) → DeepStmt
    While : (c : DeepExpr) (s : DeepStmt) → DeepStmt
    For : (init : List DeepSimple) (c : Option DeepExpr) (step : Option DeepSimple) (s : DeepStmt) → DeepStmt
    Break : DeepStmt
    Continue : DeepStmt
    Return : (v : Option DeepExpr) → DeepStmt

  pub data DeepStmts : Type 0 where
    NoStmts : DeepStmts
    Then : (s : DeepStmt) (ss : DeepStmts) → DeepStmts

-- a function: number of parameters, sizes of its variables in words, body
pub record DeepFunction : Type 0 where
  pub params : ℕ
  pub sizes : List ℕ
  pub body : DeepStmts

pub record DeepProgram : Type 0 where
  pub functions : List DeepFunction
  pub globals : List GlobalFact
  pub tables : List (List ℕ)
  pub main : ℕ
