-- The plain trees of a source as it is read: names with their places, without capacities and
-- addresses.
use Rattle.std.specs.Prelude.{ℕ, Bool, List, Option}
use Rattle.c_tree.specs.declared.operators.BinaryOperator.{BinaryOperator}
use Rattle.c_tree.specs.declared.operators.UnaryOperator.{UnaryOperator}

-- a name: the place of its first byte, and its bytes
pub record NameTree : Type 0 where
  pub at : ℕ
  pub text : List ℕ

-- an expression, which may have calls anywhere; operators of one level lean to the left
mutual
  pub data RawExprTree : Type 0 where
    RawNumber : (value : ℕ) → RawExprTree
    RawName : (n : NameTree) → RawExprTree
    RawElement : (n : NameTree) (i : RawExprTree) → RawExprTree
    RawUnary : (op : UnaryOperator) (e : RawExprTree) → RawExprTree
    RawParenthesized : (e : RawExprTree) → RawExprTree
    RawBinary : (op : BinaryOperator) (l r : RawExprTree) → RawExprTree
    RawLogicalAnd : (l r : RawExprTree) → RawExprTree
    RawLogicalOr : (l r : RawExprTree) → RawExprTree
    RawConditional : (c a b : RawExprTree) → RawExprTree
    RawCall : (n : NameTree) (es : RawExprTrees) → RawExprTree
    RawTableCall : (n : NameTree) (i e : RawExprTree) → RawExprTree

  pub data RawExprTrees : Type 0 where
    NoExprs : RawExprTrees
    And : (e : RawExprTree) (es : RawExprTrees) → RawExprTrees

-- a declaration of one name, an assignment, or a call
pub data RawSimpleTree : Type 0 where
  RawDeclareScalar : (n : NameTree) → RawSimpleTree
  RawDeclareArray : (n : NameTree) (size : ℕ) → RawSimpleTree
  RawDeclareWith : (n : NameTree) (v : RawExprTree) → RawSimpleTree
  RawSet : (n : NameTree) (v : RawExprTree) → RawSimpleTree
  RawSetElement : (n : NameTree) (i v : RawExprTree) → RawSimpleTree
  RawCalling : (n : NameTree) (es : RawExprTrees) → RawSimpleTree
  RawTableCalling : (n : NameTree) (i e : RawExprTree) → RawSimpleTree

-- a statement, and statements one after another
mutual
  pub data RawStmtTree : Type 0 where
    RawDo : (s : RawSimpleTree) → RawStmtTree
    RawEmpty : RawStmtTree
    RawBlock : (ss : RawStmtTrees) → RawStmtTree
    RawIf : (c : RawExprTree) (s : RawStmtTree) → RawStmtTree
    RawIfElse : (c : RawExprTree) (s r : RawStmtTree) → RawStmtTree
    RawWhile : (c : RawExprTree) (s : RawStmtTree) → RawStmtTree
    RawFor : (init : List RawSimpleTree) (c : Option RawExprTree) (step : Option RawSimpleTree) (s : RawStmtTree) → RawStmtTree
    RawBreak : (at : ℕ) → RawStmtTree
    RawContinue : (at : ℕ) → RawStmtTree
    RawReturn : (at : ℕ) (v : Option RawExprTree) → RawStmtTree

  pub data RawStmtTrees : Type 0 where
    NoRawStmts : RawStmtTrees
    RawThen : (s : RawStmtTree) (ss : RawStmtTrees) → RawStmtTrees

-- one declaration or definition outside functions
pub data RawItemTree : Type 0 where
  RawGlobal : (n : NameTree) (start : ℕ) → RawItemTree
  RawGlobalArray : (n : NameTree) (size : ℕ) → RawItemTree
  RawTableItem : (n : NameTree) (size : ℕ) (members : List NameTree) → RawItemTree
  RawPrototypeItem : (gives : Bool) (n : NameTree) (params : List (Option NameTree)) → RawItemTree
  RawFunctionItem : (gives : Bool) (n : NameTree) (params : List NameTree) (body : RawStmtTrees) → RawItemTree
