-- Well-scopedness has at most one proof, so a program can carry it.
use Rattle.std.specs.Prelude.{ℕ, ◌+◌, Bool, true, List, [], ◌∷◌, Option, Some, None}
use Rattle.std.specs.List.{IsDistinct-prop, AllByRecursion-prop}
use Rattle.std.specs.Coded.{le_prop, Unit-prop, coded_ℕ, coded_list}
use base.Stored.{Coded-set}
use mathlib.Core.Bool.{Bool-set}
use mathlib.Core.HLevel.{×_prop}
use Rattle.c_tree.specs.Trees.{ExprTree, Number, Local, Global, LocalElement, GlobalElement, Unary, Parenthesized, Binary, LogicalAnd, LogicalOr, Conditional, CallTree, CallFunction, CallTable, CallSpawn, CallModelled, RightTree, Computed, Called, SimpleTree, DeclareScalar, DeclareArray, DeclareWith, SetLocal, SetGlobal, SetLocalElement, SetGlobalElement, Calling, StmtTree, StmtTrees, Do, Empty, Block, If, IfElse, While, For, Break, Continue, Return, NoStmts, Then, FunctionTree, ProgramTree}
use Rattle.c_tree.specs.RawTrees.{RawItemTree}
use Rattle.c_tree.specs.RawTemporaries.{AreWithinTemporaries}
use Rattle.c_tree.specs.TextOrder.{simple_names, counting}
use Rattle.c_tree.specs.WellScoped.{Context, IsExprScoped, AreExprsScoped, IsCallScoped, IsRightScoped, IsSimpleScoped, with_names, scope_after, scope_after_all, AreSimplesScoped, IsConditionScoped, IsStepScoped, IsReturnScoped, IsStmtScoped, AreStmtsScoped, IsFunctionScoped, AreFunctionsScoped, IsWellScoped}

numbers_set : IsSet (List ℕ)
numbers_set = Coded-set (coded_list coded_ℕ)

number_set : IsSet ℕ
number_set = Coded-set coded_ℕ

IsExprScoped-prop : (c : Context) (scope : List ℕ) (e : ExprTree) → IsProp (IsExprScoped c scope e)
IsExprScoped-prop c scope (Number v) = hlevel (le_prop)
IsExprScoped-prop c scope (Local x) = hlevel (le_prop, number_set, Bool-set)
IsExprScoped-prop c scope (Global g) = hlevel (le_prop, number_set)
IsExprScoped-prop c scope (LocalElement a i) = hlevel (le_prop, Bool-set, IsExprScoped-prop c scope i)
IsExprScoped-prop c scope (GlobalElement a i) = hlevel (le_prop, IsExprScoped-prop c scope i)
IsExprScoped-prop c scope (Unary op e) = IsExprScoped-prop c scope e
IsExprScoped-prop c scope (Parenthesized e) = IsExprScoped-prop c scope e
IsExprScoped-prop c scope (Binary op l r) = ×_prop (IsExprScoped-prop c scope l) (IsExprScoped-prop c scope r)
IsExprScoped-prop c scope (LogicalAnd l r) = ×_prop (IsExprScoped-prop c scope l) (IsExprScoped-prop c scope r)
IsExprScoped-prop c scope (LogicalOr l r) = ×_prop (IsExprScoped-prop c scope l) (IsExprScoped-prop c scope r)
IsExprScoped-prop c scope (Conditional e a b) = hlevel (IsExprScoped-prop c scope e, IsExprScoped-prop c scope a, IsExprScoped-prop c scope b)

AreExprsScoped-prop : (c : Context) (scope : List ℕ) (es : List ExprTree) → IsProp (AreExprsScoped c scope es)
AreExprsScoped-prop c scope [] = Unit-prop
AreExprsScoped-prop c scope (e ∷ es) = ×_prop (IsExprScoped-prop c scope e) (AreExprsScoped-prop c scope es)

IsCallScoped-prop : (c : Context) (scope : List ℕ) (k : CallTree) → IsProp (IsCallScoped c scope k)
IsCallScoped-prop c scope (CallFunction s f es) = hlevel (le_prop, number_set, AreExprsScoped-prop c scope es)
IsCallScoped-prop c scope (CallTable s t i e) = hlevel (le_prop, IsExprScoped-prop c scope i, IsExprScoped-prop c scope e)
IsCallScoped-prop c scope (CallSpawn s f e) = hlevel (le_prop, number_set, IsExprScoped-prop c scope e)
IsCallScoped-prop c scope (CallModelled s m es) = hlevel (number_set, AreExprsScoped-prop c scope es)

IsRightScoped-prop : (c : Context) (scope : List ℕ) (v : RightTree) → IsProp (IsRightScoped c scope v)
IsRightScoped-prop c scope (Computed e) = IsExprScoped-prop c scope e
IsRightScoped-prop c scope (Called k) = hlevel (Bool-set, IsCallScoped-prop c scope k)

IsSimpleScoped-prop : (c : Context) (scope : List ℕ) (s : SimpleTree) → IsProp (IsSimpleScoped c scope s)
IsSimpleScoped-prop c scope (DeclareScalar x) = hlevel (le_prop, number_set)
IsSimpleScoped-prop c scope (DeclareArray x n) = hlevel (le_prop, number_set)
IsSimpleScoped-prop c scope (DeclareWith x v) = hlevel (le_prop, number_set, IsRightScoped-prop c scope v)
IsSimpleScoped-prop c scope (SetLocal x v) = hlevel (le_prop, number_set, Bool-set, IsRightScoped-prop c scope v)
IsSimpleScoped-prop c scope (SetGlobal g v) = hlevel (le_prop, number_set, IsRightScoped-prop c scope v)
IsSimpleScoped-prop c scope (SetLocalElement a i v) = hlevel (le_prop, Bool-set, IsExprScoped-prop c scope i, IsRightScoped-prop c scope v)
IsSimpleScoped-prop c scope (SetGlobalElement a i v) = hlevel (le_prop, IsExprScoped-prop c scope i, IsRightScoped-prop c scope v)
IsSimpleScoped-prop c scope (Calling k) = IsCallScoped-prop c scope k

AreSimplesScoped-prop : (c : Context) (scope : List ℕ) (ss : List SimpleTree) → IsProp (AreSimplesScoped c scope ss)
AreSimplesScoped-prop c scope [] = Unit-prop
AreSimplesScoped-prop c scope (s ∷ ss) = ×_prop (IsSimpleScoped-prop c scope s) (AreSimplesScoped-prop c (with_names scope (simple_names s)) ss)

IsConditionScoped-prop : (c : Context) (scope : List ℕ) (e : Option ExprTree) → IsProp (IsConditionScoped c scope e)
IsConditionScoped-prop c scope None = Unit-prop
IsConditionScoped-prop c scope (Some e) = IsExprScoped-prop c scope e

IsStepScoped-prop : (c : Context) (scope : List ℕ) (s : Option SimpleTree) → IsProp (IsStepScoped c scope s)
IsStepScoped-prop c scope None = Unit-prop
IsStepScoped-prop c scope (Some s) = hlevel (number_set, IsSimpleScoped-prop c scope s)

IsReturnScoped-prop : (c : Context) (scope : List ℕ) (v : Option RightTree) → IsProp (IsReturnScoped c scope v)
IsReturnScoped-prop c scope None = Bool-set _ _
IsReturnScoped-prop c scope (Some v) = hlevel (Bool-set, IsRightScoped-prop c scope v)

mutual
  IsStmtScoped-prop : (c : Context) (loop : Bool) (scope : List ℕ) (s : StmtTree) → IsProp (IsStmtScoped c loop scope s)
  IsStmtScoped-prop c loop scope (Do s) = IsSimpleScoped-prop c scope s
  IsStmtScoped-prop c loop scope Empty = Unit-prop
  IsStmtScoped-prop c loop scope (Block ss) = AreStmtsScoped-prop c loop scope ss
  IsStmtScoped-prop c loop scope (If e s) = ×_prop (IsExprScoped-prop c scope e) (IsStmtScoped-prop c loop scope s)
  IsStmtScoped-prop c loop scope (IfElse e s r) = hlevel (IsExprScoped-prop c scope e, IsStmtScoped-prop c loop scope s, IsStmtScoped-prop c loop scope r)
  IsStmtScoped-prop c loop scope (While e s) = ×_prop (IsExprScoped-prop c scope e) (IsStmtScoped-prop c true scope s)
  IsStmtScoped-prop c loop scope (For init e step s) = hlevel (AreSimplesScoped-prop c scope init, IsConditionScoped-prop c (scope_after_all scope init) e, IsStepScoped-prop c (scope_after_all scope init) step, IsStmtScoped-prop c true (scope_after_all scope init) s)
  IsStmtScoped-prop c loop scope Break = hlevel Bool-set
  IsStmtScoped-prop c loop scope Continue = hlevel Bool-set
  IsStmtScoped-prop c loop scope (Return v) = IsReturnScoped-prop c scope v

  AreStmtsScoped-prop : (c : Context) (loop : Bool) (scope : List ℕ) (ss : StmtTrees) → IsProp (AreStmtsScoped c loop scope ss)
  AreStmtsScoped-prop c loop scope NoStmts = Unit-prop
  AreStmtsScoped-prop c loop scope (Then s ss) = ×_prop (IsStmtScoped-prop c loop scope s) (AreStmtsScoped-prop c loop (scope_after scope s) ss)

counting-prop : (k : ℕ) (ns : List ℕ) → IsProp (counting k ns)
counting-prop k [] = Unit-prop
counting-prop k (n ∷ ns) = ×_prop (number_set _ _) (counting-prop (1 + k) ns)

IsFunctionScoped-prop : (p : ProgramTree) (f : FunctionTree) → IsProp (IsFunctionScoped p f)
IsFunctionScoped-prop p f = hlevel (le_prop, numbers_set, counting-prop, AreStmtsScoped-prop)

AreFunctionsScoped-prop : (p : ProgramTree) (fs : List FunctionTree) → IsProp (AreFunctionsScoped p fs)
AreFunctionsScoped-prop p [] = Unit-prop
AreFunctionsScoped-prop p (f ∷ fs) = ×_prop (IsFunctionScoped-prop p f) (AreFunctionsScoped-prop p fs)

pub IsWellScoped-prop : (p : ProgramTree) → IsProp (IsWellScoped p)
IsWellScoped-prop p = hlevel (le_prop, number_set, Bool-set, IsDistinct-prop, AllByRecursion-prop, AreFunctionsScoped-prop)

pub AreWithinTemporaries-prop : (is : List RawItemTree) → IsProp (AreWithinTemporaries is)
AreWithinTemporaries-prop [] = Unit-prop
AreWithinTemporaries-prop (i ∷ is) = ×_prop le_prop (AreWithinTemporaries-prop is)
