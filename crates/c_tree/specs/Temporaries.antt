-- The number of temporaries in the flat code of a tree.
use Rattle.std.specs.Prelude.{ℕ, ◌+◌, max, min, List, [], ◌∷◌, Option, Some, None, if◌then◌else◌}
use Rattle.c_tree.specs.declared.operators.Infix.{Infix}
use Rattle.c_tree.specs.Trees.{ExprTree, Number, Local, Global, LocalElement, GlobalElement, Unary, Parenthesized, Binary, LogicalAnd, LogicalOr, Conditional, CallTree, CallFunction, CallTable, CallSpawn, CallModelled, RightTree, Computed, Called, SimpleTree, DeclareScalar, DeclareArray, DeclareWith, SetLocal, SetGlobal, SetLocalElement, SetGlobalElement, Calling, StmtTree, StmtTrees, Do, Empty, Block, If, IfElse, While, For, Break, Continue, Return, NoStmts, Then, FunctionTree}

-- an operand after its operator, if it needs n by itself
abbrev pub operand_temporaries : Infix → ℕ → ℕ
operand_temporaries (Infix.Binary op) n = 1 + n
operand_temporaries Infix.LogicalAnd n = n
operand_temporaries Infix.LogicalOr n = n

-- an expression, counted from the temporary of its value: the right operand is in the next one
abbrev pub expr_temporaries : ExprTree → ℕ
expr_temporaries (Number n) = 1
expr_temporaries (Local x) = 1
expr_temporaries (Global g) = 1
expr_temporaries (LocalElement a i) = expr_temporaries i
expr_temporaries (GlobalElement a i) = expr_temporaries i
expr_temporaries (Unary op e) = expr_temporaries e
expr_temporaries (Parenthesized e) = expr_temporaries e
expr_temporaries (Binary op l r) = max (expr_temporaries l) (1 + expr_temporaries r)
expr_temporaries (LogicalAnd l r) = max (expr_temporaries l) (expr_temporaries r)
expr_temporaries (LogicalOr l r) = max (expr_temporaries l) (expr_temporaries r)
expr_temporaries (Conditional c a b) = max (expr_temporaries c) (max (expr_temporaries a) (expr_temporaries b))

-- arguments, the first of which is k temporaries further on
abbrev pub arguments_temporaries : ℕ → List ExprTree → ℕ
arguments_temporaries k [] = 0
arguments_temporaries k (e ∷ es) = max (k + expr_temporaries e) (arguments_temporaries (1 + k) es)

-- a call's index and arguments, counted from the temporary of the first of them
abbrev pub call_temporaries : CallTree → ℕ
call_temporaries (CallFunction s f es) = arguments_temporaries 0 es
call_temporaries (CallTable s t i e) = max (expr_temporaries i) (1 + expr_temporaries e)
call_temporaries (CallSpawn s f e) = expr_temporaries e
call_temporaries (CallModelled s m es) = arguments_temporaries 0 es

-- a right side that is computed directly into a variable
abbrev pub right_temporaries : RightTree → ℕ
right_temporaries (Computed e) = expr_temporaries e
right_temporaries (Called c) = call_temporaries c

-- a right side that is computed into a temporary first
abbrev pub held_temporaries : RightTree → ℕ
held_temporaries (Computed e) = expr_temporaries e
held_temporaries (Called c) = max 1 (call_temporaries c)

abbrev pub simple_temporaries : SimpleTree → ℕ
simple_temporaries (DeclareScalar x) = 0
simple_temporaries (DeclareArray x n) = 0
simple_temporaries (DeclareWith x v) = right_temporaries v
simple_temporaries (SetLocal x v) = right_temporaries v
simple_temporaries (SetGlobal g v) = held_temporaries v
simple_temporaries (SetLocalElement a i v) = max (expr_temporaries i) (1 + held_temporaries v)
simple_temporaries (SetGlobalElement a i v) = max (expr_temporaries i) (1 + held_temporaries v)
simple_temporaries (Calling c) = call_temporaries c

abbrev pub simples_temporaries : List SimpleTree → ℕ
simples_temporaries [] = 0
simples_temporaries (s ∷ ss) = max (simple_temporaries s) (simples_temporaries ss)

-- an absent condition needs none
abbrev pub condition_temporaries : Option ExprTree → ℕ
condition_temporaries None = 0
condition_temporaries (Some e) = expr_temporaries e

abbrev pub step_temporaries : Option SimpleTree → ℕ
step_temporaries None = 0
step_temporaries (Some s) = simple_temporaries s

abbrev pub returned_temporaries : Option RightTree → ℕ
returned_temporaries None = 0
returned_temporaries (Some v) = held_temporaries v

-- the maximum number for a statement or one in it
abbrev mutual
  pub stmt_temporaries : StmtTree → ℕ
  stmt_temporaries (Do s) = simple_temporaries s
  stmt_temporaries Empty = 0
  stmt_temporaries (Block ss) = stmts_temporaries ss
  stmt_temporaries (If c s) = max (expr_temporaries c) (stmt_temporaries s)
  stmt_temporaries (IfElse c s r) = max (expr_temporaries c) (max (stmt_temporaries s) (stmt_temporaries r))
  stmt_temporaries (While c s) = max (expr_temporaries c) (stmt_temporaries s)
  stmt_temporaries (For init c step s) = max (simples_temporaries init) (max (condition_temporaries c) (max (step_temporaries step) (stmt_temporaries s)))
  stmt_temporaries Break = 0
  stmt_temporaries Continue = 0
  stmt_temporaries (Return v) = returned_temporaries v

  pub stmts_temporaries : StmtTrees → ℕ
  stmts_temporaries NoStmts = 0
  stmts_temporaries (Then s ss) = max (stmt_temporaries s) (stmts_temporaries ss)

-- a function: the temporaries of its body, and one for the 0 that an int function returns at its
-- end
abbrev pub function_temporaries : FunctionTree → ℕ
function_temporaries f = max (if f.gives then 1 else 0) (stmts_temporaries f.body)

-- a count, exact up to the limit, and 65,537 above it
abbrev pub capped : ℕ → ℕ
capped n = min n 65537
