-- The operations of statements (ISO/IEC 9899:2018, 6.8, as three-address code).
use Rattle.std.specs.Prelude.{ℕ, ◌+◌, List, [], ◌∷◌, ◌++◌, Option, Some, None}
use Rattle.c_tree.specs.Trees.{ExprTree, RightTree, SimpleTree, DeclareScalar, DeclareArray, DeclareWith, SetLocal, SetGlobal, SetLocalElement, SetGlobalElement, Calling, StmtTree, StmtTrees, Do, Empty, Block, If, IfElse, While, For, Break, Continue, Return, NoStmts, Then}
use Rattle.flat_code.specs.declared.operations.Op.{Op}
use Rattle.c_lower.specs.ExprCode.{expr_size, expr_code}
use Rattle.c_lower.specs.CallCode.{call_size, call_code, set_size, set_code, held_size, held_code}

-- ---- declarations, assignments and calls

abbrev pub simple_size : SimpleTree → ℕ
simple_size (DeclareScalar x) = 1
simple_size (DeclareArray x n) = 1
simple_size (DeclareWith x v) = set_size v
simple_size (SetLocal x v) = set_size v
simple_size (SetGlobal g v) = held_size v + 1
simple_size (SetLocalElement a i v) = expr_size i + held_size v + 1
simple_size (SetGlobalElement a i v) = expr_size i + held_size v + 1
simple_size (Calling c) = call_size c

-- t is the variable of the first temporary. An element's index is evaluated before its right side.
abbrev pub simple_code : SimpleTree → (p t : ℕ) → List Op
simple_code (DeclareScalar x) p t = Op.Const x 0 ∷ []
simple_code (DeclareArray x n) p t = Op.Zero x ∷ []
simple_code (DeclareWith x v) p t = set_code v p t x
simple_code (SetLocal x v) p t = set_code v p t x
simple_code (SetGlobal g v) p t = held_code v p t ++ (Op.StoreGlobal g t ∷ [])
simple_code (SetLocalElement a i v) p t = expr_code i p t ++ held_code v (p + expr_size i) (t + 1) ++ (Op.StoreLocal a t (t + 1) ∷ [])
simple_code (SetGlobalElement a i v) p t = expr_code i p t ++ held_code v (p + expr_size i) (t + 1) ++ (Op.StoreArray a t (t + 1) ∷ [])
simple_code (Calling c) p t = call_code c p t None

-- the first part of a `for`, one declaration or assignment after another
abbrev pub simples_size : List SimpleTree → ℕ
simples_size [] = 0
simples_size (s ∷ ss) = simple_size s + simples_size ss

abbrev pub simples_code : List SimpleTree → (p t : ℕ) → List Op
simples_code [] p t = []
simples_code (s ∷ ss) p t = simple_code s p t ++ simples_code ss (p + simple_size s) t

-- the step of a `for`, if there is one
abbrev pub step_size : Option SimpleTree → ℕ
step_size None = 0
step_size (Some s) = simple_size s

abbrev pub step_code : Option SimpleTree → (p t : ℕ) → List Op
step_code None p t = []
step_code (Some s) p t = simple_code s p t

-- the test of a `for`, if there is one: if its condition is 0, operation `to` is next
abbrev pub test_size : Option ExprTree → ℕ
test_size None = 0
test_size (Some c) = expr_size c + 1

abbrev pub test_code : Option ExprTree → (p t to : ℕ) → List Op
test_code None p t to = []
test_code (Some c) p t to = expr_code c p t ++ (Op.JumpZero t to ∷ [])

abbrev pub return_size : Option RightTree → ℕ
return_size None = 1
return_size (Some v) = held_size v + 1

abbrev pub return_code : Option RightTree → (p t : ℕ) → List Op
return_code None p t = Op.Return None ∷ []
return_code (Some v) p t = held_code v p t ++ (Op.Return (Some t) ∷ [])

-- ---- statements

abbrev mutual
  pub stmt_size : StmtTree → ℕ
  stmt_size (Do s) = simple_size s
  stmt_size Empty = 0
  stmt_size (Block ss) = stmts_size ss
  stmt_size (If c s) = expr_size c + stmt_size s + 1
  stmt_size (IfElse c s r) = expr_size c + stmt_size s + stmt_size r + 2
  stmt_size (While c s) = expr_size c + stmt_size s + 2
  stmt_size (For init c step s) = simples_size init + test_size c + stmt_size s + step_size step + 1
  stmt_size Break = 1
  stmt_size Continue = 1
  stmt_size (Return v) = return_size v

  pub stmts_size : StmtTrees → ℕ
  stmts_size NoStmts = 0
  stmts_size (Then s ss) = stmt_size s + stmts_size ss

-- The operations of a statement from operation p on. In a loop, `leave` is the target of `break` and `skip` that of
-- `continue`: the test of a `while`, or the step of a `for`.
abbrev mutual
  pub stmt_code : StmtTree → (p t leave skip : ℕ) → List Op
  stmt_code (Do s) p t leave skip = simple_code s p t
  stmt_code Empty p t leave skip = []
  stmt_code (Block ss) p t leave skip = stmts_code ss p t leave skip
  stmt_code (If c s) p t leave skip =
      let first = p + expr_size c + 1 in
      expr_code c p t
      ++ (Op.JumpZero t (first + stmt_size s) ∷ [])
      ++ stmt_code s first t leave skip
  stmt_code (IfElse c s r) p t leave skip =
      let first = p + expr_size c + 1 in
      let second = first + stmt_size s + 1 in
      expr_code c p t
      ++ (Op.JumpZero t second ∷ [])
      ++ stmt_code s first t leave skip
      ++ (Op.Jump (second + stmt_size r) ∷ [])
      ++ stmt_code r second t leave skip
  stmt_code (While c s) p t leave skip =
      let body = p + expr_size c + 1 in
      let end = body + stmt_size s + 1 in
      expr_code c p t
      ++ (Op.JumpZero t end ∷ [])
      ++ stmt_code s body t end p
      ++ (Op.Jump p ∷ [])
  stmt_code (For init c step s) p t leave skip =
      let turn = p + simples_size init in
      let body = turn + test_size c in
      let next = body + stmt_size s in
      let end = next + step_size step + 1 in
      simples_code init p t
      ++ test_code c turn t end
      ++ stmt_code s body t end next
      ++ step_code step next t
      ++ (Op.Jump turn ∷ [])
  stmt_code Break p t leave skip = Op.Jump leave ∷ []
  stmt_code Continue p t leave skip = Op.Jump skip ∷ []
  stmt_code (Return v) p t leave skip = return_code v p t

  pub stmts_code : StmtTrees → (p t leave skip : ℕ) → List Op
  stmts_code NoStmts p t leave skip = []
  stmts_code (Then s ss) p t leave skip = stmt_code s p t leave skip ++ stmts_code ss (p + stmt_size s) t leave skip
