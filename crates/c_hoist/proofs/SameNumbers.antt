-- A program whose calls are numbered by a table that counts from 0 is the program itself.
use Rattle.c_hoist.proofs.Common.{ℕ, zero, suc, ◌+◌, ◌≡◌, refl, ap, List, [], ◌∷◌, map, Option, Some, None, arith, option_map, slice_index_or, CallTree, CallFunction, CallTable, CallSpawn, CallModelled, RightTree, Computed, Called, SimpleTree, DeclareWith, SetLocal, SetGlobal, SetLocalElement, SetGlobalElement, Calling, StmtTree, StmtTrees, Do, Block, If, IfElse, While, For, Return, NoStmts, Then, FunctionTree, ProgramTree, counting, number_at, call_numbered, right_numbered, simple_numbered, stmt_numbered, stmts_numbered, function_numbered, numbered}

counted_at : (ns : List ℕ) (j k d : ℕ) → counting j ns → d ≡ j + k → slice_index_or ns k d ≡ d
counted_at [] j k d c e = refl
counted_at (n ∷ ns) j zero d c e = let first = c.0 in omega (arith, first, e)
counted_at (n ∷ ns) j (suc k) d c e = counted_at ns (1 + j) k d c.1 (omega (arith, e))

module _ (ns : List ℕ) (c : counting 0 ns) where
  at : (k : ℕ) → number_at ns k ≡ k
  at k = counted_at ns 0 k k c (omega arith)

  call_same : (k : CallTree) → call_numbered ns k ≡ k
  call_same (CallFunction s f es) = ap (λ x. CallFunction x f es) (at s)
  call_same (CallTable s t i e) = ap (λ x. CallTable x t i e) (at s)
  call_same (CallSpawn s f e) = ap (λ x. CallSpawn x f e) (at s)
  call_same (CallModelled s m es) = ap (λ x. CallModelled x m es) (at s)

  right_same : (v : RightTree) → right_numbered ns v ≡ v
  right_same (Computed e) = refl
  right_same (Called k) = ap Called (call_same k)

  simple_same : (s : SimpleTree) → simple_numbered ns s ≡ s
  simple_same (DeclareWith x v) = ap (DeclareWith x) (right_same v)
  simple_same (SetLocal x v) = ap (SetLocal x) (right_same v)
  simple_same (SetGlobal g v) = ap (SetGlobal g) (right_same v)
  simple_same (SetLocalElement a i v) = ap (SetLocalElement a i) (right_same v)
  simple_same (SetGlobalElement a i v) = ap (SetGlobalElement a i) (right_same v)
  simple_same (Calling k) = ap Calling (call_same k)
  simple_same _ = refl

  simples_same : (ss : List SimpleTree) → map (simple_numbered ns) ss ≡ ss
  simples_same [] = refl
  simples_same (s ∷ ss) = λ i. simple_same s i ∷ simples_same ss i

  step_same : (step : Option SimpleTree) → option_map (simple_numbered ns) step ≡ step
  step_same None = refl
  step_same (Some s) = ap Some (simple_same s)

  returned_same : (v : Option RightTree) → option_map (right_numbered ns) v ≡ v
  returned_same None = refl
  returned_same (Some v) = ap Some (right_same v)

  mutual
    stmt_same : (s : StmtTree) → stmt_numbered ns s ≡ s
    stmt_same (Do s) = ap Do (simple_same s)
    stmt_same (Block ss) = ap Block (stmts_same ss)
    stmt_same (If e s) = ap (If e) (stmt_same s)
    stmt_same (IfElse e s r) = λ i. IfElse e (stmt_same s i) (stmt_same r i)
    stmt_same (While e s) = ap (While e) (stmt_same s)
    stmt_same (For init e step s) = λ i. For (simples_same init i) e (step_same step i) (stmt_same s i)
    stmt_same (Return v) = ap Return (returned_same v)
    stmt_same _ = refl

    stmts_same : (ss : StmtTrees) → stmts_numbered ns ss ≡ ss
    stmts_same NoStmts = refl
    stmts_same (Then s ss) = λ i. Then (stmt_same s i) (stmts_same ss i)

  function_same : (f : FunctionTree) → function_numbered ns f ≡ f
  function_same f = ap (λ (b : StmtTrees). record f { body = b }) (stmts_same f.body)

  functions_same : (fs : List FunctionTree) → map (function_numbered ns) fs ≡ fs
  functions_same [] = refl
  functions_same (f ∷ fs) = λ i. function_same f i ∷ functions_same fs i

  pub same_numbers : (p : ProgramTree) → numbered ns p ≡ p
  same_numbers p = ap (λ (fs : List FunctionTree). record p { functions = fs }) (functions_same p.functions)
