-- A function's declared names have a word each at least, so that there are at most as many names as words.
use Rattle.c_lower.proofs.Common.{◌≤◌, ℕ, Bool, true, List, [], ◌∷◌, ◌++◌, length, map, arith, sum, Option, Some, None, sum_by-cons, Declared, simple_names, simples_names, step_names, stmt_names, stmts_names, SimpleTree, DeclareScalar, DeclareArray, DeclareWith, StmtTree, StmtTrees, Do, Block, If, IfElse, While, For, NoStmts, Then, Context, IsSimpleScoped, AreSimplesScoped, with_names, scope_after, scope_after_all, IsStepScoped, IsStmtScoped, AreStmtsScoped}

-- each name has a word
abbrev pub HaveWords : List Declared → Type 0
HaveWords [] = Unit {0}
HaveWords (d ∷ ds) = (1 ≤ d.words) × HaveWords ds

all : (xs ys : List Declared) → HaveWords xs → HaveWords ys → HaveWords (xs ++ ys)
all [] ys a b = b
all (x ∷ xs) ys a b = (a.0, all xs ys a.1 b)

simple_have : (c : Context) (scope : List ℕ) (s : SimpleTree) → IsSimpleScoped c scope s → HaveWords (simple_names s)
simple_have c scope (DeclareScalar x) h = (omega arith, tt)
simple_have c scope (DeclareArray x n) h = (h.2, tt)
simple_have c scope (DeclareWith x v) h = (omega arith, tt)
simple_have c scope _ h = tt

simples_have : (c : Context) (scope : List ℕ) (ss : List SimpleTree) → AreSimplesScoped c scope ss → HaveWords (simples_names ss)
simples_have c scope [] h = tt
simples_have c scope (s ∷ ss) h = all (simple_names s) (simples_names ss) (simple_have c scope s h.0) (simples_have c (with_names scope (simple_names s)) ss h.1)

step_have : (c : Context) (scope : List ℕ) (s : Option SimpleTree) → IsStepScoped c scope s → HaveWords (step_names s)
step_have c scope None h = tt
step_have c scope (Some s) h = simple_have c scope s h.1

mutual
  stmt_have : (c : Context) (loop : Bool) (scope : List ℕ) (s : StmtTree) → IsStmtScoped c loop scope s → HaveWords (stmt_names s)
  stmt_have c loop scope (Do s) h = simple_have c scope s h
  stmt_have c loop scope (Block ss) h = stmts_have c loop scope ss h
  stmt_have c loop scope (If e s) h = stmt_have c loop scope s h.1
  stmt_have c loop scope (IfElse e s r) h = all (stmt_names s) (stmt_names r) (stmt_have c loop scope s h.1) (stmt_have c loop scope r h.2)
  stmt_have c loop scope (While e s) h = stmt_have c true scope s h.1
  stmt_have c loop scope (For init e step s) h =
      all (simples_names init) (step_names step ++ stmt_names s) (simples_have c scope init h.0)
      (all (step_names step) (stmt_names s) (step_have c (scope_after_all scope init) step h.2) (stmt_have c true (scope_after_all scope init) s h.3))
  stmt_have c loop scope _ h = tt

  pub stmts_have : (c : Context) (loop : Bool) (scope : List ℕ) (ss : StmtTrees) → AreStmtsScoped c loop scope ss → HaveWords (stmts_names ss)
  stmts_have c loop scope NoStmts h = tt
  stmts_have c loop scope (Then s ss) h = all (stmt_names s) (stmts_names ss) (stmt_have c loop scope s h.0) (stmts_have c loop (scope_after scope s) ss h.1)

pub few_names : (ds : List Declared) → HaveWords ds → length (map (λ d. d.words) ds) ≤ sum (map (λ d. d.words) ds)
few_names [] h = omega arith
few_names (d ∷ ds) h = omega (arith, h.0, few_names ds h.1, sum_by-cons (λ (x : ℕ). x) d.words (map (λ (x : Declared). x.words) ds))
