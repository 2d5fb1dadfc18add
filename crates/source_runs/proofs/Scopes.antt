-- The parts of a statement that is well scoped are so.
use Rattle.source_runs.proofs.Common.{◌≡◌, ℕ, zero, suc, List, [], ◌∷◌, sym, subst, false, Option, Some, slice_get, slice_index_or, ExprTree, RightTree, SimpleTree, StmtTree, Do, Empty, Block, If, IfElse, While, For, Break, Continue, Return, IsLoop, IsScoped, condition_of, start_of, step_of, InSomeScope}
use Rattle.c_tree.specs.TextOrder.{simple_names}
use Rattle.c_tree.specs.WellScoped.{AreSimplesScoped, Context, IsExprScoped, IsReturnScoped, IsSimpleScoped, scope_after_all, with_names}

module _ (c : Context) where
  pub do-scoped : (s : SimpleTree) → IsScoped c (Do s) → InSomeScope (λ scope. IsSimpleScoped c scope s)
  do-scoped s h = record { scope = h.scope; scoped = h.scoped }

  pub empty-scoped : IsScoped c Empty
  empty-scoped = record { loop = false; scope = []; scoped = tt {0} }

  pub if-condition : (e : ExprTree) (s : StmtTree) → IsScoped c (If e s) → InSomeScope (λ scope. IsExprScoped c scope e)
  if-condition e s h = record { scope = h.scope; scoped = h.scoped.0 }

  pub if-first : (e : ExprTree) (s : StmtTree) → IsScoped c (If e s) → IsScoped c s
  if-first e s h = record { loop = h.loop; scope = h.scope; scoped = h.scoped.1 }

  pub else-condition : (e : ExprTree) (s r : StmtTree) → IsScoped c (IfElse e s r) → InSomeScope (λ scope. IsExprScoped c scope e)
  else-condition e s r h = record { scope = h.scope; scoped = h.scoped.0 }

  pub else-first : (e : ExprTree) (s r : StmtTree) → IsScoped c (IfElse e s r) → IsScoped c s
  else-first e s r h = record { loop = h.loop; scope = h.scope; scoped = h.scoped.1 }

  pub else-second : (e : ExprTree) (s r : StmtTree) → IsScoped c (IfElse e s r) → IsScoped c r
  else-second e s r h = record { loop = h.loop; scope = h.scope; scoped = h.scoped.2 }

  pub while-condition : (e : ExprTree) (s : StmtTree) → IsScoped c (While e s) → InSomeScope (λ scope. IsExprScoped c scope e)
  while-condition e s h = record { scope = h.scope; scoped = h.scoped.0 }

  pub return-scoped : (v : Option RightTree) → IsScoped c (Return v) → InSomeScope (λ scope. IsReturnScoped c scope v)
  return-scoped v h = record { scope = h.scope; scoped = h.scoped }

  -- ---- the parts of a `for`

  some-same : {A : Type 0} (P : A → Type 0) (a b : A) → Some a ≡ Some b → P a → P b
  some-same P a b e h = let same : a ≡ b = cc in subst P same h

  pub condition-scoped : (t : StmtTree) (e : ExprTree) → Some e ≡ condition_of t → IsScoped c t → InSomeScope (λ scope. IsExprScoped c scope e)
  condition-scoped (For init (Some x) step s) e is h = some-same (λ y. InSomeScope (λ scope. IsExprScoped c scope y)) x e (sym is) (record { scope = scope_after_all h.scope init; scoped = h.scoped.1 })
  condition-scoped _ e is h = cc

  -- only a `for` has a condition of its own
  pub condition-loop : (t : StmtTree) (e : ExprTree) → Some e ≡ condition_of t → IsLoop t
  condition-loop (Do s) e is = cc
  condition-loop Empty e is = cc
  condition-loop (Block ss) e is = cc
  condition-loop (If x s) e is = cc
  condition-loop (IfElse x s r) e is = cc
  condition-loop (While x s) e is = tt {0}
  condition-loop (For init x step s) e is = tt {0}
  condition-loop Break e is = cc
  condition-loop Continue e is = cc
  condition-loop (Return v) e is = cc

  pub step-scoped : (t : StmtTree) (s : SimpleTree) → Some s ≡ step_of t → IsScoped c t → InSomeScope (λ scope. IsSimpleScoped c scope s)
  step-scoped (For init e (Some x) body) s is h = some-same (λ y. InSomeScope (λ scope. IsSimpleScoped c scope y)) x s (sym is) (record { scope = scope_after_all h.scope init; scoped = h.scoped.2.1 })
  step-scoped _ s is h = cc

  simple-from : (ss : List SimpleTree) (scope : List ℕ) (k : ℕ) (s : SimpleTree) → Some s ≡ slice_get ss k → AreSimplesScoped c scope ss → InSomeScope (λ scope. IsSimpleScoped c scope s)
  simple-from [] scope k s is h = cc
  simple-from (x ∷ ss) scope zero s is h = some-same (λ y. InSomeScope (λ scope. IsSimpleScoped c scope y)) x s (sym is) (record { scope = scope; scoped = h.0 })
  simple-from (x ∷ ss) scope (suc k) s is h = simple-from ss (with_names scope (simple_names x)) k s is h.1

  pub start-scoped : (t : StmtTree) (k : ℕ) (s : SimpleTree) → Some s ≡ slice_get (start_of t) k → IsScoped c t → InSomeScope (λ scope. IsSimpleScoped c scope s)
  start-scoped (For init e step body) k s is h = simple-from init h.scope k s is h.scoped.0
  start-scoped _ k s is h = cc

-- ---- a part of a list that is there

pub at-there : {A : Type 0} (xs : List A) (k : ℕ) (a d : A) → Some a ≡ slice_get xs k → slice_index_or xs k d ≡ a
at-there [] k a d e = cc
at-there (x ∷ xs) zero a d e = let same : a ≡ x = cc in sym same
at-there (x ∷ xs) (suc k) a d e = at-there xs k a d e
