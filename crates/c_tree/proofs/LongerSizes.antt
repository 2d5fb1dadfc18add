-- What is well scoped stays so where its function has more variables: names are declared one after another.
use Rattle.c_tree.proofs.Common.{◌≡◌, ◌<◌, ℕ, Bool, true, List, [], ◌∷◌, ◌++◌, length, length-append, ◌∙◌, Option, Some, None, arith, slice_index, ExprTree, Local, LocalElement, GlobalElement, Unary, Parenthesized, Binary, LogicalAnd, LogicalOr, Conditional, CallTree, CallFunction, CallTable, CallSpawn, CallModelled, RightTree, Computed, Called, SimpleTree, DeclareScalar, DeclareArray, DeclareWith, SetLocal, SetGlobal, SetLocalElement, SetGlobalElement, Calling, StmtTree, StmtTrees, Do, Empty, Block, If, IfElse, While, For, Return, NoStmts, Then, simple_names, Context, IsExprScoped, AreExprsScoped, IsCallScoped, IsRightScoped, IsSimpleScoped, with_names, scope_after, scope_after_all, AreSimplesScoped, IsConditionScoped, IsStepScoped, IsReturnScoped, IsStmtScoped, AreStmtsScoped}
use Rattle.std.proofs.Math.ListN.{get_or-append}

abbrev pub with_sizes : Context → List ℕ → Context
with_sizes c more = record c { sizes = c.sizes ++ more }

still_there : (sizes more : List ℕ) (x : ℕ) → x < length sizes → x < length (sizes ++ more)
still_there sizes more x h = omega (arith, length-append sizes more)

same_size : (sizes more : List ℕ) (x n : ℕ) → x < length sizes → slice_index sizes x ≡ n → slice_index (sizes ++ more) x ≡ n
same_size sizes more x n h e = get_or-append sizes more 0 x h ∙ e

pub expr_longer : (c : Context) (more scope : List ℕ) (e : ExprTree) → IsExprScoped c scope e → IsExprScoped (with_sizes c more) scope e
expr_longer c more scope (Local x) h = (still_there c.sizes more x h.0, same_size c.sizes more x 1 h.0 h.1, h.2)
expr_longer c more scope (LocalElement a i) h = (still_there c.sizes more a h.0, h.1, expr_longer c more scope i h.2)
expr_longer c more scope (GlobalElement a i) h = (h.0, expr_longer c more scope i h.1)
expr_longer c more scope (Unary op e) h = expr_longer c more scope e h
expr_longer c more scope (Parenthesized e) h = expr_longer c more scope e h
expr_longer c more scope (Binary op l r) h = (expr_longer c more scope l h.0, expr_longer c more scope r h.1)
expr_longer c more scope (LogicalAnd l r) h = (expr_longer c more scope l h.0, expr_longer c more scope r h.1)
expr_longer c more scope (LogicalOr l r) h = (expr_longer c more scope l h.0, expr_longer c more scope r h.1)
expr_longer c more scope (Conditional e a b) h = (expr_longer c more scope e h.0, expr_longer c more scope a h.1, expr_longer c more scope b h.2)
expr_longer c more scope _ h = h

pub exprs_longer : (c : Context) (more scope : List ℕ) (es : List ExprTree) → AreExprsScoped c scope es → AreExprsScoped (with_sizes c more) scope es
exprs_longer c more scope [] h = tt
exprs_longer c more scope (e ∷ es) h = (expr_longer c more scope e h.0, exprs_longer c more scope es h.1)

pub call_longer : (c : Context) (more scope : List ℕ) (k : CallTree) → IsCallScoped c scope k → IsCallScoped (with_sizes c more) scope k
call_longer c more scope (CallFunction s f es) h = (h.0, h.1, exprs_longer c more scope es h.2)
call_longer c more scope (CallTable s t i e) h = (h.0, expr_longer c more scope i h.1, expr_longer c more scope e h.2)
call_longer c more scope (CallSpawn s f e) h = (h.0, h.1, expr_longer c more scope e h.2)
call_longer c more scope (CallModelled s m es) h = (h.0, exprs_longer c more scope es h.1)

pub right_longer : (c : Context) (more scope : List ℕ) (v : RightTree) → IsRightScoped c scope v → IsRightScoped (with_sizes c more) scope v
right_longer c more scope (Computed e) h = expr_longer c more scope e h
right_longer c more scope (Called (CallFunction s f es)) h = (call_longer c more scope (CallFunction s f es) h.0, h.1)
right_longer c more scope (Called (CallTable s t i e)) h = (call_longer c more scope (CallTable s t i e) h.0, h.1)
right_longer c more scope (Called (CallSpawn s f e)) h = (call_longer c more scope (CallSpawn s f e) h.0, h.1)
right_longer c more scope (Called (CallModelled s m es)) h = (call_longer c more scope (CallModelled s m es) h.0, h.1)

pub simple_longer : (c : Context) (more scope : List ℕ) (s : SimpleTree) → IsSimpleScoped c scope s → IsSimpleScoped (with_sizes c more) scope s
simple_longer c more scope (DeclareScalar x) h = (still_there c.sizes more x h.0, same_size c.sizes more x 1 h.0 h.1)
simple_longer c more scope (DeclareArray x n) h = (still_there c.sizes more x h.0, same_size c.sizes more x n h.0 h.1, h.2)
simple_longer c more scope (DeclareWith x v) h = (still_there c.sizes more x h.0, same_size c.sizes more x 1 h.0 h.1, right_longer c more scope v h.2)
simple_longer c more scope (SetLocal x v) h = (still_there c.sizes more x h.0, same_size c.sizes more x 1 h.0 h.1, h.2, right_longer c more scope v h.3)
simple_longer c more scope (SetGlobal g v) h = (h.0, h.1, right_longer c more scope v h.2)
simple_longer c more scope (SetLocalElement a i v) h = (still_there c.sizes more a h.0, h.1, expr_longer c more scope i h.2, right_longer c more scope v h.3)
simple_longer c more scope (SetGlobalElement a i v) h = (h.0, expr_longer c more scope i h.1, right_longer c more scope v h.2)
simple_longer c more scope (Calling k) h = call_longer c more scope k h

pub simples_longer : (c : Context) (more scope : List ℕ) (ss : List SimpleTree) → AreSimplesScoped c scope ss → AreSimplesScoped (with_sizes c more) scope ss
simples_longer c more scope [] h = tt
simples_longer c more scope (s ∷ ss) h = (simple_longer c more scope s h.0, simples_longer c more (with_names scope (simple_names s)) ss h.1)

pub condition_longer : (c : Context) (more scope : List ℕ) (e : Option ExprTree) → IsConditionScoped c scope e → IsConditionScoped (with_sizes c more) scope e
condition_longer c more scope None h = tt
condition_longer c more scope (Some e) h = expr_longer c more scope e h

pub step_longer : (c : Context) (more scope : List ℕ) (s : Option SimpleTree) → IsStepScoped c scope s → IsStepScoped (with_sizes c more) scope s
step_longer c more scope None h = tt
step_longer c more scope (Some s) h = (h.0, simple_longer c more scope s h.1)

pub return_longer : (c : Context) (more scope : List ℕ) (v : Option RightTree) → IsReturnScoped c scope v → IsReturnScoped (with_sizes c more) scope v
return_longer c more scope None h = h
return_longer c more scope (Some v) h = (h.0, right_longer c more scope v h.1)

mutual
  pub stmt_longer : (c : Context) (more : List ℕ) (loop : Bool) (scope : List ℕ) (s : StmtTree) → IsStmtScoped c loop scope s → IsStmtScoped (with_sizes c more) loop scope s
  stmt_longer c more loop scope (Do s) h = simple_longer c more scope s h
  stmt_longer c more loop scope Empty h = tt
  stmt_longer c more loop scope (Block ss) h = stmts_longer c more loop scope ss h
  stmt_longer c more loop scope (If e s) h = (expr_longer c more scope e h.0, stmt_longer c more loop scope s h.1)
  stmt_longer c more loop scope (IfElse e s r) h = (expr_longer c more scope e h.0, stmt_longer c more loop scope s h.1, stmt_longer c more loop scope r h.2)
  stmt_longer c more loop scope (While e s) h = (expr_longer c more scope e h.0, stmt_longer c more true scope s h.1)
  stmt_longer c more loop scope (For init e step s) h = (simples_longer c more scope init h.0, condition_longer c more (scope_after_all scope init) e h.1, step_longer c more (scope_after_all scope init) step h.2, stmt_longer c more true (scope_after_all scope init) s h.3)
  stmt_longer c more loop scope (Return v) h = return_longer c more scope v h
  stmt_longer c more loop scope _ h = h

  pub stmts_longer : (c : Context) (more : List ℕ) (loop : Bool) (scope : List ℕ) (ss : StmtTrees) → AreStmtsScoped c loop scope ss → AreStmtsScoped (with_sizes c more) loop scope ss
  stmts_longer c more loop scope NoStmts h = tt
  stmts_longer c more loop scope (Then s ss) h = (stmt_longer c more loop scope s h.0, stmts_longer c more loop (scope_after scope s) ss h.1)
