-- Code has as many operations as its size says.
use Rattle.c_lower.proofs.Common.{◌≡◌, ◌+◌, ℕ, List, [], ◌∷◌, length, length-append, refl, arith, Option, Some, None, Infix, UnaryOperator, ExprTree, LocalElement, GlobalElement, Unary, Parenthesized, Binary, LogicalAnd, LogicalOr, Conditional, CallTree, CallFunction, CallTable, CallSpawn, CallModelled, RightTree, Computed, Called, SimpleTree, DeclareWith, SetLocal, SetGlobal, SetLocalElement, SetGlobalElement, Calling, StmtTree, StmtTrees, Do, Block, If, IfElse, While, For, Return, NoStmts, Then, unary_code, unary_size, expr_size, expr_code, infix_size, operand_code, arguments_size, arguments_code, call_size, call_code, set_size, set_code, held_size, held_code, simple_size, simple_code, simples_size, simples_code, step_size, step_code, test_size, test_code, return_size, return_code, stmt_size, stmt_code, stmts_size, stmts_code}

pub unary_length : (op : UnaryOperator) (k : ℕ) → length (unary_code op k) ≡ unary_size op
unary_length UnaryOperator.Plus k = refl
unary_length _ k = refl

pub expr_length : (e : ExprTree) (p k : ℕ) → length (expr_code e p k) ≡ expr_size e
expr_length (LocalElement a i) p k = simp length-append (omega (arith, expr_length i p k))
expr_length (GlobalElement a i) p k = simp length-append (omega (arith, expr_length i p k))
expr_length (Unary op e) p k = simp length-append (omega (arith, expr_length e p k, unary_length op k))
expr_length (Parenthesized e) p k = expr_length e p k
expr_length (Binary op l r) p k = simp length-append (omega (arith, expr_length l p k, expr_length r (p + expr_size l) (k + 1)))
expr_length (LogicalAnd l r) p k = simp length-append (omega (arith, expr_length l p k, expr_length r (p + expr_size l + 1) k))
expr_length (LogicalOr l r) p k = simp length-append (omega (arith, expr_length l p k, expr_length r (p + expr_size l + 2) k))
expr_length (Conditional c a b) p k = simp length-append (omega (arith, expr_length c p k, expr_length a (p + expr_size c + 1) k, expr_length b (p + expr_size c + 1 + expr_size a + 1) k))
expr_length _ p k = refl

pub arguments_length : (es : List ExprTree) (p k : ℕ) → length (arguments_code es p k) ≡ arguments_size es
arguments_length [] p k = refl
arguments_length (e ∷ es) p k = simp length-append (omega (arith, expr_length e p k, arguments_length es (p + expr_size e) (k + 1)))

pub call_length : (c : CallTree) (p k : ℕ) (d : Option ℕ) → length (call_code c p k d) ≡ call_size c
call_length (CallFunction s f es) p k d = simp length-append (omega (arith, arguments_length es p k))
call_length (CallTable s t i e) p k d = simp length-append (omega (arith, expr_length i p k, expr_length e (p + expr_size i) (k + 1)))
call_length (CallSpawn s f e) p k d = simp length-append (omega (arith, expr_length e p k))
call_length (CallModelled s m es) p k d = simp length-append (omega (arith, arguments_length es p k))

pub set_length : (v : RightTree) (p k x : ℕ) → length (set_code v p k x) ≡ set_size v
set_length (Computed e) p k x = simp length-append (omega (arith, expr_length e p k))
set_length (Called c) p k x = call_length c p k (Some x)

pub held_length : (v : RightTree) (p k : ℕ) → length (held_code v p k) ≡ held_size v
held_length (Computed e) p k = expr_length e p k
held_length (Called c) p k = call_length c p k (Some k)

pub simple_length : (s : SimpleTree) (p t : ℕ) → length (simple_code s p t) ≡ simple_size s
simple_length (DeclareWith x v) p t = set_length v p t x
simple_length (SetLocal x v) p t = set_length v p t x
simple_length (SetGlobal g v) p t = simp length-append (omega (arith, held_length v p t))
simple_length (SetLocalElement a i v) p t = simp length-append (omega (arith, expr_length i p t, held_length v (p + expr_size i) (t + 1)))
simple_length (SetGlobalElement a i v) p t = simp length-append (omega (arith, expr_length i p t, held_length v (p + expr_size i) (t + 1)))
simple_length (Calling c) p t = call_length c p t None
simple_length _ p t = refl

pub simples_length : (ss : List SimpleTree) (p t : ℕ) → length (simples_code ss p t) ≡ simples_size ss
simples_length [] p t = refl
simples_length (s ∷ ss) p t = simp length-append (omega (arith, simple_length s p t, simples_length ss (p + simple_size s) t))

pub step_length : (s : Option SimpleTree) (p t : ℕ) → length (step_code s p t) ≡ step_size s
step_length None p t = refl
step_length (Some s) p t = simple_length s p t

pub test_length : (c : Option ExprTree) (p t to : ℕ) → length (test_code c p t to) ≡ test_size c
test_length None p t to = refl
test_length (Some c) p t to = simp length-append (omega (arith, expr_length c p t))

pub return_length : (v : Option RightTree) (p t : ℕ) → length (return_code v p t) ≡ return_size v
return_length None p t = refl
return_length (Some v) p t = simp length-append (omega (arith, held_length v p t))

mutual
  pub stmt_length : (s : StmtTree) (p t leave skip : ℕ) → length (stmt_code s p t leave skip) ≡ stmt_size s
  stmt_length (Do s) p t leave skip = simple_length s p t
  stmt_length (Block ss) p t leave skip = stmts_length ss p t leave skip
  stmt_length (If c s) p t leave skip = simp length-append (omega (arith, expr_length c p t, stmt_length s (p + expr_size c + 1) t leave skip))
  stmt_length (IfElse c s r) p t leave skip =
      simp length-append (omega (arith, expr_length c p t, stmt_length s (p + expr_size c + 1) t leave skip, stmt_length r (p + expr_size c + 1 + stmt_size s + 1) t leave skip))
  stmt_length (While c s) p t leave skip =
      simp length-append (omega (arith, expr_length c p t, stmt_length s (p + expr_size c + 1) t (p + expr_size c + 1 + stmt_size s + 1) p))
  stmt_length (For init c step s) p t leave skip =
      let turn = p + simples_size init in
      let body = turn + test_size c in
      let next = body + stmt_size s in
      let end = next + step_size step + 1 in
      simp length-append (omega (arith, simples_length init p t, test_length c turn t end, stmt_length s body t end next, step_length step next t))
  stmt_length (Return v) p t leave skip = return_length v p t
  stmt_length _ p t leave skip = refl

  pub stmts_length : (ss : StmtTrees) (p t leave skip : ℕ) → length (stmts_code ss p t leave skip) ≡ stmts_size ss
  stmts_length NoStmts p t leave skip = refl
  stmts_length (Then s ss) p t leave skip = simp length-append (omega (arith, stmt_length s p t leave skip, stmts_length ss (p + stmt_size s) t leave skip))

pub operand_length : (o : Infix) (r : ExprTree) (p k : ℕ) → length (operand_code o r p k) ≡ expr_size r + infix_size o
operand_length (Infix.Binary op) r p k = simp length-append (omega (arith, expr_length r p (k + 1)))
operand_length Infix.LogicalAnd r p k = simp length-append (omega (arith, expr_length r (p + 1) k))
operand_length Infix.LogicalOr r p k = simp length-append (omega (arith, expr_length r (p + 2) k))
