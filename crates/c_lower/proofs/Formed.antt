-- The code of what is well scoped is well formed.
use Rattle.c_lower.proofs.Common.{◌≡◌, ◌<◌, ◌≤◌, ◌+◌, ℕ, Bool, true, List, [], ◌∷◌, ◌++◌, length, refl, sym, ap, subst, ◌∙◌, lit<, arith, IsTrue, false, Option, Some, None, option_map, unwrap_or, slice_index, AllByRecursion, UnaryOperator, expr_temporaries, arguments_temporaries, call_temporaries, right_temporaries, held_temporaries, simple_temporaries, simples_temporaries, condition_temporaries, step_temporaries, returned_temporaries, stmt_temporaries, stmts_temporaries, simple_names, ExprTree, Number, Local, Global, LocalElement, GlobalElement, Unary, Parenthesized, Binary, LogicalAnd, LogicalOr, Conditional, CallTree, CallFunction, CallTable, CallSpawn, CallModelled, RightTree, Computed, Called, SimpleTree, DeclareScalar, DeclareArray, DeclareWith, SetLocal, SetGlobal, SetLocalElement, SetGlobalElement, Calling, StmtTree, StmtTrees, Do, Empty, Block, If, IfElse, While, For, Break, Continue, Return, NoStmts, Then, IsExprScoped, AreExprsScoped, IsCallScoped, call_gives, IsRightScoped, IsSimpleScoped, AreSimplesScoped, with_names, scope_after, scope_after_all, IsConditionScoped, IsStepScoped, IsReturnScoped, IsStmtScoped, AreStmtsScoped, Op, IsScalar, IsGlobalScalar, IsResultPlace, IsOperation, unary_code, expr_size, expr_code, arguments_size, arguments_code, arguments_in, call_size, call_code, set_size, set_code, held_size, held_code, simple_size, simple_code, simples_size, simples_code, step_size, step_code, test_size, test_code, return_size, return_code, stmt_size, stmt_code, stmts_size, stmts_code, All-append}
use Rattle.cap_word.proofs.CallLemmas.{numbered}
use Rattle.cap_word.specs.declared.modelled_calls.ModelledCall.{ModelledCall}
use Rattle.cap_word.specs.ModelledCalls.{number_of, parameters_of, gives_result}
use Rattle.c_tree.specs.WellScoped as tree
use Rattle.flat_code.specs.Modelled.{modelled_parameters, modelled_gives}
use Rattle.flat_code.specs.WellFormed as flat
use Rattle.c_lower.proofs.Suits.{Suits}

-- an expression has a temporary for its value
pub expr_takes_one : (e : ExprTree) → 1 ≤ expr_temporaries e
expr_takes_one (LocalElement a i) = expr_takes_one i
expr_takes_one (GlobalElement a i) = expr_takes_one i
expr_takes_one (Unary op e) = expr_takes_one e
expr_takes_one (Parenthesized e) = expr_takes_one e
expr_takes_one (Binary op l r) = omega (arith, expr_takes_one l)
expr_takes_one (LogicalAnd l r) = omega (arith, expr_takes_one l)
expr_takes_one (LogicalOr l r) = omega (arith, expr_takes_one l)
expr_takes_one (Conditional c a b) = omega (arith, expr_takes_one c)
expr_takes_one _ = omega arith

arguments_count : (es : List ExprTree) (k : ℕ) → length (arguments_in es k) ≡ length es
arguments_count [] k = refl
arguments_count (e ∷ es) k = omega (arith, arguments_count es (k + 1))

modelled_count : (m : ModelledCall) → modelled_parameters (number_of m) ≡ Some (parameters_of m)
modelled_count m = ap (option_map parameters_of) (numbered m)

modelled_result : (m : ModelledCall) → modelled_gives (number_of m) ≡ gives_result m
modelled_result m = ap (λ (call : Option ModelledCall). unwrap_or (option_map gives_result call) false) (numbered m)

module _ (c : tree.Context) (d : flat.Context) (t n : ℕ) (suits : Suits c d t n) where
  -- the operations are well formed
  abbrev AreFormed : List Op → Type 0
  AreFormed ops = AllByRecursion (IsOperation d) ops

  both : (xs ys : List Op) → AreFormed xs → AreFormed ys → AreFormed (xs ++ ys)
  both xs ys a b = All-append (IsOperation d) xs ys a b

  scalar : (x : ℕ) → x < length c.sizes → slice_index c.sizes x ≡ 1 → IsScalar d x
  scalar x h e = (suits.local x h, suits.words x 1 h e)

  global : (g : ℕ) → g < length c.globals → slice_index c.globals g ≡ 1 → IsGlobalScalar d g
  global g h e = (rw suits.globals h, rw suits.globals e)

  global_there : (g : ℕ) → g < length c.globals → g < length d.globals
  global_there g h = rw suits.globals h

  -- variable k is a temporary
  temporary : (k : ℕ) → t ≤ k → k + 1 ≤ t + n → IsScalar d k
  temporary k h m = suits.temporary k h (omega arith)

  unary_formed : (op : UnaryOperator) (k : ℕ) → IsScalar d k → AreFormed (unary_code op k)
  unary_formed UnaryOperator.Plus k s = tt
  unary_formed _ k s = ((s, s), tt)

  pub expr_formed : (scope : List ℕ) (e : ExprTree) (p k : ℕ) → IsExprScoped c scope e → t ≤ k → k + expr_temporaries e ≤ t + n → p + expr_size e < d.ops → AreFormed (expr_code e p k)
  expr_formed scope (Number v) p k h low m o = ((temporary k low m, h), tt)
  expr_formed scope (Local x) p k h low m o = ((temporary k low m, scalar x h.0 h.1), tt)
  expr_formed scope (Global g) p k h low m o = ((temporary k low m, global g h.0 h.1), tt)
  expr_formed scope (LocalElement a i) p k h low m o =
      let s = temporary k low (omega (arith, expr_takes_one i)) in
      both (expr_code i p k) _ (expr_formed scope i p k h.2 low m (omega arith)) ((s, suits.local a h.0, s), tt)
  expr_formed scope (GlobalElement a i) p k h low m o =
      let s = temporary k low (omega (arith, expr_takes_one i)) in
      both (expr_code i p k) _ (expr_formed scope i p k h.1 low m (omega arith)) ((s, global_there a h.0, s), tt)
  expr_formed scope (Unary op e) p k h low m o =
      both (expr_code e p k) _ (expr_formed scope e p k h low m (omega arith)) (unary_formed op k (temporary k low (omega (arith, expr_takes_one e))))
  expr_formed scope (Parenthesized e) p k h low m o = expr_formed scope e p k h low m o
  expr_formed scope (Binary op l r) p k h low m o =
      let s = temporary k low (omega (arith, expr_takes_one l)) in
      let s1 = temporary (k + 1) (omega arith) (omega (arith, expr_takes_one r)) in
      let right = p + expr_size l in
      both (expr_code l p k ++ expr_code r right (k + 1)) _
      (both (expr_code l p k) _ (expr_formed scope l p k h.0 low (omega arith) (omega arith)) (expr_formed scope r right (k + 1) h.1 (omega arith) (omega arith) (omega arith)))
      ((s, s, s1), tt)
  expr_formed scope (LogicalAnd l r) p k h low m o =
      let s = temporary k low (omega (arith, expr_takes_one l)) in
      let right = p + expr_size l + 1 in
      let otherwise = right + expr_size r + 3 in
      let jump : otherwise < d.ops = omega arith in
      both (expr_code l p k ++ (Op.JumpZero k otherwise ∷ []) ++ expr_code r right k) _
      (both (expr_code l p k ++ (Op.JumpZero k otherwise ∷ [])) _
      (both (expr_code l p k) _ (expr_formed scope l p k h.0 low (omega arith) (omega arith)) ((s, jump), tt))
      (expr_formed scope r right k h.1 low (omega arith) (omega arith)))
      ((s, jump), ((s, lit< tt), (omega arith, ((s, lit< tt), tt))))
  expr_formed scope (LogicalOr l r) p k h low m o =
      let s = temporary k low (omega (arith, expr_takes_one l)) in
      let right = p + expr_size l + 2 in
      let one = right + expr_size r + 1 in
      both (expr_code l p k ++ (Op.JumpZero k right ∷ Op.Jump one ∷ []) ++ expr_code r right k) _
      (both (expr_code l p k ++ (Op.JumpZero k right ∷ Op.Jump one ∷ [])) _
      (both (expr_code l p k) _ (expr_formed scope l p k h.0 low (omega arith) (omega arith)) ((s, omega arith), (omega arith, tt)))
      (expr_formed scope r right k h.1 low (omega arith) (omega arith)))
      ((s, omega arith), ((s, lit< tt), (omega arith, ((s, lit< tt), tt))))
  expr_formed scope (Conditional q a b) p k h low m o =
      let s = temporary k low (omega (arith, expr_takes_one q)) in
      let first = p + expr_size q + 1 in
      let second = first + expr_size a + 1 in
      both (expr_code q p k ++ (Op.JumpZero k second ∷ []) ++ expr_code a first k ++ (Op.Jump (second + expr_size b) ∷ [])) _
      (both (expr_code q p k ++ (Op.JumpZero k second ∷ []) ++ expr_code a first k) _
      (both (expr_code q p k ++ (Op.JumpZero k second ∷ [])) _
      (both (expr_code q p k) _ (expr_formed scope q p k h.0 low (omega arith) (omega arith)) ((s, omega arith), tt))
      (expr_formed scope a first k h.1 low (omega arith) (omega arith)))
      (omega arith, tt))
      (expr_formed scope b second k h.2 low (omega arith) (omega arith))

  -- the first of the arguments goes to variable k, i temporaries after the place from which they are counted
  arguments_formed : (scope : List ℕ) (es : List ExprTree) (p q i : ℕ) → AreExprsScoped c scope es → t ≤ q → q + arguments_temporaries i es ≤ t + n → p + arguments_size es < d.ops → AreFormed (arguments_code es p (q + i))
  arguments_formed scope [] p q i h low m o = tt
  arguments_formed scope (e ∷ es) p q i h low m o =
      let next : q + (1 + i) ≡ q + i + 1 = omega arith in
      both (expr_code e p (q + i)) _
      (expr_formed scope e p (q + i) h.0 (omega arith) (omega arith) (omega arith))
      (subst (λ k. AreFormed (arguments_code es (p + expr_size e) k)) next (arguments_formed scope es (p + expr_size e) q (1 + i) h.1 low (omega arith) (omega arith)))

  variables_formed : (es : List ExprTree) (q i : ℕ) → t ≤ q → q + arguments_temporaries i es ≤ t + n → AllByRecursion (IsScalar d) (arguments_in es (q + i))
  variables_formed [] q i low m = tt
  variables_formed (e ∷ es) q i low m =
      let next : q + (1 + i) ≡ q + i + 1 = omega arith in
      (temporary (q + i) (omega arith) (omega (arith, expr_takes_one e)), subst (λ k. AllByRecursion (IsScalar d) (arguments_in es k)) next (variables_formed es q (1 + i) low (omega arith)))

  all_arguments : (scope : List ℕ) (es : List ExprTree) (p k : ℕ) → AreExprsScoped c scope es → t ≤ k → k + arguments_temporaries 0 es ≤ t + n → p + arguments_size es < d.ops → AreFormed (arguments_code es p k) × AllByRecursion (IsScalar d) (arguments_in es k)
  all_arguments scope es p k h low m o =
      let same : k + 0 ≡ k = omega arith in (
        subst (λ q. AreFormed (arguments_code es p q)) same (arguments_formed scope es p k 0 h low m o),
        subst (λ q. AllByRecursion (IsScalar d) (arguments_in es q)) same (variables_formed es k 0 low m),
      )

  call_formed : (scope : List ℕ) (call : CallTree) (p k : ℕ) (place : Option ℕ) → IsCallScoped c scope call → t ≤ k → k + call_temporaries call ≤ t + n → p + call_size call < d.ops → IsResultPlace d (call_gives c call) place → AreFormed (call_code call p k place)
  call_formed scope (CallFunction s f es) p k place h low m o r =
      let args = all_arguments scope es p k h.2 low m (omega arith) in
      both (arguments_code es p k) _ args.0
      (rw suits.signatures (h.0, arguments_count es k ∙ h.1, args.1, r), tt)
  call_formed scope (CallTable s table i e) p k place h low m o r =
      both (expr_code i p k ++ expr_code e (p + expr_size i) (k + 1)) _
      (both (expr_code i p k) _ (expr_formed scope i p k h.1 low (omega arith) (omega arith)) (expr_formed scope e (p + expr_size i) (k + 1) h.2 (omega arith) (omega arith) (omega arith)))
      ((rw suits.tables h.0, temporary k low (omega (arith, expr_takes_one i)), temporary (k + 1) (omega arith) (omega (arith, expr_takes_one e)), r), tt)
  call_formed scope (CallSpawn s f e) p k place h low m o r =
      both (expr_code e p k) _ (expr_formed scope e p k h.2 low m (omega arith))
      (rw suits.signatures (h.0, h.1, temporary k low (omega (arith, expr_takes_one e)), r), tt)
  call_formed scope (CallModelled s call es) p k place h low m o r =
      let args = all_arguments scope es p k h.1 low m (omega arith) in
      let count : modelled_parameters (number_of call) ≡ Some (length (arguments_in es k)) = modelled_count call ∙ ap (λ x. Some x) (sym (arguments_count es k ∙ h.0)) in
      both (arguments_code es p k) _ args.0
      ((count, args.1, subst (λ g. IsResultPlace d g place) (sym (modelled_result call)) r), tt)

  set_formed : (scope : List ℕ) (v : RightTree) (p x : ℕ) → IsRightScoped c scope v → right_temporaries v ≤ n → p + set_size v < d.ops → IsScalar d x → AreFormed (set_code v p t x)
  set_formed scope (Computed e) p x h m o s =
      both (expr_code e p t) _ (expr_formed scope e p t h (omega arith) (omega arith) (omega arith)) ((s, temporary t (omega arith) (omega (arith, expr_takes_one e))), tt)
  set_formed scope (Called call) p x h m o s = call_formed scope call p t (Some x) h.0 (omega arith) (omega arith) o (h.1, s)

  held_formed : (scope : List ℕ) (v : RightTree) (p k : ℕ) → IsRightScoped c scope v → t ≤ k → k + held_temporaries v ≤ t + n → p + held_size v < d.ops → AreFormed (held_code v p k) × IsScalar d k
  held_formed scope (Computed e) p k h low m o = (expr_formed scope e p k h low m o, temporary k low (omega (arith, expr_takes_one e)))
  held_formed scope (Called call) p k h low m o =
      let s = temporary k low (omega arith) in
      (call_formed scope call p k (Some k) h.0 low (omega arith) o (h.1, s), s)

  simple_formed : (scope : List ℕ) (s : SimpleTree) (p : ℕ) → IsSimpleScoped c scope s → simple_temporaries s ≤ n → p + simple_size s < d.ops → AreFormed (simple_code s p t)
  simple_formed scope (DeclareScalar x) p h m o = ((scalar x h.0 h.1, lit< tt), tt)
  simple_formed scope (DeclareArray x w) p h m o = (suits.local x h.0, tt)
  simple_formed scope (DeclareWith x v) p h m o = set_formed scope v p x h.2 m o (scalar x h.0 h.1)
  simple_formed scope (SetLocal x v) p h m o = set_formed scope v p x h.3 m o (scalar x h.0 h.1)
  simple_formed scope (SetGlobal g v) p h m o =
      let held = held_formed scope v p t h.2 (omega arith) (omega arith) (omega arith) in
      both (held_code v p t) _ held.0 ((global g h.0 h.1, held.1), tt)
  simple_formed scope (SetLocalElement a i v) p h m o =
      let held = held_formed scope v (p + expr_size i) (t + 1) h.3 (omega arith) (omega arith) (omega arith) in
      both (expr_code i p t ++ held_code v (p + expr_size i) (t + 1)) _
      (both (expr_code i p t) _ (expr_formed scope i p t h.2 (omega arith) (omega arith) (omega arith)) held.0)
      ((suits.local a h.0, temporary t (omega arith) (omega (arith, expr_takes_one i)), held.1), tt)
  simple_formed scope (SetGlobalElement a i v) p h m o =
      let held = held_formed scope v (p + expr_size i) (t + 1) h.2 (omega arith) (omega arith) (omega arith) in
      both (expr_code i p t ++ held_code v (p + expr_size i) (t + 1)) _
      (both (expr_code i p t) _ (expr_formed scope i p t h.1 (omega arith) (omega arith) (omega arith)) held.0)
      ((global_there a h.0, temporary t (omega arith) (omega (arith, expr_takes_one i)), held.1), tt)
  simple_formed scope (Calling call) p h m o = call_formed scope call p t None h (omega arith) (omega arith) o tt

  simples_formed : (scope : List ℕ) (ss : List SimpleTree) (p : ℕ) → AreSimplesScoped c scope ss → simples_temporaries ss ≤ n → p + simples_size ss < d.ops → AreFormed (simples_code ss p t)
  simples_formed scope [] p h m o = tt
  simples_formed scope (s ∷ ss) p h m o =
      both (simple_code s p t) _ (simple_formed scope s p h.0 (omega arith) (omega arith)) (simples_formed (with_names scope (simple_names s)) ss (p + simple_size s) h.1 (omega arith) (omega arith))

  step_formed : (scope : List ℕ) (s : Option SimpleTree) (p : ℕ) → IsStepScoped c scope s → step_temporaries s ≤ n → p + step_size s < d.ops → AreFormed (step_code s p t)
  step_formed scope None p h m o = tt
  step_formed scope (Some s) p h m o = simple_formed scope s p h.1 m o

  test_formed : (scope : List ℕ) (q : Option ExprTree) (p to : ℕ) → IsConditionScoped c scope q → condition_temporaries q ≤ n → p + test_size q < d.ops → to < d.ops → AreFormed (test_code q p t to)
  test_formed scope None p to h m o j = tt
  test_formed scope (Some q) p to h m o j =
      both (expr_code q p t) _ (expr_formed scope q p t h (omega arith) (omega arith) (omega arith)) ((temporary t (omega arith) (omega (arith, expr_takes_one q)), j), tt)

  return_formed : (scope : List ℕ) (v : Option RightTree) (p : ℕ) → IsReturnScoped c scope v → returned_temporaries v ≤ n → p + return_size v < d.ops → AreFormed (return_code v p t)
  return_formed scope None p h m o = (suits.gives ∙ h, tt)
  return_formed scope (Some v) p h m o =
      let held = held_formed scope v p t h.1 (omega arith) (omega arith) (omega arith) in
      both (held_code v p t) _ held.0 ((suits.gives ∙ h.0, held.1), tt)

  condition_formed : (scope : List ℕ) (q : ExprTree) (p to : ℕ) → IsExprScoped c scope q → expr_temporaries q ≤ n → p + expr_size q < d.ops → to < d.ops → AreFormed (expr_code q p t ++ (Op.JumpZero t to ∷ []))
  condition_formed scope q p to h m o j =
      both (expr_code q p t) _ (expr_formed scope q p t h (omega arith) (omega arith) (omega arith)) ((temporary t (omega arith) (omega (arith, expr_takes_one q)), j), tt)

  -- in a loop its jumps lead to operations that are there
  mutual
    pub stmt_formed : (loop : Bool) (scope : List ℕ) (s : StmtTree) (p leave skip : ℕ) → IsStmtScoped c loop scope s → stmt_temporaries s ≤ n → p + stmt_size s < d.ops → (IsTrue loop → (leave < d.ops) × (skip < d.ops)) → AreFormed (stmt_code s p t leave skip)
    stmt_formed loop scope (Do s) p leave skip h m o j = simple_formed scope s p h m o
    stmt_formed loop scope Empty p leave skip h m o j = tt
    stmt_formed loop scope (Block ss) p leave skip h m o j = stmts_formed loop scope ss p leave skip h m o j
    stmt_formed loop scope (If q s) p leave skip h m o j =
        let first = p + expr_size q + 1 in
        both (expr_code q p t ++ (Op.JumpZero t (first + stmt_size s) ∷ [])) _
        (condition_formed scope q p (first + stmt_size s) h.0 (omega arith) (omega arith) (omega arith))
        (stmt_formed loop scope s first leave skip h.1 (omega arith) (omega arith) j)
    stmt_formed loop scope (IfElse q s r) p leave skip h m o j =
        let first = p + expr_size q + 1 in
        let second = first + stmt_size s + 1 in
        both (expr_code q p t ++ (Op.JumpZero t second ∷ []) ++ stmt_code s first t leave skip ++ (Op.Jump (second + stmt_size r) ∷ [])) _
        (both (expr_code q p t ++ (Op.JumpZero t second ∷ []) ++ stmt_code s first t leave skip) _
        (both (expr_code q p t ++ (Op.JumpZero t second ∷ [])) _
        (condition_formed scope q p second h.0 (omega arith) (omega arith) (omega arith))
        (stmt_formed loop scope s first leave skip h.1 (omega arith) (omega arith) j))
        (omega arith, tt))
        (stmt_formed loop scope r second leave skip h.2 (omega arith) (omega arith) j)
    stmt_formed loop scope (While q s) p leave skip h m o j =
        let body = p + expr_size q + 1 in
        let end = body + stmt_size s + 1 in
        let at_end : end < d.ops = omega arith in
        let at_turn : p < d.ops = omega arith in
        both (expr_code q p t ++ (Op.JumpZero t end ∷ []) ++ stmt_code s body t end p) _
        (both (expr_code q p t ++ (Op.JumpZero t end ∷ [])) _
        (condition_formed scope q p end h.0 (omega arith) (omega arith) at_end)
        (stmt_formed true scope s body end p h.1 (omega arith) (omega arith) (λ y. (at_end, at_turn))))
        (at_turn, tt)
    stmt_formed loop scope (For init q step s) p leave skip h m o j =
        let turn = p + simples_size init in
        let body = turn + test_size q in
        let next = body + stmt_size s in
        let end = next + step_size step + 1 in
        let inside = scope_after_all scope init in
        let at_end : end < d.ops = omega arith in
        let at_next : next < d.ops = omega arith in
        both (simples_code init p t ++ test_code q turn t end ++ stmt_code s body t end next ++ step_code step next t) _
        (both (simples_code init p t ++ test_code q turn t end ++ stmt_code s body t end next) _
        (both (simples_code init p t ++ test_code q turn t end) _
        (both (simples_code init p t) _
        (simples_formed scope init p h.0 (omega arith) (omega arith))
        (test_formed inside q turn end h.1 (omega arith) (omega arith) at_end))
        (stmt_formed true inside s body end next h.3 (omega arith) (omega arith) (λ y. (at_end, at_next))))
        (step_formed inside step next h.2 (omega arith) (omega arith)))
        (omega arith, tt)
    stmt_formed loop scope Break p leave skip h m o j = ((j h).0, tt)
    stmt_formed loop scope Continue p leave skip h m o j = ((j h).1, tt)
    stmt_formed loop scope (Return v) p leave skip h m o j = return_formed scope v p h m o

    pub stmts_formed : (loop : Bool) (scope : List ℕ) (ss : StmtTrees) (p leave skip : ℕ) → AreStmtsScoped c loop scope ss → stmts_temporaries ss ≤ n → p + stmts_size ss < d.ops → (IsTrue loop → (leave < d.ops) × (skip < d.ops)) → AreFormed (stmts_code ss p t leave skip)
    stmts_formed loop scope NoStmts p leave skip h m o j = tt
    stmts_formed loop scope (Then s ss) p leave skip h m o j =
        both (stmt_code s p t leave skip) _
        (stmt_formed loop scope s p leave skip h.0 (omega arith) (omega arith) j)
        (stmts_formed loop (scope_after scope s) ss (p + stmt_size s) leave skip h.1 (omega arith) (omega arith) j)
