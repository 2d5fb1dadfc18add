-- The lists of operations that lowering gives stand where they are put.
use Rattle.machine_meaning.proofs.Common.{◌≡◌, ℕ, ◌+◌, Bool, true, false, List, [], ◌∷◌, ◌++◌, length, Option, Some, None, refl, sym, ap, ◌∙◌, subst, arith, length-append, UnaryOperator, number_of, ExprTree, LocalElement, GlobalElement, Unary, Parenthesized, Binary, LogicalAnd, LogicalOr, Conditional, CallTree, CallFunction, CallTable, CallSpawn, CallModelled, RightTree, Computed, Called, SimpleTree, DeclareWith, SetLocal, SetGlobal, SetLocalElement, SetGlobalElement, Calling, StmtTree, StmtTrees, Do, Empty, Block, If, IfElse, While, For, Return, NoStmts, Then, Target, ToLocal, ToGlobal, ToLocalElement, ToGlobalElement, ToCaller, Op, expr_size, expr_code, arguments_size, arguments_code, arguments_in, call_size, call_code, set_size, set_code, held_size, held_code, operator_of, closing_code, simple_size, simple_code, simples_size, simples_code, step_size, step_code, test_size, test_code, return_code, stmt_size, stmt_code, stmts_size, stmts_code, expr_length, arguments_length, held_length, simple_length, simples_length, step_length, test_length, stmt_length}
use Rattle.machine_meaning.proofs.InPlace.{ExprAt, ArgsAt, CallAt, held, StoreAt, ResultAt, RightAt, SimpleAt, SimplesAt, StepAt, TestAt, ReturnAt, StmtAt, StmtsAt, EndAt}

module _ (fetch : ℕ → Option Op) where
  -- these operations stand from p on
  abbrev pub PartAt : ℕ → List Op → Type 0
  PartAt p [] = Unit {0}
  PartAt p (op ∷ ops) = (fetch p ≡ Some op) × PartAt (p + 1) ops

  pub split : (a b : List Op) (p q : ℕ) → q ≡ p + length a → PartAt p (a ++ b) → PartAt p a × PartAt q b
  split [] b p q e h = let at : p ≡ q = omega arith in (tt, subst (λ n. PartAt n b) at h)
  split (op ∷ a) b p q e h = let rest = split a b (p + 1) q (omega arith) h.1 in ((h.0, rest.0), rest.1)

  -- a jump's target by another name
  jump_is : (p to q : ℕ) → fetch p ≡ Some (Op.Jump to) → to ≡ q → fetch p ≡ Some (Op.Jump q)
  jump_is p to q h e = h ∙ ap (λ n. Some (Op.Jump n)) e

  zero_is : (p s to q : ℕ) → fetch p ≡ Some (Op.JumpZero s to) → to ≡ q → fetch p ≡ Some (Op.JumpZero s q)
  zero_is p s to q h e = h ∙ ap (λ n. Some (Op.JumpZero s n)) e

  at_is : (p q : ℕ) (op : Op) → p ≡ q → fetch p ≡ Some op → fetch q ≡ Some op
  at_is p q op e h = ap fetch (sym e) ∙ h

  pub expr_at : (e : ExprTree) (p k q : ℕ) → PartAt p (expr_code e p k) → q ≡ p + expr_size e → ExprAt fetch p e k q
  expr_at (LocalElement a i) p k q h e =
      let m = p + expr_size i in
      let s = split (expr_code i p k) (Op.LoadLocal k a k ∷ []) p m (omega (arith, expr_length i p k)) h in
      (m, expr_at i p k m s.0 refl, s.1.0, omega arith)
  expr_at (GlobalElement a i) p k q h e =
      let m = p + expr_size i in
      let s = split (expr_code i p k) (Op.LoadArray k a k ∷ []) p m (omega (arith, expr_length i p k)) h in
      (m, expr_at i p k m s.0 refl, s.1.0, omega arith)
  expr_at (Unary UnaryOperator.Plus e) p k q h at' =
      let m = p + expr_size e in
      let s = split (expr_code e p k) [] p m (omega (arith, expr_length e p k)) h in
      expr_at e p k q s.0 (omega arith)
  expr_at (Unary UnaryOperator.Negate e) p k q h at' =
      let m = p + expr_size e in
      let s = split (expr_code e p k) (Op.Neg k k ∷ []) p m (omega (arith, expr_length e p k)) h in
      (m, expr_at e p k m s.0 refl, s.1.0, omega arith)
  expr_at (Unary UnaryOperator.Complement e) p k q h at' =
      let m = p + expr_size e in
      let s = split (expr_code e p k) (Op.Not k k ∷ []) p m (omega (arith, expr_length e p k)) h in
      (m, expr_at e p k m s.0 refl, s.1.0, omega arith)
  expr_at (Unary UnaryOperator.Not e) p k q h at' =
      let m = p + expr_size e in
      let s = split (expr_code e p k) (Op.Flip k k ∷ []) p m (omega (arith, expr_length e p k)) h in
      (m, expr_at e p k m s.0 refl, s.1.0, omega arith)
  expr_at (Parenthesized e) p k q h at' = expr_at e p k q h at'
  expr_at (Binary op l r) p k q h e =
      let m = p + expr_size l in
      let n = m + expr_size r in
      let left = expr_code l p k in
      let right = expr_code r m (k + 1) in
      let s = split (left ++ right) (Op.Bin (operator_of op) k k (k + 1) ∷ []) p n (omega (arith, length-append left right, expr_length l p k, expr_length r m (k + 1))) h in
      let s' = split left right p m (omega (arith, expr_length l p k)) s.0 in
      (m, n, expr_at l p k m s'.0 refl, expr_at r m (k + 1) n s'.1 refl, s.1.0, omega arith)
  expr_at (LogicalAnd l r) p k q h e =
      let m = p + expr_size l in
      let n = m + 1 + expr_size r in
      let z = n + 3 in
      let left = expr_code l p k in
      let test : List Op = Op.JumpZero k z ∷ [] in
      let right = expr_code r (m + 1) k in
      let end : List Op = Op.JumpZero k z ∷ Op.Const k 1 ∷ Op.Jump (z + 1) ∷ Op.Const k 0 ∷ [] in
      let s = split ((left ++ test) ++ right) end p n (omega (arith, length-append (left ++ test) right, length-append left test, expr_length l p k, expr_length r (m + 1) k)) h in
      let s' = split (left ++ test) right p (m + 1) (omega (arith, length-append left test, expr_length l p k)) s.0 in
      let s'' = split left test p m (omega (arith, expr_length l p k)) s'.0 in
      (m, n, z, expr_at l p k m s''.0 refl, s''.1.0, expr_at r (m + 1) k n s'.1 refl, s.1.0, s.1.1.0, jump_is (n + 1 + 1) (z + 1) q s.1.1.1.0 (omega arith), at_is (n + 1 + 1 + 1) z (Op.Const k 0) (omega arith) s.1.1.1.1.0, omega arith)
  expr_at (LogicalOr l r) p k q h e =
      let m = p + expr_size l in
      let a = m + 2 in
      let n = a + expr_size r in
      let one = n + 1 in
      let left = expr_code l p k in
      let test : List Op = Op.JumpZero k a ∷ Op.Jump one ∷ [] in
      let right = expr_code r a k in
      let end : List Op = Op.JumpZero k (one + 2) ∷ Op.Const k 1 ∷ Op.Jump (one + 3) ∷ Op.Const k 0 ∷ [] in
      let s = split ((left ++ test) ++ right) end p n (omega (arith, length-append (left ++ test) right, length-append left test, expr_length l p k, expr_length r a k)) h in
      let s' = split (left ++ test) right p a (omega (arith, length-append left test, expr_length l p k)) s.0 in
      let s'' = split left test p m (omega (arith, expr_length l p k)) s'.0 in
      (m, n, a, one + 2, expr_at l p k m s''.0 refl, s''.1.0, s''.1.1.0, expr_at r a k n s'.1 refl, s.1.0, s.1.1.0, jump_is (n + 1 + 1) (one + 3) q s.1.1.1.0 (omega arith), at_is (n + 1 + 1 + 1) (one + 2) (Op.Const k 0) (omega arith) s.1.1.1.1.0, omega arith)
  expr_at (Conditional c a b) p k q h e =
      let m = p + expr_size c in
      let n = m + 1 + expr_size a in
      let z = n + 1 in
      let test : List Op = Op.JumpZero k z ∷ [] in
      let jump : List Op = Op.Jump (z + expr_size b) ∷ [] in
      let one = expr_code c p k in
      let two = expr_code a (m + 1) k in
      let three = expr_code b z k in
      let s = split (((one ++ test) ++ two) ++ jump) three p z (omega (arith, length-append ((one ++ test) ++ two) jump, length-append (one ++ test) two, length-append one test, expr_length c p k, expr_length a (m + 1) k)) h in
      let s' = split ((one ++ test) ++ two) jump p n (omega (arith, length-append (one ++ test) two, length-append one test, expr_length c p k, expr_length a (m + 1) k)) s.0 in
      let s'' = split (one ++ test) two p (m + 1) (omega (arith, length-append one test, expr_length c p k)) s'.0 in
      let s''' = split one test p m (omega (arith, expr_length c p k)) s''.0 in
      (m, n, z, expr_at c p k m s'''.0 refl, s'''.1.0, expr_at a (m + 1) k n s''.1 refl, jump_is n (z + expr_size b) q s'.1.0 (omega arith), expr_at b z k q s.1 (omega arith))
  expr_at _ p k q h e = (h.0, e)

  args_at : (es : List ExprTree) (p k q : ℕ) → PartAt p (arguments_code es p k) → q ≡ p + arguments_size es → ArgsAt fetch p es k q
  args_at [] p k q h e = omega arith
  args_at (x ∷ es) p k q h e =
      let m = p + expr_size x in
      let s = split (expr_code x p k) (arguments_code es m (k + 1)) p m (omega (arith, expr_length x p k)) h in
      (m, expr_at x p k m s.0 refl, args_at es m (k + 1) q s.1 (omega arith))

  -- a call's operation is its last
  call_at : (c : CallTree) (p k : ℕ) (d : Option ℕ) → PartAt p (call_code c p k d) → (m : ℕ) × CallAt fetch p c k d m × (p + call_size c ≡ m + 1)
  call_at (CallFunction s f es) p k d h =
      let m = p + arguments_size es in
      let s' = split (arguments_code es p k) (Op.Call s d f (arguments_in es k) ∷ []) p m (omega (arith, arguments_length es p k)) h in
      (m, (args_at es p k m s'.0 refl, s'.1.0), omega arith)
  call_at (CallTable s t i e) p k d h =
      let n = p + expr_size i in
      let m = n + expr_size e in
      let one = expr_code i p k in
      let two = expr_code e n (k + 1) in
      let s' = split (one ++ two) (Op.CallTable s d t k (k + 1) ∷ []) p m (omega (arith, length-append one two, expr_length i p k, expr_length e n (k + 1))) h in
      let s'' = split one two p n (omega (arith, expr_length i p k)) s'.0 in
      (m, (n, expr_at i p k n s''.0 refl, expr_at e n (k + 1) m s''.1 refl, s'.1.0), omega arith)
  call_at (CallSpawn s f e) p k d h =
      let m = p + expr_size e in
      let s' = split (expr_code e p k) (Op.Spawn s d f k ∷ []) p m (omega (arith, expr_length e p k)) h in
      (m, (expr_at e p k m s'.0 refl, s'.1.0), omega arith)
  call_at (CallModelled s c es) p k d h =
      let m = p + arguments_size es in
      let s' = split (arguments_code es p k) (Op.Model s d (number_of c) (arguments_in es k) ∷ []) p m (omega (arith, arguments_length es p k)) h in
      (m, (args_at es p k m s'.0 refl, s'.1.0), omega arith)

  module _ (t : ℕ) where
    -- a right side that is held before it is stored
    held_right : (v : RightTree) (target : Target) (p n q : ℕ) → PartAt p (held_code v p (held fetch t target)) → n ≡ p + held_size v → StoreAt fetch t target n q
        → ((m : ℕ) → StoreAt fetch t target (m + 1) q → ResultAt fetch t target (Some (held fetch t target)) m q) → RightAt fetch t p v target q
    held_right (Computed e) target p n q h at' store result = (n, expr_at e p (held fetch t target) n h at', store)
    held_right (Called c) target p n q h at' store result =
        let call = call_at c p (held fetch t target) (Some (held fetch t target)) h in
        (call.0, Some (held fetch t target), call.1, result call.0 (subst (λ k. StoreAt fetch t target k q) (at' ∙ call.2) store))

    set_right : (v : RightTree) (x p q : ℕ) → PartAt p (set_code v p t x) → q ≡ p + set_size v → RightAt fetch t p v (ToLocal x) q
    set_right (Computed e) x p q h at' =
        let m = p + expr_size e in
        let s = split (expr_code e p t) (Op.Copy x t ∷ []) p m (omega (arith, expr_length e p t)) h in
        (m, expr_at e p t m s.0 refl, (s.1.0, omega arith))
    set_right (Called c) x p q h at' = let call = call_at c p t (Some x) h in (call.0, Some x, call.1, (refl, at' ∙ call.2))

    simple_at : (s : SimpleTree) (p q : ℕ) → PartAt p (simple_code s p t) → q ≡ p + simple_size s → SimpleAt fetch t p s q
    simple_at (DeclareWith x v) p q h at' = set_right v x p q h at'
    simple_at (SetLocal x v) p q h at' = set_right v x p q h at'
    simple_at (SetGlobal g v) p q h at' =
        let n = p + held_size v in
        let s = split (held_code v p t) (Op.StoreGlobal g t ∷ []) p n (omega (arith, held_length v p t)) h in
        held_right v (ToGlobal g) p n q s.0 refl (s.1.0, omega arith) (λ m store. (refl, store))
    simple_at (SetLocalElement a i v) p q h at' =
        let m = p + expr_size i in
        let n = m + held_size v in
        let one = expr_code i p t in
        let two = held_code v m (t + 1) in
        let s = split (one ++ two) (Op.StoreLocal a t (t + 1) ∷ []) p n (omega (arith, length-append one two, expr_length i p t, held_length v m (t + 1))) h in
        let s' = split one two p m (omega (arith, expr_length i p t)) s.0 in
        (m, expr_at i p t m s'.0 refl, held_right v (ToLocalElement a) m n q s'.1 refl (s.1.0, omega arith) (λ k store. (refl, store)))
    simple_at (SetGlobalElement a i v) p q h at' =
        let m = p + expr_size i in
        let n = m + held_size v in
        let one = expr_code i p t in
        let two = held_code v m (t + 1) in
        let s = split (one ++ two) (Op.StoreArray a t (t + 1) ∷ []) p n (omega (arith, length-append one two, expr_length i p t, held_length v m (t + 1))) h in
        let s' = split one two p m (omega (arith, expr_length i p t)) s.0 in
        (m, expr_at i p t m s'.0 refl, held_right v (ToGlobalElement a) m n q s'.1 refl (s.1.0, omega arith) (λ k store. (refl, store)))
    simple_at (Calling c) p q h at' = let call = call_at c p t None h in (call.0, None, call.1, (refl, at' ∙ call.2))
    simple_at _ p q h at' = (h.0, at')

    simples_at : (ss : List SimpleTree) (p q : ℕ) → PartAt p (simples_code ss p t) → q ≡ p + simples_size ss → SimplesAt fetch t p ss q
    simples_at [] p q h at' = omega arith
    simples_at (s ∷ ss) p q h at' =
        let m = p + simple_size s in
        let s' = split (simple_code s p t) (simples_code ss m t) p m (omega (arith, simple_length s p t)) h in
        (m, simple_at s p m s'.0 refl, simples_at ss m q s'.1 (omega arith))

    step_at : (step : Option SimpleTree) (p q : ℕ) → PartAt p (step_code step p t) → q ≡ p + step_size step → StepAt fetch t p step q
    step_at None p q h at' = omega arith
    step_at (Some s) p q h at' = simple_at s p q h at'

    test_at : (c : Option ExprTree) (p to x q : ℕ) → PartAt p (test_code c p t to) → to ≡ x → q ≡ p + test_size c → TestAt fetch t p c x q
    test_at None p to x q h e at' = omega arith
    test_at (Some c) p to x q h e at' =
        let m = p + expr_size c in
        let s = split (expr_code c p t) (Op.JumpZero t to ∷ []) p m (omega (arith, expr_length c p t)) h in
        (m, expr_at c p t m s.0 refl, zero_is m t to x s.1.0 e, omega arith)

    return_at : (v : Option RightTree) (p q : ℕ) → PartAt p (return_code v p t) → ReturnAt fetch t p v q
    return_at None p q h = h.0
    return_at (Some v) p q h =
        let n = p + held_size v in
        let s = split (held_code v p t) (Op.Return (Some t) ∷ []) p n (omega (arith, held_length v p t)) h in
        held_right v ToCaller p n q s.0 refl s.1.0 (λ m store. (refl, store))

    mutual
      stmt_at : (s : StmtTree) (p q leave skip : ℕ) → PartAt p (stmt_code s p t leave skip) → q ≡ p + stmt_size s → StmtAt fetch t p s leave skip q
      stmt_at (Do s) p q leave skip h at' = simple_at s p q h at'
      stmt_at Empty p q leave skip h at' = omega arith
      stmt_at (Block ss) p q leave skip h at' = stmts_at ss p q leave skip h at'
      stmt_at (If c s) p q leave skip h at' =
          let m = p + expr_size c in
          let first = m + 1 in
          let one = expr_code c p t in
          let test : List Op = Op.JumpZero t (first + stmt_size s) ∷ [] in
          let two = stmt_code s first t leave skip in
          let s' = split (one ++ test) two p first (omega (arith, length-append one test, expr_length c p t)) h in
          let s'' = split one test p m (omega (arith, expr_length c p t)) s'.0 in
          (m, expr_at c p t m s''.0 refl, zero_is m t (first + stmt_size s) q s''.1.0 (omega arith), stmt_at s first q leave skip s'.1 (omega arith))
      stmt_at (IfElse c s r) p q leave skip h at' =
          let m = p + expr_size c in
          let first = m + 1 in
          let n = first + stmt_size s in
          let second = n + 1 in
          let one = expr_code c p t in
          let test : List Op = Op.JumpZero t second ∷ [] in
          let two = stmt_code s first t leave skip in
          let jump : List Op = Op.Jump (second + stmt_size r) ∷ [] in
          let three = stmt_code r second t leave skip in
          let a = split (((one ++ test) ++ two) ++ jump) three p second (omega (arith, length-append ((one ++ test) ++ two) jump, length-append (one ++ test) two, length-append one test, expr_length c p t, stmt_length s first t leave skip)) h in
          let b = split ((one ++ test) ++ two) jump p n (omega (arith, length-append (one ++ test) two, length-append one test, expr_length c p t, stmt_length s first t leave skip)) a.0 in
          let d = split (one ++ test) two p first (omega (arith, length-append one test, expr_length c p t)) b.0 in
          let e = split one test p m (omega (arith, expr_length c p t)) d.0 in
          (m, n, second, expr_at c p t m e.0 refl, e.1.0, stmt_at s first n leave skip d.1 refl, jump_is n (second + stmt_size r) q b.1.0 (omega arith), stmt_at r second q leave skip a.1 (omega arith))
      stmt_at (While c s) p q leave skip h at' =
          let m = p + expr_size c in
          let first = m + 1 in
          let n = first + stmt_size s in
          let end = n + 1 in
          let one = expr_code c p t in
          let test : List Op = Op.JumpZero t end ∷ [] in
          let two = stmt_code s first t end p in
          let a = split ((one ++ test) ++ two) (Op.Jump p ∷ []) p n (omega (arith, length-append (one ++ test) two, length-append one test, expr_length c p t, stmt_length s first t end p)) h in
          let b = split (one ++ test) two p first (omega (arith, length-append one test, expr_length c p t)) a.0 in
          let d = split one test p m (omega (arith, expr_length c p t)) b.0 in
          let same : end ≡ q = omega arith in
          (m, n, expr_at c p t m d.0 refl, zero_is m t end q d.1.0 same, subst (λ x. StmtAt fetch t first s x p n) same (stmt_at s first n end p b.1 refl), a.1.0)
      stmt_at (For init c step s) p q leave skip h at' =
          let turn = p + simples_size init in
          let body = turn + test_size c in
          let next = body + stmt_size s in
          let k = next + step_size step in
          let end = k + 1 in
          let one = simples_code init p t in
          let two = test_code c turn t end in
          let three = stmt_code s body t end next in
          let four = step_code step next t in
          let a = split (((one ++ two) ++ three) ++ four) (Op.Jump turn ∷ []) p k
          (omega (arith, length-append ((one ++ two) ++ three) four, length-append (one ++ two) three, length-append one two, simples_length init p t, test_length c turn t end, stmt_length s body t end next, step_length step next t)) h in
          let b = split ((one ++ two) ++ three) four p next (omega (arith, length-append (one ++ two) three, length-append one two, simples_length init p t, test_length c turn t end, stmt_length s body t end next)) a.0 in
          let d = split (one ++ two) three p body (omega (arith, length-append one two, simples_length init p t, test_length c turn t end)) b.0 in
          let e = split one two p turn (omega (arith, simples_length init p t)) d.0 in
          let same : end ≡ q = omega arith in
          (turn, simples_at init p turn e.0 refl, (body, next, k, test_at c turn end q body e.1 same refl, subst (λ x. StmtAt fetch t body s x next next) same (stmt_at s body next end next d.1 refl), step_at step next k b.1 refl, a.1.0))
      stmt_at (Return v) p q leave skip h at' = return_at v p q h
      stmt_at _ p q leave skip h at' = h.0

      pub stmts_at : (ss : StmtTrees) (p q leave skip : ℕ) → PartAt p (stmts_code ss p t leave skip) → q ≡ p + stmts_size ss → StmtsAt fetch t p ss leave skip q
      stmts_at NoStmts p q leave skip h at' = omega arith
      stmts_at (Then s ss) p q leave skip h at' =
          let m = p + stmt_size s in
          let s' = split (stmt_code s p t leave skip) (stmts_code ss m t leave skip) p m (omega (arith, stmt_length s p t leave skip)) h in
          (m, stmt_at s p m leave skip s'.0 refl, stmts_at ss m q leave skip s'.1 (omega arith))

    pub end_at : (gives : Bool) (p : ℕ) → PartAt p (closing_code gives t) → EndAt fetch t gives p
    end_at true p h = (h.0, h.1.0)
    end_at false p h = h.0
