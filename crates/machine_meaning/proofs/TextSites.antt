-- Each site of a function's code is that of a call in its text.
use Rattle.machine_meaning.proofs.Common.{◌≡◌, ◌+◌, ℕ, zero, suc, Bool, true, false, List, [], ◌∷◌, ◌++◌, map, refl, sym, subst, ◌∙◌, Option, Some, None, slice_get, AllByRecursion, Contains, below, simple_names, ExprTree, CallTree, CallFunction, CallTable, CallSpawn, CallModelled, RightTree, Computed, Called, SimpleTree, DeclareScalar, DeclareArray, DeclareWith, SetLocal, SetGlobal, SetLocalElement, SetGlobalElement, Calling, StmtTree, StmtTrees, Do, Empty, Block, If, IfElse, While, For, Break, Continue, Return, NoStmts, Then, FunctionTree, with_names, scope_after, scope_after_all, Target, ToNowhere, ToLocal, ToGlobal, ToLocalElement, ToGlobalElement, ToCaller, CallInText, right_calls, simple_calls, simples_calls, step_calls, returned_calls, stmt_calls, stmts_calls, function_calls, Item, Simply, Back, WhileLoop, ForLoop, step_item, all_before, turn_before, AllIn, all_in_parts, Op, site_of, expr_size, expr_code, arguments_in, arguments_code, call_code, set_code, held_code, simple_size, simple_code, simples_size, simples_code, step_size, step_code, test_size, test_code, return_code, stmt_size, stmt_code, stmts_code, closing_code, first_temporary, function_ops, IsPlain, ArePlain, expr_plain, arguments_plain, All-weaker, All-append}
use Rattle.c_mean.specs.Sites as text
use Rattle.machine_meaning.proofs.Pushed.{all_in_self}

-- no site
abbrev no_site : Option ℕ
no_site = None

-- ---- sites of a text

-- if the operation has a site, it is that of a call in this text
pub record HasCall (calls : List CallInText) (op : Op) : Type 0 where
  pub found : (s : ℕ) → site_of op ≡ Some s → (call : CallInText) × Contains calls call × (text.site_of call ≡ s)

module _ (calls : List CallInText) where
  abbrev All : List Op → Type 0
  All ops = AllByRecursion (HasCall calls) ops

  both : (xs ys : List Op) → All xs → All ys → All (xs ++ ys)
  both xs ys a b = All-append (HasCall calls) xs ys a b

  plain : (op : Op) → site_of op ≡ None → HasCall calls op
  plain op h = record { found = λ s e. absurd (let n : no_site ≡ Some s = sym h ∙ e in cc) }

  all_plain : (ops : List Op) → ArePlain ops → All ops
  all_plain ops h = All-weaker IsPlain (HasCall calls) (λ op is. plain op is.0) ops h

  -- an operation at the site of a call that is there
  sited : (op : Op) (call : CallInText) → site_of op ≡ Some (text.site_of call) → Contains calls call → HasCall calls op
  sited op call h there = record { found = λ s e. (call, there, (let both_ : Some (text.site_of call) ≡ Some s = sym h ∙ e in cc)) }

  call_all : (call : CallTree) (target : Target) (scope : List ℕ) (rest : List Item) (p k : ℕ) (d : Option ℕ) → Contains calls (record { call = call; target = target; scope = scope; rest = rest }) → All (call_code call p k d)
  call_all (CallFunction s f es) target scope rest p k d h = both (arguments_code es p k) _ (all_plain (arguments_code es p k) (arguments_plain es p k)) (sited (Op.Call s d f (arguments_in es k)) (record { call = CallFunction s f es; target = target; scope = scope; rest = rest }) refl h, tt)
  call_all (CallTable s f i e) target scope rest p k d h =
      both (expr_code i p k ++ expr_code e (p + expr_size i) (k + 1)) _ (both (expr_code i p k) _ (all_plain (expr_code i p k) (expr_plain i p k)) (all_plain (expr_code e (p + expr_size i) (k + 1)) (expr_plain e (p + expr_size i) (k + 1))))
      (sited (Op.CallTable s d f k (k + 1)) (record { call = CallTable s f i e; target = target; scope = scope; rest = rest }) refl h, tt)
  call_all (CallSpawn s f e) target scope rest p k d h = both (expr_code e p k) _ (all_plain (expr_code e p k) (expr_plain e p k)) (sited (Op.Spawn s d f k) (record { call = CallSpawn s f e; target = target; scope = scope; rest = rest }) refl h, tt)
  call_all (CallModelled s m es) target scope rest p k d h =
      both (arguments_code es p k) _ (all_plain (arguments_code es p k) (arguments_plain es p k)) (sited (Op.Model s d (Rattle.cap_word.specs.ModelledCalls.number_of m) (arguments_in es k)) (record { call = CallModelled s m es; target = target; scope = scope; rest = rest }) refl h, tt)

  set_all : (v : RightTree) (target : Target) (scope : List ℕ) (rest : List Item) (p k x : ℕ) → AllIn calls (right_calls v target scope rest) → All (set_code v p k x)
  set_all (Computed e) target scope rest p k x h = both (expr_code e p k) _ (all_plain (expr_code e p k) (expr_plain e p k)) (plain (Op.Copy x k) refl, tt)
  set_all (Called call) target scope rest p k x h = call_all call target scope rest p k (Some x) h.0

  held_all : (v : RightTree) (target : Target) (scope : List ℕ) (rest : List Item) (p k : ℕ) → AllIn calls (right_calls v target scope rest) → All (held_code v p k)
  held_all (Computed e) target scope rest p k h = all_plain (expr_code e p k) (expr_plain e p k)
  held_all (Called call) target scope rest p k h = call_all call target scope rest p k (Some k) h.0

  simple_all : (s : SimpleTree) (scope : List ℕ) (rest : List Item) (p t : ℕ) → AllIn calls (simple_calls s scope rest) → All (simple_code s p t)
  simple_all (DeclareScalar x) scope rest p t h = (plain (Op.Const x 0) refl, tt)
  simple_all (DeclareArray x n) scope rest p t h = (plain (Op.Zero x) refl, tt)
  simple_all (DeclareWith x v) scope rest p t h = set_all v (ToLocal x) scope rest p t x h
  simple_all (SetLocal x v) scope rest p t h = set_all v (ToLocal x) scope rest p t x h
  simple_all (SetGlobal g v) scope rest p t h = both (held_code v p t) _ (held_all v (ToGlobal g) scope rest p t h) (plain (Op.StoreGlobal g t) refl, tt)
  simple_all (SetLocalElement a i v) scope rest p t h =
      both (expr_code i p t ++ held_code v (p + expr_size i) (t + 1)) _ (both (expr_code i p t) _ (all_plain (expr_code i p t) (expr_plain i p t)) (held_all v (ToLocalElement a) scope rest (p + expr_size i) (t + 1) h)) (plain (Op.StoreLocal a t (t + 1)) refl, tt)
  simple_all (SetGlobalElement a i v) scope rest p t h =
      both (expr_code i p t ++ held_code v (p + expr_size i) (t + 1)) _ (both (expr_code i p t) _ (all_plain (expr_code i p t) (expr_plain i p t)) (held_all v (ToGlobalElement a) scope rest (p + expr_size i) (t + 1) h)) (plain (Op.StoreArray a t (t + 1)) refl, tt)
  simple_all (Calling call) scope rest p t h = call_all call ToNowhere scope rest p t None h.0

  simples_all : (ss : List SimpleTree) (scope : List ℕ) (rest : List Item) (p t : ℕ) → AllIn calls (simples_calls ss scope rest) → All (simples_code ss p t)
  simples_all [] scope rest p t h = tt
  simples_all (s ∷ ss) scope rest p t h =
      let later = with_names scope (simple_names s) in
      let parts = all_in_parts calls (simple_calls s scope (map Simply ss ++ rest)) (simples_calls ss later rest) h in
      both (simple_code s p t) _ (simple_all s scope (map Simply ss ++ rest) p t parts.0) (simples_all ss later rest (p + simple_size s) t parts.1)

  step_all : (step : Option SimpleTree) (scope : List ℕ) (rest : List Item) (p t : ℕ) → AllIn calls (step_calls step scope rest) → All (step_code step p t)
  step_all None scope rest p t h = tt
  step_all (Some s) scope rest p t h = simple_all s scope rest p t h

  condition_all : (q : ExprTree) (p t to : ℕ) → All (expr_code q p t ++ (Op.JumpZero t to ∷ []))
  condition_all q p t to = both (expr_code q p t) _ (all_plain (expr_code q p t) (expr_plain q p t)) (plain (Op.JumpZero t to) refl, tt)

  test_all : (q : Option ExprTree) (p t to : ℕ) → All (test_code q p t to)
  test_all None p t to = tt
  test_all (Some q) p t to = condition_all q p t to

  return_all : (v : Option RightTree) (scope : List ℕ) (rest : List Item) (p t : ℕ) → AllIn calls (returned_calls v scope rest) → All (return_code v p t)
  return_all None scope rest p t h = (plain (Op.Return None) refl, tt)
  return_all (Some v) scope rest p t h = both (held_code v p t) _ (held_all v ToCaller scope rest p t h) (plain (Op.Return (Some t)) refl, tt)

  jump_all : (to : ℕ) → All (Op.Jump to ∷ [])
  jump_all to = (plain (Op.Jump to) refl, tt)

  mutual
    stmt_all : (s : StmtTree) (scope : List ℕ) (rest : List Item) (p t leave skip : ℕ) → AllIn calls (stmt_calls s scope rest) → All (stmt_code s p t leave skip)
    stmt_all (Do s) scope rest p t leave skip h = simple_all s scope rest p t h
    stmt_all Empty scope rest p t leave skip h = tt
    stmt_all (Block ss) scope rest p t leave skip h = stmts_all ss scope rest p t leave skip h
    stmt_all (If q s) scope rest p t leave skip h =
        let first = p + expr_size q + 1 in
        both (expr_code q p t ++ (Op.JumpZero t (first + stmt_size s) ∷ [])) _ (condition_all q p t (first + stmt_size s)) (stmt_all s scope rest first t leave skip h)
    stmt_all (IfElse q s r) scope rest p t leave skip h =
        let first = p + expr_size q + 1 in
        let second = first + stmt_size s + 1 in
        let parts = all_in_parts calls (stmt_calls s scope rest) (stmt_calls r scope rest) h in
        both (expr_code q p t ++ (Op.JumpZero t second ∷ []) ++ stmt_code s first t leave skip ++ (Op.Jump (second + stmt_size r) ∷ [])) _
        (both (expr_code q p t ++ (Op.JumpZero t second ∷ []) ++ stmt_code s first t leave skip) _
        (both (expr_code q p t ++ (Op.JumpZero t second ∷ [])) _ (condition_all q p t second) (stmt_all s scope rest first t leave skip parts.0)) (jump_all (second + stmt_size r)))
        (stmt_all r scope rest second t leave skip parts.1)
    stmt_all (While q s) scope rest p t leave skip h =
        let body = p + expr_size q + 1 in
        let end = body + stmt_size s + 1 in
        both (expr_code q p t ++ (Op.JumpZero t end ∷ []) ++ stmt_code s body t end p) _
        (both (expr_code q p t ++ (Op.JumpZero t end ∷ [])) _ (condition_all q p t end) (stmt_all s scope (Back (WhileLoop q s) ∷ rest) body t end p h)) (jump_all p)
    stmt_all (For init q step s) scope rest p t leave skip h =
        let l = ForLoop q step s in
        let inner = scope_after_all scope init in
        let turn = p + simples_size init in
        let body = turn + test_size q in
        let next = body + stmt_size s in
        let end = next + step_size step + 1 in
        let parts = all_in_parts calls (simples_calls init scope (turn_before l rest)) (step_calls step inner (Back l ∷ rest) ++ stmt_calls s inner (step_item step ++ Back l ∷ rest)) h in
        let later = all_in_parts calls (step_calls step inner (Back l ∷ rest)) (stmt_calls s inner (step_item step ++ Back l ∷ rest)) parts.1 in
        both (simples_code init p t ++ test_code q turn t end ++ stmt_code s body t end next ++ step_code step next t) _
        (both (simples_code init p t ++ test_code q turn t end ++ stmt_code s body t end next) _
        (both (simples_code init p t ++ test_code q turn t end) _
        (both (simples_code init p t) _ (simples_all init scope (turn_before l rest) p t parts.0) (test_all q turn t end))
        (stmt_all s inner (step_item step ++ Back l ∷ rest) body t end next later.1))
        (step_all step inner (Back l ∷ rest) next t later.0))
        (jump_all turn)
    stmt_all Break scope rest p t leave skip h = jump_all leave
    stmt_all Continue scope rest p t leave skip h = jump_all skip
    stmt_all (Return v) scope rest p t leave skip h = return_all v scope rest p t h

    stmts_all : (ss : StmtTrees) (scope : List ℕ) (rest : List Item) (p t leave skip : ℕ) → AllIn calls (stmts_calls ss scope rest) → All (stmts_code ss p t leave skip)
    stmts_all NoStmts scope rest p t leave skip h = tt
    stmts_all (Then s ss) scope rest p t leave skip h =
        let later = scope_after scope s in
        let parts = all_in_parts calls (stmt_calls s scope (all_before ss rest)) (stmts_calls ss later rest) h in
        both (stmt_code s p t leave skip) _ (stmt_all s scope (all_before ss rest) p t leave skip parts.0) (stmts_all ss later rest (p + stmt_size s) t leave skip parts.1)

  closing_all : (gives : Bool) (t : ℕ) → All (closing_code gives t)
  closing_all true t = (plain (Op.Const t 0) refl, (plain (Op.Return (Some t)) refl, tt))
  closing_all false t = (plain (Op.Return None) refl, tt)

  one_of : (ops : List Op) (i : ℕ) (op : Op) → All ops → slice_get ops i ≡ Some op → HasCall calls op
  one_of [] i op all here = absurd cc
  one_of (first ∷ ops) zero op all here = let same : first ≡ op = cc in subst (HasCall calls) same all.0
  one_of (first ∷ ops) (suc i) op all here = one_of ops i op all.1 here

-- an operation of a function with a site
pub function_site : (f : FunctionTree) (i : ℕ) (op : Op) → slice_get (function_ops f) i ≡ Some op → HasCall (function_calls f) op
function_site f i op here =
    one_of (function_calls f) (function_ops f) i op
    (All-append (HasCall (function_calls f)) (stmts_code f.body 0 (first_temporary f) 0 0) (closing_code f.gives (first_temporary f))
    (stmts_all (function_calls f) f.body (below f.params) [] 0 (first_temporary f) 0 0 (all_in_self (function_calls f)))
    (closing_all (function_calls f) f.gives (first_temporary f)))
    here
