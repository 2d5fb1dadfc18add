-- The only operation that resets a variable is that of a declared array, which has a word at least.
use Rattle.machine_meaning.proofs.Common.{◌≡◌, ◌<◌, ◌+◌, ℕ, zero, suc, Bool, true, false, List, [], ◌∷◌, ◌++◌, length, map, subst, ◌∙◌, arith, Option, Some, None, slice_index, slice_index_or, slice_get, AllByRecursion, function_temporaries, simple_names, ExprTree, CallTree, CallFunction, CallTable, CallSpawn, CallModelled, RightTree, Computed, Called, SimpleTree, DeclareScalar, DeclareArray, DeclareWith, SetLocal, SetGlobal, SetLocalElement, SetGlobalElement, Calling, StmtTree, StmtTrees, Do, Empty, Block, If, IfElse, While, For, Return, NoStmts, Then, FunctionTree, ProgramTree, Context, context_of, IsSimpleScoped, AreSimplesScoped, with_names, scope_after, scope_after_all, IsStepScoped, IsStmtScoped, AreStmtsScoped, IsFunctionScoped, AreFunctionsScoped, IsWellScoped, Op, expr_size, expr_code, arguments_code, call_code, set_code, held_code, simple_size, simple_code, simples_size, simples_code, step_size, step_code, test_size, test_code, return_code, stmt_size, stmt_code, stmts_code, closing_code, first_temporary, lowered_function, lowered, is_reset, IsPlain, ArePlain, expr_plain, arguments_plain, All-weaker, All-append}
use Rattle.std.proofs.Math.ListN.{get_or-append}
use Rattle.c_tree.specs.Sizes.{scalars, below}
use Rattle.segment_laws.specs.Zeroes.{ZeroesSome}

-- what an operation resets has words
abbrev ResetsSome : List ℕ → Op → Type 0
ResetsSome sizes (Op.Zero a) = 0 < slice_index sizes a
ResetsSome sizes _ = Unit {0}

plain : (sizes : List ℕ) (op : Op) → is_reset op ≡ false → ResetsSome sizes op
plain sizes (Op.Zero a) none = absurd (cc)
plain sizes _ none = tt

module _ (c : Context) (sizes : List ℕ) (words : (x w : ℕ) → x < length c.sizes → slice_index c.sizes x ≡ w → slice_index sizes x ≡ w) where
  abbrev All : List Op → Type 0
  All ops = AllByRecursion (ResetsSome sizes) ops

  both : (xs ys : List Op) → All xs → All ys → All (xs ++ ys)
  both xs ys a b = All-append (ResetsSome sizes) xs ys a b

  all_plain : (ops : List Op) → ArePlain ops → All ops
  all_plain ops h = All-weaker IsPlain (ResetsSome sizes) (λ op is. plain sizes op is.1) ops h

  expr_all : (e : ExprTree) (p k : ℕ) → All (expr_code e p k)
  expr_all e p k = all_plain (expr_code e p k) (expr_plain e p k)

  arguments_all : (es : List ExprTree) (p k : ℕ) → All (arguments_code es p k)
  arguments_all es p k = all_plain (arguments_code es p k) (arguments_plain es p k)

  call_all : (call : CallTree) (p k : ℕ) (d : Option ℕ) → All (call_code call p k d)
  call_all (CallFunction s f es) p k d = both (arguments_code es p k) _ (arguments_all es p k) (tt, tt)
  call_all (CallTable s t i e) p k d =
      both (expr_code i p k ++ expr_code e (p + expr_size i) (k + 1)) _ (both (expr_code i p k) _ (expr_all i p k) (expr_all e (p + expr_size i) (k + 1))) (tt, tt)
  call_all (CallSpawn s f e) p k d = both (expr_code e p k) _ (expr_all e p k) (tt, tt)
  call_all (CallModelled s m es) p k d = both (arguments_code es p k) _ (arguments_all es p k) (tt, tt)

  set_all : (v : RightTree) (p k x : ℕ) → All (set_code v p k x)
  set_all (Computed e) p k x = both (expr_code e p k) _ (expr_all e p k) (tt, tt)
  set_all (Called call) p k x = call_all call p k (Some x)

  held_all : (v : RightTree) (p k : ℕ) → All (held_code v p k)
  held_all (Computed e) p k = expr_all e p k
  held_all (Called call) p k = call_all call p k (Some k)

  simple_all : (scope : List ℕ) (s : SimpleTree) (p t : ℕ) → IsSimpleScoped c scope s → All (simple_code s p t)
  simple_all scope (DeclareScalar x) p t h = (tt, tt)
  simple_all scope (DeclareArray x n) p t h = (omega (arith, words x n h.0 h.1, h.2), tt)
  simple_all scope (DeclareWith x v) p t h = set_all v p t x
  simple_all scope (SetLocal x v) p t h = set_all v p t x
  simple_all scope (SetGlobal g v) p t h = both (held_code v p t) _ (held_all v p t) (tt, tt)
  simple_all scope (SetLocalElement a i v) p t h =
      both (expr_code i p t ++ held_code v (p + expr_size i) (t + 1)) _ (both (expr_code i p t) _ (expr_all i p t) (held_all v (p + expr_size i) (t + 1))) (tt, tt)
  simple_all scope (SetGlobalElement a i v) p t h =
      both (expr_code i p t ++ held_code v (p + expr_size i) (t + 1)) _ (both (expr_code i p t) _ (expr_all i p t) (held_all v (p + expr_size i) (t + 1))) (tt, tt)
  simple_all scope (Calling call) p t h = call_all call p t None

  simples_all : (scope : List ℕ) (ss : List SimpleTree) (p t : ℕ) → AreSimplesScoped c scope ss → All (simples_code ss p t)
  simples_all scope [] p t h = tt
  simples_all scope (s ∷ ss) p t h = both (simple_code s p t) _ (simple_all scope s p t h.0) (simples_all (with_names scope (simple_names s)) ss (p + simple_size s) t h.1)

  step_all : (scope : List ℕ) (s : Option SimpleTree) (p t : ℕ) → IsStepScoped c scope s → All (step_code s p t)
  step_all scope None p t h = tt
  step_all scope (Some s) p t h = simple_all scope s p t h.1

  test_all : (q : Option ExprTree) (p t to : ℕ) → All (test_code q p t to)
  test_all None p t to = tt
  test_all (Some q) p t to = both (expr_code q p t) _ (expr_all q p t) (tt, tt)

  return_all : (v : Option RightTree) (p t : ℕ) → All (return_code v p t)
  return_all None p t = (tt, tt)
  return_all (Some v) p t = both (held_code v p t) _ (held_all v p t) (tt, tt)

  condition_all : (q : ExprTree) (p t to : ℕ) → All (expr_code q p t ++ (Op.JumpZero t to ∷ []))
  condition_all q p t to = both (expr_code q p t) _ (expr_all q p t) (tt, tt)

  mutual
    stmt_all : (loop : Bool) (scope : List ℕ) (s : StmtTree) (p t leave skip : ℕ) → IsStmtScoped c loop scope s → All (stmt_code s p t leave skip)
    stmt_all loop scope (Do s) p t leave skip h = simple_all scope s p t h
    stmt_all loop scope Empty p t leave skip h = tt
    stmt_all loop scope (Block ss) p t leave skip h = stmts_all loop scope ss p t leave skip h
    stmt_all loop scope (If q s) p t leave skip h =
        let first = p + expr_size q + 1 in
        both (expr_code q p t ++ (Op.JumpZero t (first + stmt_size s) ∷ [])) _ (condition_all q p t (first + stmt_size s)) (stmt_all loop scope s first t leave skip h.1)
    stmt_all loop scope (IfElse q s r) p t leave skip h =
        let first = p + expr_size q + 1 in
        let second = first + stmt_size s + 1 in
        both (expr_code q p t ++ (Op.JumpZero t second ∷ []) ++ stmt_code s first t leave skip ++ (Op.Jump (second + stmt_size r) ∷ [])) _
        (both (expr_code q p t ++ (Op.JumpZero t second ∷ []) ++ stmt_code s first t leave skip) _
        (both (expr_code q p t ++ (Op.JumpZero t second ∷ [])) _ (condition_all q p t second) (stmt_all loop scope s first t leave skip h.1)) (tt, tt))
        (stmt_all loop scope r second t leave skip h.2)
    stmt_all loop scope (While q s) p t leave skip h =
        let body = p + expr_size q + 1 in
        let end = body + stmt_size s + 1 in
        both (expr_code q p t ++ (Op.JumpZero t end ∷ []) ++ stmt_code s body t end p) _
        (both (expr_code q p t ++ (Op.JumpZero t end ∷ [])) _ (condition_all q p t end) (stmt_all true scope s body t end p h.1)) (tt, tt)
    stmt_all loop scope (For init q step s) p t leave skip h =
        let turn = p + simples_size init in
        let body = turn + test_size q in
        let next = body + stmt_size s in
        let end = next + step_size step + 1 in
        both (simples_code init p t ++ test_code q turn t end ++ stmt_code s body t end next ++ step_code step next t) _
        (both (simples_code init p t ++ test_code q turn t end ++ stmt_code s body t end next) _
        (both (simples_code init p t ++ test_code q turn t end) _
        (both (simples_code init p t) _ (simples_all scope init p t h.0) (test_all q turn t end))
        (stmt_all true (scope_after_all scope init) s body t end next h.3))
        (step_all (scope_after_all scope init) step next t h.2))
        (tt, tt)
    stmt_all loop scope (Return v) p t leave skip h = return_all v p t
    stmt_all loop scope _ p t leave skip h = (tt, tt)

    stmts_all : (loop : Bool) (scope : List ℕ) (ss : StmtTrees) (p t leave skip : ℕ) → AreStmtsScoped c loop scope ss → All (stmts_code ss p t leave skip)
    stmts_all loop scope NoStmts p t leave skip h = tt
    stmts_all loop scope (Then s ss) p t leave skip h =
        both (stmt_code s p t leave skip) _ (stmt_all loop scope s p t leave skip h.0) (stmts_all loop (scope_after scope s) ss (p + stmt_size s) t leave skip h.1)

  closing_all : (gives : Bool) (t : ℕ) → All (closing_code gives t)
  closing_all true t = (tt, (tt, tt))
  closing_all false t = (tt, tt)

function_all : (p : ProgramTree) (f : FunctionTree) → IsFunctionScoped p f → AllByRecursion (ResetsSome (lowered_function f).sizes) (lowered_function f).ops
function_all p f h =
    let c = context_of p f in
    let sizes = (lowered_function f).sizes in
    let words : (x w : ℕ) → x < length c.sizes → slice_index c.sizes x ≡ w → slice_index sizes x ≡ w = λ x w there is. get_or-append f.sizes (scalars (function_temporaries f)) 0 x there ∙ is in
    All-append (ResetsSome sizes) (stmts_code f.body 0 (first_temporary f) 0 0) (closing_code f.gives (first_temporary f))
    (stmts_all c sizes words false (below f.params) f.body 0 (first_temporary f) 0 0 h.body)
    (closing_all c sizes words f.gives (first_temporary f))

one-of : (sizes : List ℕ) (ops : List Op) (i a : ℕ) → AllByRecursion (ResetsSome sizes) ops → slice_get ops i ≡ Some (Op.Zero a) → 0 < slice_index sizes a
one-of sizes [] i a all here = cc
one-of sizes (op ∷ ops) zero a all here = let same : op ≡ Op.Zero a = cc in subst (ResetsSome sizes) same all.0
one-of sizes (op ∷ ops) (suc i) a all here = one-of sizes ops i a all.1 here

functions_zeroes : (p : ProgramTree) (fs : List FunctionTree) → AreFunctionsScoped p fs → (f i a : ℕ) → slice_get (slice_index_or (map lowered_function fs) f (record { params = 0; gives = false; sizes = []; ops = [] })).ops i ≡ Some (Op.Zero a) → 0 < slice_index (slice_index_or (map lowered_function fs) f (record { params = 0; gives = false; sizes = []; ops = [] })).sizes a
functions_zeroes p [] h f i a here = cc
functions_zeroes p (g ∷ gs) h zero i a here = one-of (lowered_function g).sizes (lowered_function g).ops i a (function_all p g h.0) here
functions_zeroes p (g ∷ gs) h (suc f) i a here = functions_zeroes p gs h.1 f i a here

pub program_zeroes : (p : ProgramTree) → IsWellScoped p → ZeroesSome (lowered p)
program_zeroes p h f i a there here = functions_zeroes p p.functions h.bodies f i a here
