-- A function of a well-scoped program has few variables: each has a word at least.
use Rattle.hoist_meaning.proofs.Common.{ℕ, zero, suc, ◌≡◌, ◌≤◌, ap, Bool, true, false, List, [], ◌∷◌, ◌++◌, length, map, length-append, Option, Some, None, arith, slice_index_or, sum, length-map, Context, context_of, with_names, scope_after, scope_after_all, IsSimpleScoped, AreSimplesScoped, IsStepScoped, IsStmtScoped, AreStmtsScoped, IsFunctionScoped, AreFunctionsScoped, IsWellScoped, function_at, scalars_length}
use Rattle.std.proofs.lemmas.List.Sums.{sum_by-cons}
use Rattle.c_tree.specs.Sizes.{below, scalars, declared_words}
use Rattle.c_tree.specs.TextOrder.{Declared, simple_names, simples_names, step_names, stmt_names, stmts_names}
use Rattle.c_tree.specs.Trees.{SimpleTree, DeclareScalar, DeclareArray, DeclareWith, StmtTree, StmtTrees, Do, Block, If, IfElse, While, For, NoStmts, Then, FunctionTree, ProgramTree}

abbrev HaveWords : List Declared → Type 0
HaveWords [] = Unit {0}
HaveWords (d ∷ ds) = (1 ≤ d.words) × HaveWords ds

both_have : (xs ys : List Declared) → HaveWords xs → HaveWords ys → HaveWords (xs ++ ys)
both_have [] ys h k = k
both_have (x ∷ xs) ys h k = (h.0, both_have xs ys h.1 k)

no_more_than_words : (ds : List Declared) → HaveWords ds → length ds ≤ sum (map (λ (d : Declared). d.words) ds)
no_more_than_words [] h = omega arith
no_more_than_words (d ∷ ds) h = let rest = no_more_than_words ds h.1 in let one = h.0 in let all = sum_by-cons (λ (n : ℕ). n) d.words (map (λ (e : Declared). e.words) ds) in omega (arith, rest, one, all)

module _ (c : Context) where
  simple_have : (s : SimpleTree) (scope : List ℕ) → IsSimpleScoped c scope s → HaveWords (simple_names s)
  simple_have (DeclareScalar x) scope h = (omega arith, tt)
  simple_have (DeclareArray x n) scope h = (h.2, tt)
  simple_have (DeclareWith x v) scope h = (omega arith, tt)
  simple_have _ scope h = tt

  simples_have : (ss : List SimpleTree) (scope : List ℕ) → AreSimplesScoped c scope ss → HaveWords (simples_names ss)
  simples_have [] scope h = tt
  simples_have (s ∷ ss) scope h = both_have (simple_names s) (simples_names ss) (simple_have s scope h.0) (simples_have ss (with_names scope (simple_names s)) h.1)

  step_have : (step : Option SimpleTree) (scope : List ℕ) → IsStepScoped c scope step → HaveWords (step_names step)
  step_have None scope h = tt
  step_have (Some s) scope h = simple_have s scope h.1

  mutual
    stmt_have : (s : StmtTree) (loop : Bool) (scope : List ℕ) → IsStmtScoped c loop scope s → HaveWords (stmt_names s)
    stmt_have (Do s) loop scope h = simple_have s scope h
    stmt_have (Block ss) loop scope h = stmts_have ss loop scope h
    stmt_have (If e s) loop scope h = stmt_have s loop scope h.1
    stmt_have (IfElse e s r) loop scope h = both_have (stmt_names s) (stmt_names r) (stmt_have s loop scope h.1) (stmt_have r loop scope h.2)
    stmt_have (While e s) loop scope h = stmt_have s true scope h.1
    stmt_have (For init e step s) loop scope h =
        both_have (simples_names init) (step_names step ++ stmt_names s) (simples_have init scope h.0)
        (both_have (step_names step) (stmt_names s) (step_have step (scope_after_all scope init) h.2) (stmt_have s true (scope_after_all scope init) h.3))
    stmt_have _ loop scope h = tt

    stmts_have : (ss : StmtTrees) (loop : Bool) (scope : List ℕ) → AreStmtsScoped c loop scope ss → HaveWords (stmts_names ss)
    stmts_have NoStmts loop scope h = tt
    stmts_have (Then s ss) loop scope h = both_have (stmt_names s) (stmts_names ss) (stmt_have s loop scope h.0) (stmts_have ss loop (scope_after scope s) h.1)

function_few : (program : ProgramTree) (f : FunctionTree) → IsFunctionScoped program f → length f.sizes ≤ 65536
function_few program f h =
    let names = stmts_names f.body in
    let all : length f.sizes ≡ length (scalars f.params ++ declared_words f) = ap length h.sizes in
    let long = length-append (scalars f.params) (declared_words f) in
    let first = scalars_length f.params in
    let many : length (declared_words f) ≡ length names = length-map names (λ (d : Declared). d.words) in
    let few = no_more_than_words names (stmts_have (context_of program f) f.body false (below f.params) h.body) in
    let six = h.params in
    let words = h.words in omega (arith, all, long, first, many, few, six, words)

functions_few : (program : ProgramTree) (fs : List FunctionTree) (f : ℕ) → AreFunctionsScoped program fs → length (slice_index_or fs f (record { name = []; params = 0; gives = false; sizes = []; body = NoStmts })).sizes ≤ 65536
functions_few program [] f h = omega arith
functions_few program (g ∷ fs) zero h = function_few program g h.0
functions_few program (g ∷ fs) (suc f) h = functions_few program fs f h.1

pub sizes_few : (program : ProgramTree) → IsWellScoped program → (f : ℕ) → length (function_at program f).sizes ≤ 65536
sizes_few program h f = functions_few program program.functions f h.bodies
