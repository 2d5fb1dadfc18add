-- A function has few variables for its operations: each declared name and each temporary has an operation.
use Rattle.decisions.proofs.Common.{◌≡◌, ℕ, ◌+◌, ◌*◌, ◌≤◌, max, Bool, true, false, List, [], ◌∷◌, ◌++◌, length, length-append, map, ap, ◌∙◌, arith, Option, Some, None, if◌then◌else◌, AllByRecursion, length-map, ExprTree, LocalElement, GlobalElement, Unary, Parenthesized, Binary, LogicalAnd, LogicalOr, Conditional, CallTree, CallFunction, CallTable, CallSpawn, CallModelled, RightTree, Computed, Called, SimpleTree, DeclareWith, SetLocal, SetGlobal, SetLocalElement, SetGlobalElement, Calling, StmtTree, StmtTrees, Do, Block, If, IfElse, While, For, Return, NoStmts, Then, FunctionTree, ProgramTree, IsFunctionScoped, AreFunctionsScoped, FlatFunction, closing_code, first_temporary, function_ops, function_sizes, lowered_function, closing_size}
use Rattle.c_tree.specs.Sizes.{scalars, declared_words}
use Rattle.c_tree.specs.Temporaries.{expr_temporaries, arguments_temporaries, call_temporaries, right_temporaries, held_temporaries, simple_temporaries, simples_temporaries, condition_temporaries, step_temporaries, returned_temporaries, stmt_temporaries, stmts_temporaries, function_temporaries}
use Rattle.c_tree.specs.TextOrder.{Declared, simple_names, simples_names, step_names, stmt_names, stmts_names}
use Rattle.c_lower.specs.ExprCode.{expr_size}
use Rattle.c_lower.specs.CallCode.{arguments_size, call_size, set_size, held_size}
use Rattle.c_lower.specs.StmtCode.{simple_size, simples_size, step_size, test_size, return_size, stmt_size, stmts_size, stmts_code}
use Rattle.c_lower.proofs.CodeSizes.{stmts_length}
use Rattle.machine_meaning.proofs.Lowered.{scalars_length}

-- ---- temporaries

expr_few : (e : ExprTree) → expr_temporaries e ≤ expr_size e
expr_few (LocalElement a i) = omega (arith, expr_few i)
expr_few (GlobalElement a i) = omega (arith, expr_few i)
expr_few (Unary op e) = omega (arith, expr_few e)
expr_few (Parenthesized e) = expr_few e
expr_few (Binary op l r) = omega (arith, expr_few l, expr_few r)
expr_few (LogicalAnd l r) = omega (arith, expr_few l, expr_few r)
expr_few (LogicalOr l r) = omega (arith, expr_few l, expr_few r)
expr_few (Conditional c a b) = omega (arith, expr_few c, expr_few a, expr_few b)
expr_few _ = omega arith

expr_some : (e : ExprTree) → 1 ≤ expr_size e
expr_some (Unary op e) = omega (arith, expr_some e)
expr_some (Parenthesized e) = expr_some e
expr_some _ = omega arith

arguments_few : (k : ℕ) (es : List ExprTree) → arguments_temporaries k es ≤ k + arguments_size es
arguments_few k [] = omega arith
arguments_few k (e ∷ es) = omega (arith, expr_few e, expr_some e, arguments_few (1 + k) es)

call_few : (c : CallTree) → call_temporaries c ≤ call_size c
call_few (CallFunction s f es) = omega (arith, arguments_few 0 es)
call_few (CallTable s t i e) = omega (arith, expr_few i, expr_few e)
call_few (CallSpawn s f e) = omega (arith, expr_few e)
call_few (CallModelled s m es) = omega (arith, arguments_few 0 es)

call_some : (c : CallTree) → 1 ≤ call_size c
call_some (CallFunction s f es) = omega arith
call_some _ = omega arith

set_few : (v : RightTree) → right_temporaries v ≤ set_size v
set_few (Computed e) = omega (arith, expr_few e)
set_few (Called c) = call_few c

held_few : (v : RightTree) → held_temporaries v ≤ held_size v
held_few (Computed e) = expr_few e
held_few (Called c) = omega (arith, call_few c, call_some c)

simple_few : (s : SimpleTree) → simple_temporaries s ≤ simple_size s
simple_few (DeclareWith x v) = set_few v
simple_few (SetLocal x v) = set_few v
simple_few (SetGlobal g v) = omega (arith, held_few v)
simple_few (SetLocalElement a i v) = omega (arith, expr_few i, held_few v)
simple_few (SetGlobalElement a i v) = omega (arith, expr_few i, held_few v)
simple_few (Calling c) = call_few c
simple_few _ = omega arith

simples_few : (ss : List SimpleTree) → simples_temporaries ss ≤ simples_size ss
simples_few [] = omega arith
simples_few (s ∷ ss) = omega (arith, simple_few s, simples_few ss)

condition_few : (c : Option ExprTree) → condition_temporaries c ≤ test_size c
condition_few None = omega arith
condition_few (Some e) = omega (arith, expr_few e)

step_few : (s : Option SimpleTree) → step_temporaries s ≤ step_size s
step_few None = omega arith
step_few (Some s) = simple_few s

returned_few : (v : Option RightTree) → returned_temporaries v ≤ return_size v
returned_few None = omega arith
returned_few (Some v) = omega (arith, held_few v)

mutual
  stmt_few : (s : StmtTree) → stmt_temporaries s ≤ stmt_size s
  stmt_few (Do s) = simple_few s
  stmt_few (Block ss) = stmts_few ss
  stmt_few (If c s) = omega (arith, expr_few c, stmt_few s)
  stmt_few (IfElse c s r) = omega (arith, expr_few c, stmt_few s, stmt_few r)
  stmt_few (While c s) = omega (arith, expr_few c, stmt_few s)
  stmt_few (For init c step s) = omega (arith, simples_few init, condition_few c, step_few step, stmt_few s)
  stmt_few (Return v) = returned_few v
  stmt_few _ = omega arith

  stmts_few : (ss : StmtTrees) → stmts_temporaries ss ≤ stmts_size ss
  stmts_few NoStmts = omega arith
  stmts_few (Then s ss) = omega (arith, stmt_few s, stmts_few ss)

-- ---- declared names

set_some : (v : RightTree) → 1 ≤ set_size v
set_some (Computed e) = omega arith
set_some (Called c) = call_some c

simple_named : (s : SimpleTree) → length (simple_names s) ≤ simple_size s
simple_named (DeclareWith x v) = set_some v
simple_named _ = omega arith

simples_named : (ss : List SimpleTree) → length (simples_names ss) ≤ simples_size ss
simples_named [] = omega arith
simples_named (s ∷ ss) = omega (arith, length-append (simple_names s) (simples_names ss), simple_named s, simples_named ss)

step_named : (s : Option SimpleTree) → length (step_names s) ≤ step_size s
step_named None = omega arith
step_named (Some s) = simple_named s

mutual
  stmt_named : (s : StmtTree) → length (stmt_names s) ≤ stmt_size s
  stmt_named (Do s) = simple_named s
  stmt_named (Block ss) = stmts_named ss
  stmt_named (If c s) = omega (arith, stmt_named s)
  stmt_named (IfElse c s r) = omega (arith, length-append (stmt_names s) (stmt_names r), stmt_named s, stmt_named r)
  stmt_named (While c s) = omega (arith, stmt_named s)
  stmt_named (For init c step s) =
      omega (arith, length-append (simples_names init) (step_names step ++ stmt_names s), length-append (step_names step) (stmt_names s), simples_named init, step_named step, stmt_named s)
  stmt_named _ = omega arith

  stmts_named : (ss : StmtTrees) → length (stmts_names ss) ≤ stmts_size ss
  stmts_named NoStmts = omega arith
  stmts_named (Then s ss) = omega (arith, length-append (stmt_names s) (stmts_names ss), stmt_named s, stmts_named ss)

-- ---- variables

gives_few : (gives : Bool) (t body : ℕ) → body ≤ t → max (if gives then 1 else 0) body ≤ t + 1
gives_few true t body few = omega (arith, few)
gives_few false t body few = omega (arith, few)

variables_few : (p : ProgramTree) (f : FunctionTree) → IsFunctionScoped p f → length (function_sizes f) ≤ f.params + 2 * length (function_ops f)
variables_few p f h =
    let body = stmts_size f.body in
    let names : length (declared_words f) ≡ length (stmts_names f.body) = length-map (stmts_names f.body) (λ (d : Declared). d.words) in
    let own : length f.sizes ≡ f.params + length (declared_words f) =
    ap length h.sizes ∙ (length-append (scalars f.params) (declared_words f) ∙ ap (λ (n : ℕ). n + length (declared_words f)) (scalars_length f.params)) in
    let all : length (function_sizes f) ≡ length f.sizes + function_temporaries f =
    length-append f.sizes (scalars (function_temporaries f)) ∙ ap (λ (n : ℕ). length f.sizes + n) (scalars_length (function_temporaries f)) in
    let ops : length (function_ops f) ≡ length (stmts_code f.body 0 (first_temporary f) 0 0) + length (closing_code f.gives (first_temporary f)) =
    length-append (stmts_code f.body 0 (first_temporary f) 0 0) (closing_code f.gives (first_temporary f)) in
    let few : function_temporaries f ≤ body + 1 = gives_few f.gives body (stmts_temporaries f.body) (stmts_few f.body) in
    omega (arith, names, own, all, ops, few, stmts_named f.body, stmts_length f.body 0 (first_temporary f) 0 0, closing_size f.gives (first_temporary f))

pub all_few : (p : ProgramTree) (fs : List FunctionTree) → AreFunctionsScoped p fs → AllByRecursion (λ (f : FlatFunction). length f.sizes ≤ f.params + 2 * length f.ops) (map lowered_function fs)
all_few p [] h = tt
all_few p (f ∷ fs) h = (variables_few p f h.0, all_few p fs h.1)
