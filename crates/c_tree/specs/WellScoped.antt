-- When a program is well scoped: everything that lets the crates above index without a test.
use Rattle.std.specs.Prelude.{ℕ, ◌^◌, ◌<◌, ◌≤◌, ◌≡◌, Bool, true, false, IsTrue, eqb, ◌||◌, List, [], ◌∷◌, length, map, sum, slice_index, Option, Some, None}
use Rattle.std.specs.List.{IsDistinct, AllByRecursion}
use Rattle.cap_word.specs.ModelledCalls.{parameters_of, gives_result}
use Rattle.cap_word.specs.Signatures.{Signature, signature_at, IsTable}
use Rattle.c_tree.specs.Trees.{ExprTree, Number, Local, Global, LocalElement, GlobalElement, Unary, Parenthesized, Binary, LogicalAnd, LogicalOr, Conditional, CallTree, CallFunction, CallTable, CallSpawn, CallModelled, RightTree, Computed, Called, SimpleTree, DeclareScalar, DeclareArray, DeclareWith, SetLocal, SetGlobal, SetLocalElement, SetGlobalElement, Calling, StmtTree, StmtTrees, Do, Empty, Block, If, IfElse, While, For, Break, Continue, Return, NoStmts, Then, FunctionTree, ProgramTree}
use Rattle.c_tree.specs.TextOrder.{Declared, simple_names, stmts_names, program_sites, counting}
use Rattle.c_tree.specs.Sizes.{below, declared_words, sizes_of}
use Rattle.c_tree.specs.Temporaries.{function_temporaries}

abbrev pub signature_of : FunctionTree → Signature
signature_of f = record { params = f.params; gives = f.gives }

-- what a body may name: functions, sizes of globals, the number of tables, sizes of its function's
-- variables, and whether its function is an int function
pub record Context : Type 0 where
  pub signatures : List Signature
  pub globals : List ℕ
  pub tables : ℕ
  pub sizes : List ℕ
  pub gives : Bool

abbrev pub context_of : ProgramTree → FunctionTree → Context
context_of p f = record { signatures = map signature_of p.functions; globals = map (λ g. g.words) p.globals; tables = length p.tables; sizes = f.sizes; gives = f.gives }

-- whether x is in scope
abbrev pub visible : ℕ → List ℕ → Bool
visible x [] = false
visible x (y ∷ ys) = eqb x y || visible x ys

-- an expression: its numbers are in range, its names are in scope, and a name without an index has one
-- word
abbrev pub IsExprScoped : Context → List ℕ → ExprTree → Type 0
IsExprScoped c scope (Number v) = v < 2 ^ 32
IsExprScoped c scope (Local x) = (x < length c.sizes) × (slice_index c.sizes x ≡ 1) × IsTrue (visible x scope)
IsExprScoped c scope (Global g) = (g < length c.globals) × (slice_index c.globals g ≡ 1)
IsExprScoped c scope (LocalElement a i) = (a < length c.sizes) × IsTrue (visible a scope) × IsExprScoped c scope i
IsExprScoped c scope (GlobalElement a i) = (a < length c.globals) × IsExprScoped c scope i
IsExprScoped c scope (Unary op e) = IsExprScoped c scope e
IsExprScoped c scope (Parenthesized e) = IsExprScoped c scope e
IsExprScoped c scope (Binary op l r) = IsExprScoped c scope l × IsExprScoped c scope r
IsExprScoped c scope (LogicalAnd l r) = IsExprScoped c scope l × IsExprScoped c scope r
IsExprScoped c scope (LogicalOr l r) = IsExprScoped c scope l × IsExprScoped c scope r
IsExprScoped c scope (Conditional e a b) = IsExprScoped c scope e × IsExprScoped c scope a × IsExprScoped c scope b

abbrev pub AreExprsScoped : Context → List ℕ → List ExprTree → Type 0
AreExprsScoped c scope [] = Unit {0}
AreExprsScoped c scope (e ∷ es) = IsExprScoped c scope e × AreExprsScoped c scope es

-- a call: its callee exists, and it has as many arguments as the callee has parameters
abbrev pub IsCallScoped : Context → List ℕ → CallTree → Type 0
IsCallScoped c scope (CallFunction s f es) = (f < length c.signatures) × (length es ≡ (signature_at c.signatures f).params) × AreExprsScoped c scope es
IsCallScoped c scope (CallTable s t i e) = (t < c.tables) × IsExprScoped c scope i × IsExprScoped c scope e
IsCallScoped c scope (CallSpawn s f e) = (f < length c.signatures) × ((signature_at c.signatures f).params ≡ 1) × IsExprScoped c scope e
IsCallScoped c scope (CallModelled s m es) = (length es ≡ parameters_of m) × AreExprsScoped c scope es

-- whether a call gives a result
abbrev pub call_gives : Context → CallTree → Bool
call_gives c (CallFunction s f es) = (signature_at c.signatures f).gives
call_gives c (CallTable s t i e) = true
call_gives c (CallSpawn s f e) = true
call_gives c (CallModelled s m es) = gives_result m

-- a right side: a result is used only if the call gives one
abbrev pub IsRightScoped : Context → List ℕ → RightTree → Type 0
IsRightScoped c scope (Computed e) = IsExprScoped c scope e
IsRightScoped c scope (Called k) = IsCallScoped c scope k × IsTrue (call_gives c k)

-- a declaration's name is in scope only after the declaration: this is the scope before it
abbrev pub IsSimpleScoped : Context → List ℕ → SimpleTree → Type 0
IsSimpleScoped c scope (DeclareScalar x) = (x < length c.sizes) × (slice_index c.sizes x ≡ 1)
IsSimpleScoped c scope (DeclareArray x n) = (x < length c.sizes) × (slice_index c.sizes x ≡ n) × (1 ≤ n)
IsSimpleScoped c scope (DeclareWith x v) = (x < length c.sizes) × (slice_index c.sizes x ≡ 1) × IsRightScoped c scope v
IsSimpleScoped c scope (SetLocal x v) = (x < length c.sizes) × (slice_index c.sizes x ≡ 1) × IsTrue (visible x scope) × IsRightScoped c scope v
IsSimpleScoped c scope (SetGlobal g v) = (g < length c.globals) × (slice_index c.globals g ≡ 1) × IsRightScoped c scope v
IsSimpleScoped c scope (SetLocalElement a i v) = (a < length c.sizes) × IsTrue (visible a scope) × IsExprScoped c scope i × IsRightScoped c scope v
IsSimpleScoped c scope (SetGlobalElement a i v) = (a < length c.globals) × IsExprScoped c scope i × IsRightScoped c scope v
IsSimpleScoped c scope (Calling k) = IsCallScoped c scope k

-- a scope, with the names that have been declared in it since, in order
abbrev pub with_names : List ℕ → List Declared → List ℕ
with_names scope [] = scope
with_names scope (d ∷ ds) = with_names (d.variable ∷ scope) ds

-- the scope after a statement: only a declaration directly in this scope adds a name to it
abbrev pub scope_after : List ℕ → StmtTree → List ℕ
scope_after scope (Do s) = with_names scope (simple_names s)
scope_after scope Empty = scope
scope_after scope (Block ss) = scope
scope_after scope (If c s) = scope
scope_after scope (IfElse c s r) = scope
scope_after scope (While c s) = scope
scope_after scope (For init c step s) = scope
scope_after scope Break = scope
scope_after scope Continue = scope
scope_after scope (Return v) = scope

-- the first part of a for, one declaration or assignment after another
abbrev pub AreSimplesScoped : Context → List ℕ → List SimpleTree → Type 0
AreSimplesScoped c scope [] = Unit {0}
AreSimplesScoped c scope (s ∷ ss) = IsSimpleScoped c scope s × AreSimplesScoped c (with_names scope (simple_names s)) ss

abbrev pub scope_after_all : List ℕ → List SimpleTree → List ℕ
scope_after_all scope [] = scope
scope_after_all scope (s ∷ ss) = scope_after_all (with_names scope (simple_names s)) ss

abbrev pub IsConditionScoped : Context → List ℕ → Option ExprTree → Type 0
IsConditionScoped c scope None = Unit {0}
IsConditionScoped c scope (Some e) = IsExprScoped c scope e

-- the step of a for, which declares nothing
abbrev pub IsStepScoped : Context → List ℕ → Option SimpleTree → Type 0
IsStepScoped c scope None = Unit {0}
IsStepScoped c scope (Some s) = (length (simple_names s) ≡ 0) × IsSimpleScoped c scope s

-- a return has a value exactly in an int function
abbrev pub IsReturnScoped : Context → List ℕ → Option RightTree → Type 0
IsReturnScoped c scope None = c.gives ≡ false
IsReturnScoped c scope (Some v) = (c.gives ≡ true) × IsRightScoped c scope v

-- a statement; `loop` says whether it is in a loop: break and continue are allowed only there
abbrev mutual
  pub IsStmtScoped : Context → Bool → List ℕ → StmtTree → Type 0
  IsStmtScoped c loop scope (Do s) = IsSimpleScoped c scope s
  IsStmtScoped c loop scope Empty = Unit {0}
  IsStmtScoped c loop scope (Block ss) = AreStmtsScoped c loop scope ss
  IsStmtScoped c loop scope (If e s) = IsExprScoped c scope e × IsStmtScoped c loop scope s
  IsStmtScoped c loop scope (IfElse e s r) = IsExprScoped c scope e × IsStmtScoped c loop scope s × IsStmtScoped c loop scope r
  IsStmtScoped c loop scope (While e s) = IsExprScoped c scope e × IsStmtScoped c true scope s
  IsStmtScoped c loop scope (For init e step s) = AreSimplesScoped c scope init × IsConditionScoped c (scope_after_all scope init) e × IsStepScoped c (scope_after_all scope init) step × IsStmtScoped c true (scope_after_all scope init) s
  IsStmtScoped c loop scope Break = IsTrue loop
  IsStmtScoped c loop scope Continue = IsTrue loop
  IsStmtScoped c loop scope (Return v) = IsReturnScoped c scope v

  pub AreStmtsScoped : Context → Bool → List ℕ → StmtTrees → Type 0
  AreStmtsScoped c loop scope NoStmts = Unit {0}
  AreStmtsScoped c loop scope (Then s ss) = IsStmtScoped c loop scope s × AreStmtsScoped c loop (scope_after scope s) ss

-- a function: its variables are its parameters followed by its declared names in the order of the text,
-- it is within the limits, and its body is well scoped
pub record IsFunctionScoped (p : ProgramTree) (f : FunctionTree) : Type 0 where
  pub params : f.params ≤ 6
  pub sizes : f.sizes ≡ sizes_of f
  pub order : counting f.params (map (λ d. d.variable) (stmts_names f.body))
  pub words : sum (declared_words f) ≤ 4096
  pub temporaries : function_temporaries f ≤ 65536
  pub body : AreStmtsScoped (context_of p f) false (below f.params) f.body

abbrev pub AreFunctionsScoped : ProgramTree → List FunctionTree → Type 0
AreFunctionsScoped p [] = Unit {0}
AreFunctionsScoped p (f ∷ fs) = IsFunctionScoped p f × AreFunctionsScoped p fs

-- numbers of sites: all different, and below their count
abbrev pub AreSiteNumbers : List ℕ → Type 0
AreSiteNumbers ns = IsDistinct eqb ns × AllByRecursion (λ n. n < length ns) ns

-- a program
pub record IsWellScoped (p : ProgramTree) : Type 0 where
  pub bodies : AreFunctionsScoped p p.functions
  pub functions : length p.functions ≤ 4096
  pub main_defined : p.main < length p.functions
  pub main_params : (signature_at (map signature_of p.functions) p.main).params ≡ 0
  pub site_numbers : AreSiteNumbers (map (λ s. s.number) (program_sites p))
  pub sites : length (program_sites p) ≤ 65535
  pub global_sizes : AllByRecursion (λ g. 1 ≤ g.words) p.globals
  pub global_words : sum (map (λ g. g.words) p.globals) ≤ 65536
  pub tables : AllByRecursion (IsTable (map signature_of p.functions)) p.tables
  pub table_members : sum (map length p.tables) ≤ 65536
