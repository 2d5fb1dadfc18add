-- The declared names and the calls of a tree, in the order of the tree: of a `for`, the first part, the step and the
-- body.
use Rattle.std.specs.Prelude.{ℕ, ◌+◌, ◌≡◌, List, [], ◌∷◌, ◌++◌, Option, Some, None}
use Rattle.c_tree.specs.declared.facts.Site.{Site}
use Rattle.c_tree.specs.declared.facts.SiteKind.{SiteKind}
use Rattle.c_tree.specs.Trees.{CallTree, CallFunction, CallTable, CallSpawn, CallModelled, RightTree, Computed, Called, SimpleTree, DeclareScalar, DeclareArray, DeclareWith, SetLocal, SetGlobal, SetLocalElement, SetGlobalElement, Calling, StmtTree, StmtTrees, Do, Empty, Block, If, IfElse, While, For, Break, Continue, Return, NoStmts, Then, FunctionTree, ProgramTree}
use Rattle.cap_word.specs.ModelledCalls.{number_of}

-- a declared name: its variable, and its size in words
pub record Declared : Type 0 where
  pub variable : ℕ
  pub words : ℕ

abbrev pub scalar : ℕ → Declared
scalar x = record { variable = x; words = 1 }

abbrev pub simple_names : SimpleTree → List Declared
simple_names (DeclareScalar x) = scalar x ∷ []
simple_names (DeclareArray x n) = record { variable = x; words = n } ∷ []
simple_names (DeclareWith x v) = scalar x ∷ []
simple_names (SetLocal x v) = []
simple_names (SetGlobal g v) = []
simple_names (SetLocalElement a i v) = []
simple_names (SetGlobalElement a i v) = []
simple_names (Calling c) = []

abbrev pub simples_names : List SimpleTree → List Declared
simples_names [] = []
simples_names (s ∷ ss) = simple_names s ++ simples_names ss

abbrev pub step_names : Option SimpleTree → List Declared
step_names None = []
step_names (Some s) = simple_names s

-- the names that a statement declares, including those in the statements in it
abbrev mutual
  pub stmt_names : StmtTree → List Declared
  stmt_names (Do s) = simple_names s
  stmt_names Empty = []
  stmt_names (Block ss) = stmts_names ss
  stmt_names (If c s) = stmt_names s
  stmt_names (IfElse c s r) = stmt_names s ++ stmt_names r
  stmt_names (While c s) = stmt_names s
  stmt_names (For init c step s) = simples_names init ++ (step_names step ++ stmt_names s)
  stmt_names Break = []
  stmt_names Continue = []
  stmt_names (Return v) = []

  pub stmts_names : StmtTrees → List Declared
  stmts_names NoStmts = []
  stmts_names (Then s ss) = stmt_names s ++ stmts_names ss

-- the site of a call
abbrev pub call_site : CallTree → Site
call_site (CallFunction s f es) = record { number = s; kind = SiteKind.Function f }
call_site (CallTable s t i e) = record { number = s; kind = SiteKind.Table t }
call_site (CallSpawn s f e) = record { number = s; kind = SiteKind.Spawn f }
call_site (CallModelled s m es) = record { number = s; kind = SiteKind.Modelled (number_of m) }

abbrev pub right_sites : RightTree → List Site
right_sites (Computed e) = []
right_sites (Called c) = call_site c ∷ []

abbrev pub returned_sites : Option RightTree → List Site
returned_sites None = []
returned_sites (Some v) = right_sites v

abbrev pub simple_sites : SimpleTree → List Site
simple_sites (DeclareScalar x) = []
simple_sites (DeclareArray x n) = []
simple_sites (DeclareWith x v) = right_sites v
simple_sites (SetLocal x v) = right_sites v
simple_sites (SetGlobal g v) = right_sites v
simple_sites (SetLocalElement a i v) = right_sites v
simple_sites (SetGlobalElement a i v) = right_sites v
simple_sites (Calling c) = call_site c ∷ []

abbrev pub simples_sites : List SimpleTree → List Site
simples_sites [] = []
simples_sites (s ∷ ss) = simple_sites s ++ simples_sites ss

abbrev pub step_sites : Option SimpleTree → List Site
step_sites None = []
step_sites (Some s) = simple_sites s

-- the calls of a statement, including those in the statements in it
abbrev mutual
  pub stmt_sites : StmtTree → List Site
  stmt_sites (Do s) = simple_sites s
  stmt_sites Empty = []
  stmt_sites (Block ss) = stmts_sites ss
  stmt_sites (If c s) = stmt_sites s
  stmt_sites (IfElse c s r) = stmt_sites s ++ stmt_sites r
  stmt_sites (While c s) = stmt_sites s
  stmt_sites (For init c step s) = simples_sites init ++ (step_sites step ++ stmt_sites s)
  stmt_sites Break = []
  stmt_sites Continue = []
  stmt_sites (Return v) = returned_sites v

  pub stmts_sites : StmtTrees → List Site
  stmts_sites NoStmts = []
  stmts_sites (Then s ss) = stmt_sites s ++ stmts_sites ss

abbrev pub functions_sites : List FunctionTree → List Site
functions_sites [] = []
functions_sites (f ∷ fs) = stmts_sites f.body ++ functions_sites fs

-- the calls of a program
abbrev pub program_sites : ProgramTree → List Site
program_sites p = functions_sites p.functions

-- n numbers, each one higher than the last, from k on
abbrev pub counting : ℕ → List ℕ → Type 0
counting k [] = Unit {0}
counting k (n ∷ ns) = (n ≡ k) × counting (1 + k) ns
