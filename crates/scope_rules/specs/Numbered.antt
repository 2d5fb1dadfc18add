-- A program whose call sites are renumbered by a table: k is replaced by entry k of the table.
use Rattle.std.specs.Prelude.{ℕ, ◌≡◌, true, List, [], map, None, option_map, slice_index_or}
use Rattle.c_tree.specs.RawTrees.{RawItemTree}
use Rattle.c_tree.specs.Trees.{CallTree, CallFunction, CallTable, CallSpawn, CallModelled, RightTree, Computed, Called, SimpleTree, DeclareScalar, DeclareArray, DeclareWith, SetLocal, SetGlobal, SetLocalElement, SetGlobalElement, Calling, StmtTree, StmtTrees, Do, Empty, Block, If, IfElse, While, For, Break, Continue, Return, NoStmts, Then, FunctionTree, ProgramTree}
use Rattle.scope_rules.specs.Items.{faults_of, has_main, program_of}
use Rattle.scope_rules.specs.Limits.{exceeded}

abbrev pub number_at : List ℕ → ℕ → ℕ
number_at numbers k = slice_index_or numbers k k

abbrev pub call_numbered : List ℕ → CallTree → CallTree
call_numbered numbers (CallFunction s f es) = CallFunction (number_at numbers s) f es
call_numbered numbers (CallTable s t i e) = CallTable (number_at numbers s) t i e
call_numbered numbers (CallSpawn s f e) = CallSpawn (number_at numbers s) f e
call_numbered numbers (CallModelled s m es) = CallModelled (number_at numbers s) m es

abbrev pub right_numbered : List ℕ → RightTree → RightTree
right_numbered numbers (Computed e) = Computed e
right_numbered numbers (Called call) = Called (call_numbered numbers call)

abbrev pub simple_numbered : List ℕ → SimpleTree → SimpleTree
simple_numbered numbers (DeclareScalar x) = DeclareScalar x
simple_numbered numbers (DeclareArray x n) = DeclareArray x n
simple_numbered numbers (DeclareWith x v) = DeclareWith x (right_numbered numbers v)
simple_numbered numbers (SetLocal x v) = SetLocal x (right_numbered numbers v)
simple_numbered numbers (SetGlobal g v) = SetGlobal g (right_numbered numbers v)
simple_numbered numbers (SetLocalElement a i v) = SetLocalElement a i (right_numbered numbers v)
simple_numbered numbers (SetGlobalElement a i v) = SetGlobalElement a i (right_numbered numbers v)
simple_numbered numbers (Calling call) = Calling (call_numbered numbers call)

abbrev mutual
  pub stmt_numbered : List ℕ → StmtTree → StmtTree
  stmt_numbered numbers (Do s) = Do (simple_numbered numbers s)
  stmt_numbered numbers Empty = Empty
  stmt_numbered numbers (Block ss) = Block (stmts_numbered numbers ss)
  stmt_numbered numbers (If c s) = If c (stmt_numbered numbers s)
  stmt_numbered numbers (IfElse c s r) = IfElse c (stmt_numbered numbers s) (stmt_numbered numbers r)
  stmt_numbered numbers (While c s) = While c (stmt_numbered numbers s)
  stmt_numbered numbers (For init c step s) = For (map (simple_numbered numbers) init) c (option_map (simple_numbered numbers) step) (stmt_numbered numbers s)
  stmt_numbered numbers Break = Break
  stmt_numbered numbers Continue = Continue
  stmt_numbered numbers (Return v) = Return (option_map (right_numbered numbers) v)

  pub stmts_numbered : List ℕ → StmtTrees → StmtTrees
  stmts_numbered numbers NoStmts = NoStmts
  stmts_numbered numbers (Then s ss) = Then (stmt_numbered numbers s) (stmts_numbered numbers ss)

abbrev pub function_numbered : List ℕ → FunctionTree → FunctionTree
function_numbered numbers f = record f { body = stmts_numbered numbers f.body }

abbrev pub numbered : List ℕ → ProgramTree → ProgramTree
numbered numbers p = record p { functions = map (function_numbered numbers) p.functions }

-- a source is this program, with these numbers of its calls in the order of the tree
pub record IsResolvedBy (numbers : List ℕ) (is : List RawItemTree) (p : ProgramTree) : Type 0 where
  pub rules : faults_of is ≡ []
  pub main : has_main is ≡ true
  pub limits : exceeded (program_of is) ≡ None
  pub tree : p ≡ numbered numbers (program_of is)
