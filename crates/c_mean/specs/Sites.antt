-- The calls in a function's text: what is still to do after each, and which names are in scope there.
use Rattle.std.specs.Prelude.{◌≡◌, ℕ, List, [], ◌∷◌, ◌++◌, map, Option, Some, None}
use Rattle.std.specs.List.{Contains}
use Rattle.c_tree.specs.Trees.{CallTree, RightTree, Computed, Called, SimpleTree, DeclareScalar, DeclareArray, DeclareWith, SetLocal, SetGlobal, SetLocalElement, SetGlobalElement, Calling, StmtTree, StmtTrees, Do, Empty, Block, If, IfElse, While, For, Break, Continue, Return, NoStmts, Then, FunctionTree, ProgramTree}
use Rattle.c_tree.specs.TextOrder.{simple_names, call_site}
use Rattle.c_tree.specs.Sizes.{below}
use Rattle.c_tree.specs.WellScoped.{with_names, scope_after, scope_after_all}
use Rattle.c_mean.specs.ToDo.{Item, Simply, Back, WhileLoop, ForLoop, step_item, all_before, turn_before}
use Rattle.c_mean.specs.Frames.{Place, Nowhere, InLocal, InGlobal, InLocalElement, InGlobalElement, Returned, WaitingFrame, function_at}

-- the destination of a result in the text: a place without its index
pub data Target : Type 0 where
  ToNowhere : Target
  ToLocal : (x : ℕ) → Target
  ToGlobal : (g : ℕ) → Target
  ToLocalElement : (a : ℕ) → Target
  ToGlobalElement : (a : ℕ) → Target
  ToCaller : Target

abbrev pub target_of : Place → Target
target_of Nowhere = ToNowhere
target_of (InLocal x) = ToLocal x
target_of (InGlobal g) = ToGlobal g
target_of (InLocalElement a i) = ToLocalElement a
target_of (InGlobalElement a i) = ToGlobalElement a
target_of Returned = ToCaller

-- a call in the text of a function, and what is still to do after it
pub record CallInText : Type 0 where
  pub call : CallTree
  pub target : Target
  pub scope : List ℕ
  pub rest : List Item

abbrev pub right_calls : RightTree → Target → List ℕ → List Item → List CallInText
right_calls (Computed e) target scope rest = []
right_calls (Called call) target scope rest = record { call = call; target = target; scope = scope; rest = rest } ∷ []

-- the calls of a statement, given the names in scope before it and what is still to do after it
abbrev pub simple_calls : SimpleTree → List ℕ → List Item → List CallInText
simple_calls (DeclareScalar x) scope rest = []
simple_calls (DeclareArray x n) scope rest = []
simple_calls (DeclareWith x v) scope rest = right_calls v (ToLocal x) scope rest
simple_calls (SetLocal x v) scope rest = right_calls v (ToLocal x) scope rest
simple_calls (SetGlobal g v) scope rest = right_calls v (ToGlobal g) scope rest
simple_calls (SetLocalElement a i v) scope rest = right_calls v (ToLocalElement a) scope rest
simple_calls (SetGlobalElement a i v) scope rest = right_calls v (ToGlobalElement a) scope rest
simple_calls (Calling call) scope rest = right_calls (Called call) ToNowhere scope rest

-- the calls of the first part of a `for`
abbrev pub simples_calls : List SimpleTree → List ℕ → List Item → List CallInText
simples_calls [] scope rest = []
simples_calls (s ∷ ss) scope rest = simple_calls s scope (map Simply ss ++ rest) ++ simples_calls ss (with_names scope (simple_names s)) rest

abbrev pub step_calls : Option SimpleTree → List ℕ → List Item → List CallInText
step_calls None scope rest = []
step_calls (Some s) scope rest = simple_calls s scope rest

abbrev pub returned_calls : Option RightTree → List ℕ → List Item → List CallInText
returned_calls None scope rest = []
returned_calls (Some v) scope rest = right_calls v ToCaller scope rest

abbrev mutual
  pub stmt_calls : StmtTree → List ℕ → List Item → List CallInText
  stmt_calls (Do s) scope rest = simple_calls s scope rest
  stmt_calls Empty scope rest = []
  stmt_calls (Block ss) scope rest = stmts_calls ss scope rest
  stmt_calls (If c s) scope rest = stmt_calls s scope rest
  stmt_calls (IfElse c s r) scope rest = stmt_calls s scope rest ++ stmt_calls r scope rest
  stmt_calls (While c s) scope rest = stmt_calls s scope (Back (WhileLoop c s) ∷ rest)
  stmt_calls (For init c step s) scope rest =
      simples_calls init scope (turn_before (ForLoop c step s) rest)
      ++ (step_calls step (scope_after_all scope init) (Back (ForLoop c step s) ∷ rest)
      ++ stmt_calls s (scope_after_all scope init) (step_item step ++ Back (ForLoop c step s) ∷ rest))
  stmt_calls Break scope rest = []
  stmt_calls Continue scope rest = []
  stmt_calls (Return v) scope rest = returned_calls v scope rest

  pub stmts_calls : StmtTrees → List ℕ → List Item → List CallInText
  stmts_calls NoStmts scope rest = []
  stmts_calls (Then s ss) scope rest = stmt_calls s scope (all_before ss rest) ++ stmts_calls ss (scope_after scope s) rest

-- the calls of a function, in the order of the text; its parameters are in scope from the start
abbrev pub function_calls : FunctionTree → List CallInText
function_calls f = stmts_calls f.body (below f.params) []

abbrev pub site_of : CallInText → ℕ
site_of call = (call_site call.call).number

-- a frame waits at a call of its function's text: its site is that of the call, its result goes to the place in the
-- text, and what follows the call is what it has still to do
pub record WaitsAt (program : ProgramTree) (waiting : WaitingFrame) (call : CallInText) : Type 0 where
  pub in_text : Contains (function_calls (function_at program waiting.frame.function)) call
  pub site : waiting.site ≡ site_of call
  pub target : target_of waiting.place ≡ call.target
  pub rest : waiting.frame.to_do ≡ call.rest

abbrev pub WaitsInText : ProgramTree → WaitingFrame → Type 0
WaitsInText program waiting = (call : CallInText) × WaitsAt program waiting call
