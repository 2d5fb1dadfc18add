-- A small program, which the rows of trees build: `int h[3]; int g(int x) { return x; } int (*t[1])(int) = { g };
-- int main() { int a; int b; a = g(1); return a; }`
use Rattle.std.specs.Prelude.{true, [], ◌∷◌, Some}
use Rattle.c_tree.specs.Trees.{FunctionTree, ProgramTree, Number, Local, CallFunction, Computed, Called, DeclareScalar, SetLocal, Do, Return, NoStmts, Then}

abbrev pub identity_tree : FunctionTree
identity_tree = record { name = 103 ∷ []; params = 1; gives = true; sizes = 1 ∷ []; body = Then (Return (Some (Computed (Local 0)))) NoStmts }

abbrev pub caller_tree : FunctionTree
caller_tree = record {
  name = 109 ∷ 97 ∷ 105 ∷ 110 ∷ [];
  params = 0;
  gives = true;
  sizes = 1 ∷ 1 ∷ [];
  body = Then (Do (DeclareScalar 0)) (Then (Do (DeclareScalar 1)) (Then (Do (SetLocal 0 (Called (CallFunction 0 0 (Number 1 ∷ []))))) (Then (Return (Some (Computed (Local 0)))) NoStmts)));
}

abbrev pub sample_tree : ProgramTree
sample_tree = record { functions = identity_tree ∷ caller_tree ∷ []; globals = record { words = 3; start = 0 } ∷ []; tables = (0 ∷ []) ∷ []; main = 1 }
